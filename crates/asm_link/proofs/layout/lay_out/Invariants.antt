use Rattle.std.proofs.Common.{◌+◌, ◌≤◌, length}
use denote.Text.{Utf8}
use denote.Shadow.{shadow}
use Rattle.std.specs.List.{All}
use Rattle.asm_link.specs.Filled.{IsKept}
use Rattle.asm_link.specs.Rounds.{HasAllRoom, IsWithin}
use Rattle.asm_link.proofs.Rounds.{IsReadTo}
use Rattle.asm_link.proofs.layout.lay_out.Given as goal

abbrev pub invariant-loop-line : goal.invariant-loop-line
invariant-loop-line l = shadow (Utf8 l.rest) × IsReadTo l.source l.layout l.rest × IsWithin l.layout.place × (l.layout.number + length l.rest ≤ length l.source + 1)
    × All IsKept l.layout.steps.items × HasAllRoom l.layout

abbrev pub decreases-loop-line : goal.decreases-loop-line
decreases-loop-line l = length l.rest
