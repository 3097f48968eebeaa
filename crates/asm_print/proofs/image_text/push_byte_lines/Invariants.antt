use Rattle.std.proofs.Common.{◌≡◌, ◌+◌, ◌/◌, ◌++◌, length}
use Rattle.asm_print.specs.ListingText.{byte_lines}
use Rattle.asm_print.proofs.image_text.push_byte_lines.Given as goal

abbrev pub invariant-loop-rest : goal.invariant-loop-rest
invariant-loop-rest l = l.out.items ++ byte_lines ((length l.rest + 15) / 16) l.rest ≡ l.initial.out.items ++ byte_lines ((length l.bytes + 15) / 16) l.bytes

abbrev pub decreases-loop-rest : goal.decreases-loop-rest
decreases-loop-rest l = length l.rest
