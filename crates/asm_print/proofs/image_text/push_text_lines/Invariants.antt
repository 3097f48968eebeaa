use Rattle.std.proofs.Common.{◌≡◌, ◌++◌, take}
use Rattle.asm_print.specs.ListingText.{text_lines}
use Rattle.asm_print.proofs.image_text.push_text_lines.Given as goal

abbrev pub invariant-loop-place : goal.invariant-loop-place
invariant-loop-place l = l.out.items ≡ l.initial.out.items ++ text_lines 0 (take l.place l.words)
