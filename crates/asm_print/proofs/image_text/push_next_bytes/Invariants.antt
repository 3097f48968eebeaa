use Rattle.std.proofs.Common.{◌≡◌, ◌++◌, take, codes}
use Rattle.std.specs.List.{flat_map}
use Rattle.asm_print.specs.ListingText.{byte_text}
use Rattle.asm_print.proofs.image_text.push_next_bytes.Given as goal

abbrev pub invariant-loop-byte : goal.invariant-loop-byte
invariant-loop-byte l = l.out.items ≡ l.fn.out.items ++ flat_map (λ byte. codes ", " ++ byte_text byte) (take l.byte-index l.bytes)
