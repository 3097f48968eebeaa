use Rattle.std.proofs.Common.{◌≡◌, ◌++◌, take}
use Rattle.pmsi_model.specs.Lines.{hex_bytes}
use Rattle.text_out.proofs.pieces.push_hex_bytes.Given as goal

abbrev pub invariant-loop-byte : goal.invariant-loop-byte
invariant-loop-byte l = l.out.items ≡ l.fn.out.items ++ hex_bytes (take l.byte-index l.bytes)
