-- Words and their instructions.
use Rattle.std.proofs.Common.{◌≡◌, ℕ, ◌^◌, ◌<◌, Option, Some, None, IfSome, sym}
use Rattle.pmsi_model.specs.declared.instr.Instr.{Instr}
use Rattle.pmsi_model.specs.Instruction.{HasRow, instr_of}
use Rattle.pmsi_model.proofs.Encodings.{reads_one_way}

-- what a word decodes to has a row
pub has_row : (word : ℕ) (instr : Option Instr) → word < 2 ^ 32 → instr ≡ instr_of word → IfSome instr HasRow
has_row word None fits is = tt
has_row word (Some instr) fits is = (word, (reads_one_way word instr fits).1 (sym is))
