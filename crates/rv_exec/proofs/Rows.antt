-- An instruction that a word is read as has a row.
use Rattle.std.proofs.Common.{◌≡◌, ℕ, ◌^◌, ◌<◌, Some}
use Rattle.pmsi_model.specs.declared.instr.Instr.{Instr}
use Rattle.pmsi_model.specs.Instruction.{HasRow, read_by, instruction_rows, instr_of}
use Rattle.pmsi_model.proofs.Encodings.{reads_one_way}

pub has_row : (word : ℕ) (instr : Instr) → word < 2 ^ 32 → read_by instruction_rows word ≡ Some instr → HasRow instr
unfolding instr_of
has_row word instr within read = (word, (reads_one_way word instr within).1 read)
