-- The text of one register.
use Rattle.std.specs.Prelude.{ℕ, List, [], ◌++◌, codes, decimal, ◌==◌, if◌then◌else◌}
use Rattle.pmsi_model.specs.Lines.{hex_word}

-- ` xR=0x........`, or nothing where the register is 0
abbrev pub reg_text : ℕ → ℕ → List ℕ
reg_text number value = if value == 0 then [] else codes " x" ++ decimal number ++ codes "=" ++ hex_word value
