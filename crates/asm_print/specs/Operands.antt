-- Operands in assembly. A number has decimal digits, and a `-` before them where it is below 0.
use Rattle.std.specs.Prelude.{ℕ, ℤ, List, [], ◌∷◌, ◌++◌, codes, decimal}
use Rattle.std.specs.Fmt.{signed_decimal}
use Rattle.std.specs.List.{flat_map}
use Rattle.asm_print.specs.declared.operands.Operand.{Operand}
use Rattle.asm_print.specs.declared.operands.Operand.TheVariants.{Register, Number, Offset, Direct}

-- `x0` to `x31`
abbrev pub register_text : ℕ → List ℕ
register_text number = codes "x" ++ decimal number

-- the address in a register: `(x5)`
abbrev pub direct_text : ℕ → List ℕ
direct_text base = codes "(" ++ register_text base ++ codes ")"

-- an offset from the address in a register: `-4(x5)`
abbrev pub offset_text : ℤ → ℕ → List ℕ
offset_text offset base = signed_decimal offset ++ direct_text base

-- texts joined by a comma and one space
abbrev pub joined : List (List ℕ) → List ℕ
joined [] = []
joined (text ∷ texts) = text ++ flat_map (λ other. codes ", " ++ other) texts

-- the operand that the printer is handed
abbrev pub operand_text : Operand → List ℕ
operand_text (Register number) = register_text number
operand_text (Number number) = signed_decimal number
operand_text (Offset offset base) = offset_text offset base
operand_text (Direct base) = direct_text base
