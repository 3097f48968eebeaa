-- The numbers of registers.
use Rattle.std.proofs.Common.{ℕ, ◌<◌, List, [], ◌∷◌, rules, arith}
use Rattle.std.specs.Prelude.{IfSome}
use Rattle.std.specs.List.{AllByRecursion}
use Rattle.asm_operands.specs.Numbers.{registers, register_named, value_in}

each_value : (rows : List (List ℕ × ℕ)) (text : List ℕ) → AllByRecursion (λ row. row.1 < 32) rows → IfSome (value_in rows text) (λ n. n < 32)
each_value [] text small = tt
each_value (row ∷ rows) text small = grind (arith, each_value rows text small.1, small.0)

small_numbers : AllByRecursion (λ row. row.1 < 32) registers
unfolding registers
small_numbers = search rules

-- a register is one of 32
pub is_small : (text : List ℕ) → IfSome (register_named text) (λ n. n < 32)
unfolding register_named
is_small text = each_value registers text small_numbers
