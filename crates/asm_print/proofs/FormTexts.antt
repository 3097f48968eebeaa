-- The operands of each form read back from their texts.
use Rattle.std.proofs.Common.{◌≡◌, ℕ, ◌+◌, ◌<◌, true, List, [], refl}
use Rattle.std.specs.Prelude.{ℤ}
use Rattle.asm_operands.specs.Numbers.{is_number}
use Rattle.asm_operands.specs.Operands.{Taken, Expr, Imm, take_ri, take_re, take_rm, take_rri, take_rre, take_rrr, take_rrb}
use Rattle.asm_parse.specs.Mnemonics.{Item, form_rrr, form_ri, form_rri, form_rm, form_rrb, form_re, form_rre}
use Rattle.asm_print.proofs.Spelling.{written}
use Rattle.asm_print.proofs.OperandTexts.{number_then, register_then, direct_then, comma_then, behind_register, number_expr, number_imm, expr, imm, register, base, memory, next}

-- the column of the operand behind a register
pub next_column : ℕ → ℕ → ℕ
next_column column r = behind_register column r + 1 + 1

pub reads_ri : (f : ℕ → Imm → List Item) (r column : ℕ) (z : ℤ) → r < 32 → is_number z ≡ true →
    form_ri f [] (written column (register_then r (comma_then (number_then z [])))) ≡ Taken (f r (number_imm (next_column column r) z)) []
unfolding next_column take_ri
reads_ri f r column z low is =
    rw (register r column (comma_then (number_then z [])) low) (rw next (rw (imm z (behind_register column r + 1 + 1) [] is) refl))

pub reads_re : (f : ℕ → Expr → List Item) (r column : ℕ) (z : ℤ) → r < 32 → is_number z ≡ true →
    form_re f [] (written column (register_then r (comma_then (number_then z [])))) ≡ Taken (f r (number_expr (next_column column r) z)) []
unfolding next_column take_re
reads_re f r column z low is =
    rw (register r column (comma_then (number_then z [])) low) (rw next (rw (expr z (behind_register column r + 1 + 1) [] is) refl))

pub reads_rm : (f : ℕ → Imm → ℕ → List Item) (r s column : ℕ) (z : ℤ) → r < 32 → s < 32 → is_number z ≡ true →
    form_rm f [] (written column (register_then r (comma_then (number_then z (direct_then s []))))) ≡ Taken (f r (number_imm (next_column column r) z) s) []
unfolding next_column take_rm
reads_rm f r s column z low low' is =
    rw (register r column (comma_then (number_then z (direct_then s []))) low) (rw next (rw (memory z s (behind_register column r + 1 + 1) [] is low') refl))

pub reads_rri : (f : ℕ → ℕ → Imm → List Item) (r s column : ℕ) (z : ℤ) → r < 32 → s < 32 → is_number z ≡ true →
    form_rri f [] (written column (register_then r (comma_then (register_then s (comma_then (number_then z [])))))) ≡ Taken (f r s (number_imm (next_column (next_column column r) s) z)) []
unfolding next_column take_rri
reads_rri f r s column z low low' is =
    rw (register r column (comma_then (register_then s (comma_then (number_then z [])))) low) (rw next
    (rw (register s (behind_register column r + 1 + 1) (comma_then (number_then z [])) low') (rw next
    (rw (imm z (behind_register (behind_register column r + 1 + 1) s + 1 + 1) [] is) refl))))

pub reads_rre : (f : ℕ → ℕ → Expr → List Item) (r s column : ℕ) (z : ℤ) → r < 32 → s < 32 → is_number z ≡ true →
    form_rre f [] (written column (register_then r (comma_then (register_then s (comma_then (number_then z [])))))) ≡ Taken (f r s (number_expr (next_column (next_column column r) s) z)) []
unfolding next_column take_rre
reads_rre f r s column z low low' is =
    rw (register r column (comma_then (register_then s (comma_then (number_then z [])))) low) (rw next
    (rw (register s (behind_register column r + 1 + 1) (comma_then (number_then z [])) low') (rw next
    (rw (expr z (behind_register (behind_register column r + 1 + 1) s + 1 + 1) [] is) refl))))

pub reads_rrr : (f : ℕ → ℕ → ℕ → List Item) (r s t column : ℕ) → r < 32 → s < 32 → t < 32 →
    form_rrr f [] (written column (register_then r (comma_then (register_then s (comma_then (register_then t [])))))) ≡ Taken (f r s t) []
unfolding take_rrr
reads_rrr f r s t column low low' low'' =
    rw (register r column (comma_then (register_then s (comma_then (register_then t [])))) low) (rw next
    (rw (register s (behind_register column r + 1 + 1) (comma_then (register_then t [])) low') (rw next
    (rw (register t (behind_register (behind_register column r + 1 + 1) s + 1 + 1) [] low'') refl))))

pub reads_rrb : (f : ℕ → ℕ → ℕ → List Item) (r s t column : ℕ) → r < 32 → s < 32 → t < 32 →
    form_rrb f [] (written column (register_then r (comma_then (register_then s (comma_then (direct_then t [])))))) ≡ Taken (f r s t) []
unfolding take_rrb
reads_rrb f r s t column low low' low'' =
    rw (register r column (comma_then (register_then s (comma_then (direct_then t [])))) low) (rw next
    (rw (register s (behind_register column r + 1 + 1) (comma_then (direct_then t [])) low') (rw next
    (rw (base t (behind_register (behind_register column r + 1 + 1) s + 1 + 1) [] low'') refl))))
