-- Numbers of a line in their places.
use Rattle.std.proofs.Common.{◌≡◌, ℕ, ◌+◌, List, [], ◌∷◌, ◌++◌, map, Option, None, refl, ap, ◌∙◌}
use Rattle.std.specs.Prelude.{ℤ, pos}
use Rattle.std.specs.Option.{option_or}
use Rattle.asm_parse.specs.declared.fault.AsmCause.{AsmCause}
use Rattle.asm_operands.specs.declared.expr.Expr as written
use Rattle.asm_parse.specs.declared.item.Width.{Width}
use Rattle.asm_operands.specs.Meanings.{expr}
use Rattle.asm_operands.specs.Operands.{expr_value}
use Rattle.asm_parse.specs.Mnemonics.{Item}
use Rattle.asm_parse.specs.Items.{bytes_in, fits_in, number_of}
use Rattle.asm_parse.specs.Assembly.{first_of, placed_from, unknown_in, unknown_item, value_fault, named_number_fault, reach_fault}
use Rattle.asm_link.specs.Placed.{wide, faults_of}
use Rattle.asm_link.proofs.FirstOf.{first_append, or_none}

-- numbers of a line, each with its bytes
abbrev pub items_by : Width → List written.Expr → List (ℕ × Item)
items_by width numbers = map (wide (bytes_in width)) (map (number_of width) numbers)

unknown_placed : (names : List (List ℕ × ℤ)) (width : Width) (address : ℕ) (numbers : List written.Expr)
    → map (λ item. unknown_item names item.1) (placed_from address (items_by width numbers)) ≡ map (λ e. unknown_in names (expr e)) numbers
unfolding placed_from
unknown_placed names width address [] = refl
unknown_placed names width address (e ∷ numbers) = ap (λ (k : List (Option AsmCause)). unknown_in names (expr e) ∷ k) (unknown_placed names width (address + bytes_in width) numbers)

unfit_placed : (names : List (List ℕ × ℤ)) (width : Width) (address : ℕ) (numbers : List written.Expr)
    → map (λ item. named_number_fault names item.1) (placed_from address (items_by width numbers)) ≡ map (λ e. value_fault (expr_value names (expr e)) e.column (fits_in width)) numbers
unfolding placed_from
unfit_placed names width address [] = refl
unfit_placed names width address (e ∷ numbers) = ap (λ (k : List (Option AsmCause)). value_fault (expr_value names (expr e)) e.column (fits_in width) ∷ k) (unfit_placed names width (address + bytes_in width) numbers)

no_reach : (names : List (List ℕ × ℤ)) (width : Width) (address : ℕ) (numbers : List written.Expr)
    → first_of (map (λ item. reach_fault names (pos item.0) item.1) (placed_from address (items_by width numbers))) ≡ None
unfolding placed_from first_of
no_reach names width address [] = refl
no_reach names width address (e ∷ numbers) = no_reach names width (address + bytes_in width) numbers

pub numbers_placed : (names : List (List ℕ × ℤ)) (width : Width) (address : ℕ) (numbers : List written.Expr)
    → faults_of names (placed_from address (items_by width numbers))
    ≡ first_of (map (λ e. unknown_in names (expr e)) numbers ++ map (λ e. value_fault (expr_value names (expr e)) e.column (fits_in width)) numbers)
unfolding faults_of
numbers_placed names width address numbers =
    let us = map (λ (e : written.Expr). unknown_in names (expr e)) numbers in
    let ns = map (λ (e : written.Expr). value_fault (expr_value names (expr e)) e.column (fits_in width)) numbers in
    let rs = map (λ item. reach_fault names (pos item.0) item.1) (placed_from address (items_by width numbers)) in
    rw (unknown_placed names width address numbers) (rw (unfit_placed names width address numbers)
    (first_append (us ++ ns) rs ∙ ap (λ (k : Option AsmCause). option_or (first_of (us ++ ns)) k) (no_reach names width address numbers) ∙ or_none (first_of (us ++ ns))))

pub nothing_placed : (names : List (List ℕ × ℤ)) (address : ℕ) → faults_of names (placed_from address []) ≡ None
unfolding placed_from faults_of first_of
nothing_placed names address = refl
