-- Tables of names.
use Rattle.std.proofs.Common.{arith, ◌≡◌, ◌∙◌, ℕ, false, List, [], ◌∷◌, ◌++◌, map, Option, Some, None, refl, sym, ap}
use Rattle.std.specs.Option.{option_map, option_or}
use Rattle.std.specs.Str.{bytes_eq}
use Rattle.std.proofs.lemmas.List.Folds.{find-append}
use Rattle.std.proofs.lemmas.Slice.Eq.{bytes_eq-Decides}
use Rattle.asm_operands.specs.Numbers.{value_in}
use Rattle.asm_parse.specs.Mnemonics.{Form, mnemonics, forms_named, instruction_rows, amo_rows, pseudo_rows}

pub not_named : (key text : List ℕ) → (key ≡ text → ⊥) → bytes_eq key text ≡ false
not_named key text apart = grind (arith, bytes_eq-Decides key text)

-- what the rows of a table stand for
pub named_in : {A B : Type 0} (f : A → B) (rows : List (List ℕ × A)) (text : List ℕ)
    → option_map f (value_in rows text) ≡ value_in (map (λ row. (row.0, f row.1)) rows) text
named_in f [] text = refl
named_in f (row ∷ rows) text = grind (arith, named_in f rows text)

either_mapped : {A B : Type 0} (f : A → B) (a b : Option A) → option_map f (option_or a b) ≡ option_or (option_map f a) (option_map f b)
either_mapped f None b = refl
either_mapped f (Some a) b = refl

-- the value in one table, or else in the next
value_in_append : {A : Type 0} (xs ys : List (List ℕ × A)) (text : List ℕ) → value_in (xs ++ ys) text ≡ option_or (value_in xs text) (value_in ys text)
value_in_append xs ys text = rw (find-append (λ row. bytes_eq row.0 text) xs ys) (either_mapped (λ row. row.1) _ _)

in_three : (xs ys zs : List (List ℕ × List Form)) (text : List ℕ)
    → value_in (xs ++ ys ++ zs) text ≡ option_or (option_or (value_in xs text) (value_in ys text)) (value_in zs text)
in_three xs ys zs text =
    value_in_append (xs ++ ys) zs text ∙ ap (λ (found : Option (List Form)). option_or found (value_in zs text)) (value_in_append xs ys text)

behind : {found first : Option (List Form)} (second third : Option (List Form)) → found ≡ first → option_or (option_or found second) third ≡ option_or (option_or first second) third
behind second third is = ap (λ (found : Option (List Form)). option_or (option_or found second) third) is

-- the forms of a name by the table that has it first
pub in_first : (text : List ℕ) (forms : List Form) → Some forms ≡ value_in instruction_rows text → Some forms ≡ forms_named text
unfolding mnemonics forms_named
in_first text forms first = behind (value_in amo_rows text) (value_in pseudo_rows text) first ∙ sym (in_three instruction_rows amo_rows pseudo_rows text)

pub in_second : (text : List ℕ) (forms : List Form) → None ≡ value_in instruction_rows text → Some forms ≡ value_in amo_rows text → Some forms ≡ forms_named text
unfolding mnemonics forms_named
in_second text forms first second =
    ap (λ (found : Option (List Form)). option_or found (value_in pseudo_rows text)) second
    ∙ behind (value_in amo_rows text) (value_in pseudo_rows text) first ∙ sym (in_three instruction_rows amo_rows pseudo_rows text)

pub in_third : (text : List ℕ) (found : Option (List Form)) → None ≡ value_in instruction_rows text → None ≡ value_in amo_rows text
    → found ≡ value_in pseudo_rows text → found ≡ forms_named text
unfolding mnemonics forms_named
in_third text found first second third =
    third ∙ ap (λ (found : Option (List Form)). option_or found (value_in pseudo_rows text)) second
    ∙ behind (value_in amo_rows text) (value_in pseudo_rows text) first ∙ sym (in_three instruction_rows amo_rows pseudo_rows text)
