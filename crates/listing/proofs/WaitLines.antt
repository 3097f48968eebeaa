-- The lines of waits, one more core at a time.
use Rattle.std.proofs.Common.{◌≡◌, ◌+◌, ◌==◌, ◌++◌, ℕ, List, [], ◌∷◌, refl, sym, ap, ◌∙◌, arith, add-one, append_assoc}
use Rattle.std.specs.List.{filter}
use Rattle.pmsi_model.specs.declared.Row.{Row}
use Rattle.pmsi_model.specs.Lines.{waits_line, waits_of}
use Rattle.pmsi_model.specs.Listing.{waits_texts}

-- a core's rows among its own
own_waits : (c : ℕ) (rows : List Row) → waits_of c (filter (λ row. row.core == c) rows) ≡ waits_of c rows
own_waits c [] = refl
own_waits c (row ∷ rows) = grind (arith, own_waits c rows)

texts_more : (rows : List Row) (count : ℕ) → waits_texts rows (count + 1) ≡ waits_texts rows count ++ waits_line count (waits_of count rows)
texts_more rows count = rw add-one refl

pub waits_more : (rows own : List Row) (count : ℕ) (before now after : List ℕ) → own ≡ filter (λ row. row.core == count) rows → now ≡ before ++ waits_texts rows count →
    after ≡ now ++ waits_line count (waits_of count own) → after ≡ before ++ waits_texts rows (count + 1)
waits_more rows own count before now after mine so_far last =
    let waits : waits_of count own ≡ waits_of count rows = ap (waits_of count) mine ∙ own_waits count rows in
    last ∙ ap (λ (l : List ℕ). now ++ waits_line count l) waits ∙ ap (λ (l : List ℕ). l ++ waits_line count (waits_of count rows)) so_far
    ∙ append_assoc before (waits_texts rows count) (waits_line count (waits_of count rows)) ∙ ap (λ (l : List ℕ). before ++ l) (sym (texts_more rows count))
