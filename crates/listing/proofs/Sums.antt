-- The waits of one row more.
use Rattle.std.proofs.Common.{◌≡◌, ℕ, ◌+◌, List, [], ◌∷◌, ◌++◌, length, max, sum, arith, ap, sym, ◌∙◌}
use Rattle.std.proofs.lemmas.List.Sums.{sum_by-append}
use Rattle.pmsi_model.specs.declared.Row.{Row}
use Rattle.pmsi_model.specs.Lines.{greatest, waits_of}
use Rattle.pmsi_model.specs.Rows.{wait_of}
use Rattle.listing.specs.declared.waits.Waits.{Waits}
use Rattle.listing.specs.Waits.{IsOf}

pub greatest_after : (waits : List ℕ) (wait : ℕ) → greatest (waits ++ wait ∷ []) ≡ max (greatest waits) wait
greatest_after [] wait = grind arith
greatest_after (w ∷ waits) wait = grind (arith, greatest_after waits wait)

pub sum_after : (waits : List ℕ) (wait : ℕ) → sum (waits ++ wait ∷ []) ≡ sum waits + wait
sum_after waits wait = grind (arith, sum_by-append (λ n. n) waits (wait ∷ []))

pub length_after : (waits : List ℕ) (wait : ℕ) → length (waits ++ wait ∷ []) ≡ length waits + 1
length_after [] wait = grind arith
length_after (w ∷ waits) wait = grind (arith, length_after waits wait)

pub waits_after : (core : ℕ) (rows : List Row) (row : Row) → row.core ≡ core → waits_of core (rows ++ row ∷ []) ≡ waits_of core rows ++ wait_of row ∷ []
waits_after core [] row is = grind arith
waits_after core (r ∷ rows) row is = grind (arith, waits_after core rows row is)

pub one_more : (core : ℕ) (rows : List Row) (row : Row) (w : Waits) (wait most : ℕ) → row.core ≡ core → wait ≡ wait_of row → most ≡ max w.greatest wait → IsOf (waits_of core rows) w →
    IsOf (waits_of core (rows ++ row ∷ [])) (record { count = w.count + 1; greatest = most; sum = w.sum + wait })
one_more core rows row w wait most is one two h = rw (waits_after core rows row is) (
  ap (λ n. n + 1) h.0 ∙ sym (length_after _ _),
  grind (arith, one, two, h.1, greatest_after (waits_of core rows) (wait_of row)),
  grind (arith, one, h.2, sum_after (waits_of core rows) (wait_of row)),
)
