-- What the cores of a machine keep.
use Rattle.std.proofs.Common.{◌≡◌, ℕ, ◌<◌, List, ◌++◌, length, get_or, set, take, drop, Bool, ap, ◌∙◌, subst, length-set}
use Rattle.std.proofs.Math.Seq.{take-append_seam}
use Rattle.core_unit.specs.declared.state.State.{State}
use Rattle.sim_serial.specs.Cores.{CoresKeep}
use Rattle.sim_serial.proofs.Slots.{after_set}

-- one core becomes another that keeps the same
pub next_keeps : (keeps : Bool) (cores : List State) (c : ℕ) (other k j : State) → c < length cores → k ≡ get_or cores c other → j.keeps ≡ k.keeps
    → CoresKeep keeps cores → CoresKeep keeps (set cores c j)
next_keeps keeps cores c other k j below is same all d rest within =
    after_set cores c j below (λ (n : ℕ) (i : State). i.keeps ≡ keeps) d rest (same ∙ ap (λ (i : State). i.keeps) is ∙ all c other below)
    (λ differs. all d rest (subst (λ (n : ℕ). d < n) (length-set cores c j) within))

-- a list that was lent is given back whole
pub lent_back : (count : ℕ) (new old : List State) → length new ≡ count → take count (new ++ drop (length new) old) ≡ new
lent_back count new old long = subst (λ (n : ℕ). take n (new ++ drop (length new) old) ≡ new) long (take-append_seam new (drop (length new) old))
