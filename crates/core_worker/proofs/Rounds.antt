-- A round of tries, a member at a time.
use Rattle.std.proofs.Common.{◌≡◌, ◌≢◌, ℕ, ◌+◌, ◌<◌, ◌≤◌, Bool, false, List, length, get_or, set, sym, ◌∙◌, subst, refl, arith, length-set, get_or-set_same, get_or-set_other}
use Rattle.std.proofs.lemmas.List.{get_or_default}
use mathlib.Core.Logic.{dite}
use native.Mathlib.Decide.{ℕ_discrete}
use Rattle.turn_bus.specs.declared.seat.TurnBus.{TurnBus}
use Rattle.core_worker.specs.declared.member.Member.{Member}
use Rattle.core_worker.specs.Members.{IsMember, GoesOn, IsOver, AreMembers, GoOn, AreOver, IsRound}

module _ (ms : List Member) (c : ℕ) (m : Member) (below : c < length ms) where
  after_set : (P : ℕ → Member → Type 0) (d : ℕ) (other : Member) → P c m → (d ≢ c → P d (get_or ms d other)) → P d (get_or (set ms c m) d other)
  after_set P d other own others = dite (ℕ_discrete d c)
      (λ same. subst (λ n. P n (get_or (set ms c m) n other)) (sym same) (subst (P c) (sym (get_or-set_same ms c m other below)) own))
      (λ differs. subst (P d) (sym (get_or-set_other ms c d m other differs)) (others differs))

pub begins : (bus : TurnBus) (old : List Member) → IsRound bus old old 0 false
begins bus old = record {
  all = refl;
  tried = λ k d none. absurd (omega arith);
  others = λ k d _. refl;
  over = λ _ k d none. absurd (omega arith);
}

module _ (bus : TurnBus) (old now : List Member) (count : ℕ) (left : Bool) (r : IsRound bus old now count left) (below : count < length now) where
  -- the next member is as it was
  pub next_of : (e : Member) → AreMembers bus old → IsMember bus (get_or now count e)
  next_of e of = subst (IsMember bus) (sym (r.others count e (omega arith))) (of count e (subst (λ n. count < n) r.all below))

  pub one_more : (e m' : Member) (left' : Bool) → GoesOn bus (get_or now count e) m' → (left' ≡ false → (left ≡ false) × IsOver m') → IsRound bus old (set now count m') (count + 1) left'
  one_more e m' left' next over = record {
    all = length-set now count m' ∙ r.all;
    tried = λ k d before. after_set now count m' below (λ j x. j < count + 1 → GoesOn bus (get_or old j d) x) k d
        (λ _. subst (λ x. GoesOn bus x m') (r.others count e (omega arith) ∙ get_or_default old count e d (subst (λ n. count < n) r.all below)) next)
        (λ differs b. r.tried k d (omega arith)) before;
    others = λ k d from. get_or-set_other now count k m' d (λ same. absurd (omega arith)) ∙ r.others k d (omega arith);
    over = λ none k d before. after_set now count m' below (λ j x. j < count + 1 → IsOver x) k d
        (λ _. (over none).1)
        (λ differs b. r.over (over none).0 k d (omega arith)) before;
  }

pub all_of : (bus : TurnBus) (old new : List Member) → GoOn bus old new → AreMembers bus new
all_of bus old new a k d below = (a.each k d (subst (λ m. k < m) a.all below)).is

pub ends : (bus : TurnBus) (old now : List Member) (count : ℕ) (left : Bool) → IsRound bus old now count left → length now ≤ count → GoOn bus old now × (left ≡ false → AreOver now)
ends bus old now count left r all = let n = r.all in (
  record { all = r.all; each = λ k d below. r.tried k d (omega arith) },
  λ over k d below. r.over over k d (omega arith),
)
