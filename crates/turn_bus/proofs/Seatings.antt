-- The list of seats, as seats are made and joined.
use Rattle.std.proofs.Common.{◌≡◌, ◌≢◌, ℕ, ◌+◌, ◌<◌, ◌≤◌, List, [], ◌∷◌, ◌++◌, Bool, length, get_or, set, sym, ap, ◌∙◌, subst, refl, arith, length-set, get_or-set_same, get_or-set_other}
use Rattle.std.proofs.lemmas.Grind.{common_steps}
use mathlib.Core.Logic.{dite}
use native.Mathlib.Decide.{ℕ_discrete}
use Rattle.pmsi_model.specs.Job.{JobValue}
use Rattle.pmsi_model.specs.Shared.{BusSide}
use Rattle.turn_bus.specs.Sharing.{IsBusAt, Absent, Knowing, knows_more, knows_first, knows_joined}
use Rattle.turn_bus.specs.Sharing.{Seating, Stage, stage, IsSeat, Seated, AllSeated, OthersInOrder, AreJoined, AreLeft, HasAll}

get_front : {S : Type 0} (xs : List S) (seat : S) (k : ℕ) (d : S) → k < length xs → get_or (xs ++ seat ∷ []) k d ≡ get_or xs k d
get_front xs seat k d h = grind (arith, common_steps)

get_end : {S : Type 0} (xs : List S) (seat : S) (k : ℕ) (d : S) → k ≡ length xs → get_or (xs ++ seat ∷ []) k d ≡ seat
get_end xs seat k d h = grind (arith, common_steps)

-- ---- one more seat is made from that of core 0

module _ {S : Type 0} (bus : Seating S) (job : JobValue) (keep : Bool) (n : ℕ) (xs : List S) (root next seat : S)
    (long : length xs ≡ n) (some : 1 ≤ n) (seated : Seated bus (stage job keep 0 n) xs) (is : root ≡ get_or xs 0 root) where
  first : IsSeat bus (stage job keep 0 n) 0 root
  first = subst (IsSeat bus (stage job keep 0 n) 0) (sym is) (seated.order 0 root (omega arith))

  none_joined : (bus.knows root).joined ≡ []
  none_joined = subst (λ (b : S). (bus.knows b).joined ≡ []) (sym is) (seated.none_joined root)

  module _ (own : bus.own next × bus.own seat) (views : (bus.knows next ≡ knows_more (bus.knows root)) × (bus.knows seat ≡ knows_first (bus.knows root))) where
    root_seat : IsSeat bus (stage job keep 0 (n + 1)) 0 next
    root_seat =
        let m : (bus.knows root).made ≡ n = first.made_is refl in
        let s = subst (λ (v : Knowing). (v.job ≡ job) × (v.keeps ≡ keep) × (v.number ≡ 0) × (v.count ≡ 0) × (v.made ≡ n + 1)) (sym views.0)
        (first.job_is, first.keeps_is, first.number, first.count_is, omega arith) in record {
          own = own.0;
          job_is = s.0;
          keeps_is = s.1;
          number = s.2;
          count_is = s.3;
          made_is = λ _. s.4;
        }

    new_one : IsSeat bus (stage job keep 0 (n + 1)) n seat
    new_one =
        let m : (bus.knows root).made ≡ n = first.made_is refl in
        let s = subst (λ (v : Knowing). (v.job ≡ job) × (v.keeps ≡ keep) × (v.number ≡ n) × (v.count ≡ 0)) (sym views.1)
        (first.job_is, first.keeps_is, m, refl) in record {
          own = own.1;
          job_is = s.0;
          keeps_is = s.1;
          number = s.2;
          count_is = s.3;
          made_is = λ z. absurd (omega arith);
        }

    old_one : (k : ℕ) (d : S) → k < n → k ≢ 0 → IsSeat bus (stage job keep 0 (n + 1)) k (get_or xs k d)
    old_one k d below more = let s = seated.order k d (omega arith) in record {
      own = s.own;
      job_is = s.job_is;
      keeps_is = s.keeps_is;
      number = s.number;
      count_is = s.count_is;
      made_is = λ z. absurd (more z);
    }

    longer_list : length (set xs 0 next ++ seat ∷ []) ≡ n + 1
    longer_list = let l = length-set xs 0 next in grind (arith, common_steps)

    in_order : (k : ℕ) (d : S) → k < length (set xs 0 next ++ seat ∷ []) → IsSeat bus (stage job keep 0 (n + 1)) k (get_or (set xs 0 next ++ seat ∷ []) k d)
    in_order k d below = let l = length-set xs 0 next in let e = longer_list in dite (ℕ_discrete k n)
        (λ last. subst (λ m. IsSeat bus (stage job keep 0 (n + 1)) m (get_or (set xs 0 next ++ seat ∷ []) m d)) (sym last)
        (subst (IsSeat bus (stage job keep 0 (n + 1)) n) (sym (get_end (set xs 0 next) seat n d (omega arith))) new_one))
        (λ earlier. let inside : k < n = omega arith in
        subst (IsSeat bus (stage job keep 0 (n + 1)) k) (sym (get_front (set xs 0 next) seat k d (omega arith))) (dite (ℕ_discrete k 0)
        (λ z. subst (λ m. IsSeat bus (stage job keep 0 (n + 1)) m (get_or (set xs 0 next) m d)) (sym z)
        (subst (IsSeat bus (stage job keep 0 (n + 1)) 0) (sym (get_or-set_same xs 0 next d (omega arith))) root_seat))
        (λ more. subst (IsSeat bus (stage job keep 0 (n + 1)) k) (sym (get_or-set_other xs 0 k next d more)) (old_one k d inside more))))

    pub seated_more : Seated bus (stage job keep 0 (n + 1)) (set xs 0 next ++ seat ∷ [])
    seated_more = let l = length-set xs 0 next in record {
      order = in_order;
      none_joined = λ d. subst (λ (b : S). (bus.knows b).joined ≡ [])
          (sym (get_front (set xs 0 next) seat 0 d (omega arith) ∙ get_or-set_same xs 0 next d (omega arith)))
          (subst (λ (v : Knowing). v.joined ≡ []) (sym views.0) none_joined);
    }

-- ---- the last of the other seats is joined

module _ {S : Type 0} (bus : Seating S) (at : Stage) (xs ys : List S) (seat : S) (cut : xs ≡ ys ++ seat ∷ []) (in_order : OthersInOrder bus at xs) where
  longer : length xs ≡ length ys + 1
  longer = rw cut (grind (arith, common_steps))

  others : OthersInOrder bus at ys
  others k d h =
      let e : get_or xs k d ≡ get_or ys k d = rw cut (get_front ys seat k d h) in
      let n = longer in
      subst (IsSeat bus at (k + 1)) e (in_order k d (omega arith))

  last_one : IsSeat bus at (length ys + 1) seat
  last_one =
      let e : get_or xs (length ys) seat ≡ seat = rw cut (get_end ys seat (length ys) seat refl) in
      let n = longer in
      subst (IsSeat bus at (length ys + 1)) e (in_order (length ys) seat (omega arith))

  joined : (root next : S) → bus.knows next ≡ knows_joined (bus.knows root) (bus.knows seat) →
      AreJoined (length xs + 1) at.made (bus.knows root) → AreJoined (length ys + 1) at.made (bus.knows next)
  joined root next view old number from below left =
      let n = longer in
      let l = subst (λ (w : Knowing). Absent number w.joined) view left in
      dite (ℕ_discrete number (length ys + 1)) (λ e. l.0 (e ∙ sym last_one.number)) (λ other. old number (omega arith) below l.1)

pub left_next : {S : Type 0} (bus : Seating S) (job : JobValue) (keep : Bool) (xs ys : List S) (root next seat : S) →
    xs ≡ ys ++ seat ∷ [] → AreLeft bus job keep root xs →
    bus.own next → bus.knows next ≡ knows_joined (bus.knows root) (bus.knows seat) → AreLeft bus job keep next ys
left_next bus job keep xs ys root next seat cut left own view =
    let n = longer bus (stage job keep job.shape.slots job.shape.cores) xs ys seat cut left.order in
    let long : length xs + 1 ≤ job.shape.cores = left.long in
    let f = left.first in
    let s = subst (λ (v : Knowing). (v.job ≡ job) × (v.keeps ≡ keep) × (v.number ≡ 0) × (v.count ≡ job.shape.slots) × (v.made ≡ job.shape.cores)) (sym view)
    (f.job_is, f.keeps_is, f.number, f.count_is, f.made_is refl) in record {
      long = omega arith;
      first = record { own = own; job_is = s.0; keeps_is = s.1; number = s.2; count_is = s.3; made_is = λ _. s.4 };
      order = others bus (stage job keep job.shape.slots job.shape.cores) xs ys seat cut left.order;
      joined = joined bus (stage job keep job.shape.slots job.shape.cores) xs ys seat cut left.order root next view left.joined;
    }

pub next_left : {S : Type 0} (bus : Seating S) (job : JobValue) (keep : Bool) (xs ys : List S) (root seat : S) →
    xs ≡ ys ++ seat ∷ [] → AreLeft bus job keep root xs → bus.own seat
next_left bus job keep xs ys root seat cut left = (last_one bus (stage job keep job.shape.slots job.shape.cores) xs ys seat cut left.order).own

pub all_left : {S : Type 0} (bus : Seating S) (job : JobValue) (keep : Bool) (xs ys : List S) (root : S) →
    xs ≡ root ∷ ys → AllSeated bus job keep job.shape.slots xs → AreLeft bus job keep root ys
all_left bus job keep xs ys root is seats =
    let l : length xs ≡ length ys + 1 = rw is (grind (arith, common_steps)) in
    let n : length ys + 1 ≡ job.shape.cores = (let a = seats.all in omega arith) in record {
      long = omega arith;
      first = subst (λ l. IsSeat bus (stage job keep job.shape.slots job.shape.cores) 0 (get_or l 0 root)) is
          (seats.seated.order 0 root (rw is (grind (arith, common_steps))));
      order = λ k d below. let h : k + 1 < length xs = omega arith in
          let e : get_or xs (k + 1) d ≡ get_or ys k d = rw is (grind (arith, common_steps)) in
          subst (IsSeat bus (stage job keep job.shape.slots job.shape.cores) (k + 1)) e (seats.seated.order (k + 1) d h);
      joined = λ number from below. absurd (omega arith);
    }

pub ends : {S : Type 0} (bus : Seating S) (job : JobValue) (keep : Bool) (xs : List S) (root : S) →
    xs ≡ [] → AreLeft bus job keep root xs → HasAll (bus.knows root)
ends bus job keep xs root empty left =
    let f = left.first in
    let m = f.made_is refl in
    let z : length xs ≡ 0 = rw empty refl in record {
      zero = f.number;
      over = f.count_is ∙ ap (λ (j : JobValue). j.shape.slots) (sym f.job_is);
      all_joined = λ number more less none. left.joined number (omega arith) (omega arith) none;
    }

pub bus_of_left : {S : Type 0} (bus : Seating S) (job : JobValue) (keep : Bool) (xs : List S) (root : S) (b : BusSide) → AreLeft bus job keep root xs →
    IsBusAt (bus.knows root).job (bus.knows root).keeps (bus.knows root).job.shape.slots b → IsBusAt job keep job.shape.slots b
bus_of_left bus job keep xs root b left at =
    let f = left.first in
    subst (λ j. IsBusAt j keep j.shape.slots b) f.job_is (subst (λ k. IsBusAt (bus.knows root).job k (bus.knows root).job.shape.slots b) f.keeps_is at)
