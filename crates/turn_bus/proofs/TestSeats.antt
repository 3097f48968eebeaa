-- The cores of a test and their seats: before the first slot, at a meeting, and after the last slot.
use Rattle.std.proofs.Common.{◌≡◌, ◌≢◌, ℕ, ◌<◌, List, [], ◌∷◌, true, length, get_or, set, sym, ◌∙◌, subst, refl, arith, inl, ⊎_elim, length-set, get_or-set_same, get_or-set_other}
use mathlib.Core.Logic.{dite}
use native.Mathlib.Decide.{ℕ_discrete}
use Rattle.pmsi_model.specs.declared.Keep.{Keep}
use Rattle.pmsi_model.specs.Job.{JobValue}
use Rattle.core_unit.specs.declared.state.State.{State}
use Rattle.core_unit.specs.Opened.{AreOpened}
use Rattle.turn_bus.specs.declared.seat.TurnSeat.{TurnSeat}
use Rattle.turn_bus.specs.declared.seat.TurnBus.{TurnBus}
use Rattle.turn_bus.specs.Answers.{IsIn, SameSeat, StandsAt}
use Rattle.turn_bus.specs.Sharing.{IsSeat, stage}
use Rattle.turn_bus.specs.Seats.{view_of, IsOwn, seating, AreSeats}
use Rattle.turn_bus.specs.TestRuns.{IsHere, AreHere}

-- one element of a list is put in place of another
module _ (A : Type 0) (xs : List A) (c : ℕ) (new : A) (below : c < length xs) where
  after_set : (P : ℕ → A → Type 0) (d : ℕ) (other : A) → P c new → (d ≢ c → P d (get_or xs d other)) → P d (get_or (set xs c new) d other)
  after_set P d other own others = dite (ℕ_discrete d c)
      (λ same. subst (λ n. P n (get_or (set xs c new) n other)) (sym same) (subst (P c) (sym (get_or-set_same xs c new other below)) own))
      (λ differs. subst (P d) (sym (get_or-set_other xs c d new other differs)) (others differs))

module _ (bus : TurnBus) (job : JobValue) where
  -- ---- before the first slot

  module _ (keep : Keep) (seats : List TurnSeat) (cores : List State) (are : AreSeats bus job true 0 seats) (opened : AreOpened job keep cores) where
    seat_at : (c : ℕ) (x : TurnSeat) → c < job.shape.cores → IsSeat (seating bus) (stage job true 0 job.shape.cores) c (get_or seats c x)
    seat_at c x below = are.seated.order c x (let n = are.all in omega arith)

    pub at_first : AreHere bus job seats cores
    at_first = record {
      within = are.within;
      all_seats = are.all;
      all_cores = opened.all;
      seat = λ c x below. let s = seat_at c x below in
          subst (λ n. IsSeat (seating bus) (stage job true n job.shape.cores) c (get_or seats c x)) (sym s.count_is) s;
      none_joined = are.seated.none_joined;
      stands = λ c x v below.
          let s = seat_at c x below in
          let view = view_of (get_or seats c x) in
          let core = get_or cores c v in
          subst (λ (j : JobValue). IsIn j view.count view.number core) (sym s.job_is)
          (subst (λ n. IsIn job n view.number core) (sym s.count_is) (subst (λ n. IsIn job 0 n core) (sym s.number) (inl (opened.part c v below))));
    }

  -- ---- a core met the bus

  seat_after : (c : ℕ) (old new : TurnSeat) → IsHere bus job c old → IsOwn bus new → SameSeat (view_of old) (view_of new) → IsHere bus job c new
  seat_after c old new s own same = record {
    own = own;
    job_is = same.job ∙ s.job_is;
    keeps_is = same.keeps ∙ s.keeps_is;
    number = same.number ∙ s.number;
    count_is = refl;
    made_is = λ z. same.made ∙ s.made_is z;
  }

  module _ (seats : List TurnSeat) (cores : List State) (here : AreHere bus job seats cores) (c : ℕ) where
    pub stands_at : (seat : TurnSeat) (core : State) → c < length cores → seat ≡ get_or seats c seat → core ≡ get_or cores c core → StandsAt (view_of seat) core
    stands_at seat core below is_seat is_core = let n = here.all_cores in
        subst (λ s. StandsAt (view_of s) core) (sym is_seat) (subst (StandsAt (view_of (get_or seats c seat))) (sym is_core) (here.stands c seat core (omega arith)))

  module _ (seats : List TurnSeat) (cores : List State) (here : AreHere bus job seats cores) (c : ℕ) (old : TurnSeat) (below : c < length cores) (was : old ≡ get_or seats c old)
      (new : TurnSeat) (core : State) (own : IsOwn bus new) (same : SameSeat (view_of old) (view_of new)) (stands : StandsAt (view_of new) core) where
    low : c < job.shape.cores
    low = let n = here.all_cores in omega arith

    short : c < length seats
    short = let n = here.all_cores in let m = here.all_seats in omega arith

    pub at_next : AreHere bus job (set seats c new) (set cores c core)
    at_next = record {
      within = here.within;
      all_seats = length-set seats c new ∙ here.all_seats;
      all_cores = length-set cores c core ∙ here.all_cores;
      seat = λ d x within. after_set TurnSeat seats c new short (IsHere bus job) d x
          (seat_after c old new (subst (IsHere bus job c) (sym was) (here.seat c old low)) own same)
          (λ _. here.seat d x within);
      none_joined = λ x. after_set TurnSeat seats c new short (λ d s. d ≡ 0 → (view_of s).joined ≡ []) 0 x
          (λ zero. same.joined ∙ subst (λ (s : TurnSeat). (view_of s).joined ≡ []) (sym (subst (λ n. old ≡ get_or seats n old) zero was)) (here.none_joined old))
          (λ _ _. here.none_joined x) refl;
      stands = λ d x v within. after_set TurnSeat seats c new short (λ e s. StandsAt (view_of s) (get_or (set cores c core) e v)) d x
          (subst (StandsAt (view_of new)) (sym (get_or-set_same cores c core v below)) stands)
          (λ differs. subst (StandsAt (view_of (get_or seats d x))) (sym (get_or-set_other cores c d core v differs)) (here.stands d x v within));
    }

  -- ---- after the last slot

  slot_is : (seat : TurnSeat) (core : State) → StandsAt (view_of seat) core → core.slot ≡ (view_of seat).count
  slot_is seat core at = ⊎_elim (λ p. p.in_slot.now) (λ p. p.in_slot.now) at

  some_core : (cores : List State) (c : ℕ) → c < length cores → State
  some_core [] c below = absurd (omega arith)
  some_core (v ∷ vs) c below = v

  module _ (seats : List TurnSeat) (cores : List State) (here : AreHere bus job seats cores) (over : (c : ℕ) (v : State) → c < length cores → (get_or cores c v).slot ≡ job.shape.slots) where
    last_seat : (c : ℕ) (x : TurnSeat) → c < length seats → IsSeat (seating bus) (stage job true job.shape.slots job.shape.cores) c (get_or seats c x)
    last_seat c x below =
        let n = here.all_seats in
        let m = here.all_cores in
        let low : c < length cores = omega arith in
        let v = some_core cores c low in
        let count : (view_of (get_or seats c x)).count ≡ job.shape.slots = sym (slot_is (get_or seats c x) (get_or cores c v) (here.stands c x v (omega arith))) ∙ over c v low in
        subst (λ n. IsSeat (seating bus) (stage job true n job.shape.cores) c (get_or seats c x)) count (here.seat c x (omega arith))

    pub at_last : AreSeats bus job true job.shape.slots seats
    at_last = record { within = here.within; all = here.all_seats; seated = record { order = last_seat; none_joined = here.none_joined } }
