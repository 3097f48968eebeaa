-- The members of a job, before the first slot and after the last.
use Rattle.std.proofs.Common.{◌≡◌, ◌⊎◌, ℕ, ◌+◌, ◌<◌, List, [], ◌∷◌, ◌++◌, length, take, get_or, sym, ap, ◌∙◌, subst, arith, inl, ⊎_elim}
use Rattle.std.proofs.lemmas.Grind.{common_steps}
use Rattle.std.proofs.lemmas.List.{get_or-map}
use Rattle.pmsi_model.specs.declared.Keep.{Keep}
use Rattle.pmsi_model.specs.Job.{JobValue}
use Rattle.core_unit.specs.declared.state.State.{State}
use Rattle.core_unit.specs.Opened.{AreOpened}
use Rattle.core_unit.specs.Parts.{IsPart}
use Rattle.sim_serial.specs.Cores.{AreParts, CoresKeep}
use Rattle.turn_bus.specs.declared.seat.TurnSeat.{TurnSeat}
use Rattle.turn_bus.specs.declared.seat.TurnBus.{TurnBus}
use Rattle.turn_bus.specs.Answers.{IsIn}
use Rattle.turn_bus.specs.Sharing.{IsSeat, stage}
use Rattle.turn_bus.specs.Seats.{AreSeats, seating, view_of}
use Rattle.core_worker.specs.declared.member.Member.{Member}
use Rattle.core_worker.specs.Members.{IsMember, GoesOn, IsOver, AreMembers, GoOn, AreOver}
use Rattle.core_worker.specs.Zips.{cores_of, seats_of}

core_at : (ms : List Member) (k : ℕ) (d : Member) (e : State) → k < length ms → get_or (cores_of ms) k e ≡ (get_or ms k d).core
core_at ms k d e below = get_or-map (λ m. m.core) ms k d e below

seat_at : (ms : List Member) (k : ℕ) (d : Member) (e : TurnSeat) → k < length ms → get_or (seats_of ms) k e ≡ (get_or ms k d).seat
seat_at ms k d e below = get_or-map (λ m. m.seat) ms k d e below

-- a list of members that was lent whole is the list after
pub lent_whole : (n : ℕ) (new rest : List Member) → length new ≡ n → take n (new ++ rest) ≡ new
lent_whole n new rest size = grind (arith, common_steps)

some_member : (ms : List Member) (k : ℕ) → k < length ms → Member
some_member [] k below = absurd (omega arith)
some_member (m ∷ ms) k below = m

-- a member of a job, at a count, whose core keeps its accesses or not
pub record IsOf (bus : TurnBus) (job : JobValue) (keep : Keep) (count k : ℕ) (m : Member) : Type 0 where
  pub seat : IsSeat (seating bus) (stage job keep.trace count job.shape.cores) k m.seat
  pub core : IsIn job count k m.core
  pub keeps : m.core.keeps ≡ keep.touches

module _ (bus : TurnBus) (job : JobValue) (keep : Keep) (ms : List Member) where
  -- ---- before the first slot

  module _ (cores : List State) (seats : List TurnSeat) (is_cores : cores_of ms ≡ cores) (is_seats : seats_of ms ≡ seats) (opened : AreOpened job keep cores) (are : AreSeats bus job keep.trace 0 seats) where
    pub all : length ms ≡ job.shape.cores
    all = let c = opened.all in let e = ap length is_cores in let l : length (cores_of ms) ≡ length ms = grind (arith, common_steps) in omega arith

    begun : (k : ℕ) (d : Member) → k < length ms → IsOf bus job keep 0 k (get_or ms k d)
    begun k d below =
        let n = all in
        let s = are.seated.order k d.seat (subst (λ l. k < length l) is_seats (let l : length (seats_of ms) ≡ length ms = grind (arith, common_steps) in omega arith)) in
        let is_core = ap (λ l. get_or l k d.core) (sym is_cores) ∙ core_at ms k d d.core below in
        let p = opened.part k d.core (omega arith) in
        let q = opened.keeps k d.core (omega arith) in record {
          seat = subst (IsSeat (seating bus) (stage job keep.trace 0 job.shape.cores) k)
              (ap (λ l. get_or l k d.seat) (sym is_seats) ∙ seat_at ms k d d.seat below) s;
          core = inl (subst (IsPart job 0 k) is_core p);
          keeps = subst (λ (v : State). v.keeps ≡ keep.touches) is_core q;
        }

    of_member : (k : ℕ) (m : Member) → IsOf bus job keep 0 k m → IsMember bus m
    of_member k m of = record {
      own = of.seat.own;
      stands = subst (λ (j : JobValue). IsIn j (view_of m.seat).count (view_of m.seat).number m.core) (sym of.seat.job_is)
          (subst (λ n. IsIn job n (view_of m.seat).number m.core) (sym of.seat.count_is) (subst (λ n. IsIn job 0 n m.core) (sym of.seat.number) of.core));
    }

    pub begin : AreMembers bus ms
    begin k d below = of_member k (get_or ms k d) (begun k d below)

    -- ---- after the last

    -- then a core's phase isn't done
    over : (k : ℕ) (core : State) → IsIn job job.shape.slots k core → IsPart job job.shape.slots k core
    over k core at = ⊎_elim (λ p. p) (λ a. let more = a.more in absurd (omega arith)) at

    ended : (k : ℕ) (old new : Member) → IsOf bus job keep 0 k old → GoesOn bus old new → IsOver new → IsOf bus job keep job.shape.slots k new
    ended k old new was on end =
        let v = view_of new.seat in
        let job_is : v.job ≡ job = on.seat.job ∙ was.seat.job_is in
        let count_is : v.count ≡ job.shape.slots = end ∙ ap (λ (j : JobValue). j.shape.slots) job_is in
        let number_is : v.number ≡ k = on.seat.number ∙ was.seat.number in record {
          seat = record {
            own = on.is.own;
            job_is = job_is;
            keeps_is = on.seat.keeps ∙ was.seat.keeps_is;
            number = number_is;
            count_is = count_is;
            made_is = λ z. on.seat.made ∙ was.seat.made_is z;
          };
          core = subst (λ n. IsIn job n k new.core) count_is (subst (λ n. IsIn job v.count n new.core) number_is
              (subst (λ (j : JobValue). IsIn j v.count v.number new.core) job_is on.is.stands));
          keeps = on.keeps ∙ was.keeps;
        }

    module _ (ns : List Member) (on : GoOn bus ms ns) (end : AreOver ns) where
      each : (k : ℕ) (d : Member) → k < length ns → IsOf bus job keep job.shape.slots k (get_or ns k d)
      each k d below = let n = on.all in ended k (get_or ms k d) (get_or ns k d) (begun k d (omega arith)) (on.each k d (omega arith)) (end k d below)

      none_joined : (d : Member) → (view_of (get_or ns 0 d).seat).joined ≡ []
      none_joined d =
          let n = all in
          let some = opened.within.shape.some_cores in
          let h : 0 < length ms = omega arith in
          (on.each 0 d h).seat.joined
          ∙ subst (λ (b : TurnSeat). (view_of b).joined ≡ []) (ap (λ l. get_or l 0 d.seat) (sym is_seats) ∙ seat_at ms 0 d d.seat h) (are.seated.none_joined d.seat)

      sized : length ns ≡ job.shape.cores
      sized = on.all ∙ all

      count_cores : length (cores_of ns) ≡ job.shape.cores
      count_cores = (let l : length (cores_of ns) ≡ length ns = grind (arith, common_steps) in l ∙ sized)

      count_seats : length (seats_of ns) ≡ job.shape.cores
      count_seats = (let l : length (seats_of ns) ≡ length ns = grind (arith, common_steps) in l ∙ sized)

      pub cores_end : AreParts job job.shape.slots (cores_of ns)
      cores_end = record {
        within = opened.within;
        count = count_cores;
        parts = λ k e below. let n = sized in let h : k < length ns = omega arith in let d = some_member ns k h in
            subst (IsPart job job.shape.slots k) (sym (core_at ns k d e h)) (over k (get_or ns k d).core (each k d h).core);
      }

      pub cores_keep : CoresKeep keep.touches (cores_of ns)
      cores_keep k e below = let n = sized in let c = count_cores in let h : k < length ns = omega arith in let d = some_member ns k h in
          subst (λ (v : State). v.keeps ≡ keep.touches) (sym (core_at ns k d e h)) (each k d h).keeps

      pub seats_end : AreSeats bus job keep.trace job.shape.slots (seats_of ns)
      seats_end = record {
        within = opened.within;
        all = count_seats;
        seated = record {
          order = λ k e below. let n = sized in let c = count_seats in let h : k < length ns = omega arith in let d = some_member ns k h in
              subst (IsSeat (seating bus) (stage job keep.trace job.shape.slots job.shape.cores) k) (sym (seat_at ns k d e h)) (each k d h).seat;
          none_joined = λ e. let n = sized in let some = opened.within.shape.some_cores in let h : 0 < length ns = omega arith in let d = some_member ns 0 h in
              subst (λ (b : TurnSeat). (view_of b).joined ≡ []) (sym (seat_at ns 0 d e h)) (none_joined d);
        };
      }
