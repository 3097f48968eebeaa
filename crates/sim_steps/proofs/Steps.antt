-- One core of the list takes a step.
use Rattle.std.proofs.Common.{◌≡◌, ◌≢◌, ℕ, ◌<◌, ◌==◌, nat_lt, Bool, true, false, if◌then◌else◌, List, length, get_or, set, refl, sym, ap, ◌∙◌, subst, arith, get_or-set_same, get_or-set_other, length-set}
use mathlib.Core.Logic.{dite}
use native.Mathlib.Decide.{ℕ_discrete}
use lib.Seq.{set-get_or}
use Rattle.pmsi_model.specs.declared.step.Step.{Step}
use Rattle.pmsi_model.specs.declared.step.Step.TheVariants.{Phase, Meet}
use Rattle.pmsi_model.specs.Job.{JobValue}
use Rattle.pmsi_model.specs.Shared.{BusSide}
use Rattle.pmsi_model.specs.Parts.{IsBusPart}
use Rattle.pmsi_model.specs.Spreads.{AllFit, Counts, goes_on, is_enabled, step_counts, stepped}
use Rattle.core_unit.specs.declared.state.State.{State}
use Rattle.sim_steps.specs.declared.took.Took.{Took}
use Rattle.sim_steps.specs.declared.took.Took.TheVariants.{Done, NotYet, Again, Over}
use Rattle.sim_steps.specs.Took.{took}
use Rattle.sim_steps.specs.Meetings.{AreMeeting, pair, standing}
use Rattle.sim_steps.specs.Cores.{AreTaking, CanTake, IsAt, IsPhaseStep, IsMeetStep}
use Rattle.sim_steps.specs.Spreads.{SpreadValue, StandsAt}
use Rattle.sim_steps.specs.Steps.{IsStep}

abbrev pub spread : List State → BusSide → SpreadValue
spread cores bus = record { cores = cores; bus = bus }

-- one core and the bus change
module _ (job : JobValue) (k : Counts) (cores : List State) (bus : BusSide) (c : ℕ) (at : StandsAt job k (spread cores bus)) (below : c < job.shape.cores) where
  inside : c < length cores
  inside = subst (λ (n : ℕ). c < n) (sym at.all) below

  core_there : (j : Counts) (w : State) → IsAt job (j.count c) c (j.marked c) w → ((d : ℕ) → d ≢ c → (k.count d ≡ j.count d) × (k.marked d ≡ j.marked d)) →
      (d : ℕ) (other : State) → d < job.shape.cores → IsAt job (j.count d) d (j.marked d) (get_or (set cores c w) d other)
  core_there j w new others d other has = dite (ℕ_discrete d c)
      (λ same. subst (λ (n : ℕ). IsAt job (j.count n) n (j.marked n) (get_or (set cores c w) n other)) (sym same)
      (subst (IsAt job (j.count c) c (j.marked c)) (sym (get_or-set_same cores c w other inside)) new))
      (λ differs. let o = others d differs in
      subst (IsAt job (j.count d) d (j.marked d)) (sym (get_or-set_other cores c d w other differs))
      (subst (λ (n : ℕ). IsAt job n d (j.marked d) (get_or cores d other)) o.0
      (subst (λ (m : Bool). IsAt job (k.count d) d m (get_or cores d other)) o.1 (at.core d other has))))

  placed : (j : Counts) (w : State) (side : BusSide) → IsAt job (j.count c) c (j.marked c) w →
      ((d : ℕ) → d ≢ c → (k.count d ≡ j.count d) × (k.marked d ≡ j.marked d)) → IsBusPart job j.turn side → side.keeps ≡ bus.keeps →
      StandsAt job j (spread (set cores c w) side)
  placed j w side new others part kept = record {
    within = at.within;
    all = length-set cores c w ∙ at.all;
    core = core_there j w new others;
    bus = part;
    keeps = kept ∙ at.keeps;
  }

  -- or neither does
  as_it_was : (other w : State) (side : BusSide) → w ≡ get_or cores c other → side ≡ bus → spread (set cores c w) side ≡ spread cores bus
  as_it_was other w side same still = subst (λ (x : BusSide). spread (set cores c w) x ≡ spread cores bus) (sym still)
      (ap {B = SpreadValue} (λ (l : List State). spread l bus) (ap (set cores c) same ∙ set-get_or cores c other))

  -- a step that changes nothing
  still : (step : Step) (result : Took) (other w : State) (side : BusSide) → w ≡ get_or cores c other → side ≡ bus → step_counts job step k ≡ k →
      result ≡ took job step k → IsStep job step k (spread cores bus) (spread (set cores c w) side) result
  still step result other w side same kept none answer = let e = as_it_was other w side same kept in record {
    at = subst (λ x. StandsAt job x (spread (set cores c w) side)) (sym none) (subst (StandsAt job k) (sym e) at);
    answer = answer;
    same = λ _. e;
  }

  -- a step that is taken
  moved : (step : Step) (w : State) (side : BusSide) → is_enabled job step k ≡ true → Done ≡ took job step k →
      StandsAt job (stepped job step k) (spread (set cores c w) side) → IsStep job step k (spread cores bus) (spread (set cores c w) side) Done
  moved step w side can answer stands = record {
    at = subst (λ (b : Bool). StandsAt job (if b then stepped job step k else k) (spread (set cores c w) side)) (sym can) stands;
    answer = answer;
    same = λ not_done. absurd (not_done refl);
  }

  pub phase_is : (other w : State) (result : Took) → IsPhaseStep job c k (get_or cores c other) w result →
      IsStep job (Phase c) k (spread cores bus) (spread (set cores c w) bus) result
  phase_is other w Done s = let less : nat_lt (k.count c) job.shape.slots ≡ true = (let l = s.0 in grind arith) in
      moved (Phase c) w bus (rw less (rw s.1 refl)) (rw less (rw s.1 refl))
      (placed (stepped job (Phase c) k) w bus (let own : (c == c) ≡ true = grind arith in rw own s.2) (λ d differs. (grind arith, grind arith)) at.bus refl)
  phase_is other w (NotYet _) s = elim s [ ]
  phase_is other w Again s = let less : nat_lt (k.count c) job.shape.slots ≡ true = (let l = s.0 in grind arith) in
      still (Phase c) Again other w bus s.2 refl (rw less (rw s.1 refl)) (rw less (rw s.1 refl))
  phase_is other w Over s = let less : nat_lt (k.count c) job.shape.slots ≡ false = (let l = s.0 in grind arith) in
      still (Phase c) Over other w bus s.1 refl (rw less refl) (rw less refl)

  pub meet_is : (other w : State) (side : BusSide) (result : Took) →
      IsMeetStep job c k (pair (get_or cores c other) bus) (pair w side) result →
      IsStep job (Meet c) k (spread cores bus) (spread (set cores c w) side) result
  meet_is other w side Done s = let less : nat_lt (k.count c) job.shape.slots ≡ true = (let l = s.0 in grind arith) in
      let goes : goes_on job c (k.count c) k.turn ≡ true = s.2 in
      moved (Meet c) w side (rw less (rw s.1 (rw goes refl))) (rw less (rw s.1 (rw goes refl)))
      (placed (stepped job (Meet c) k) w side (let own : (c == c) ≡ true = grind arith in rw own s.3) (λ d differs. (grind arith, grind arith)) s.4 s.5)
  meet_is other w side (NotYet t) s = let less : nat_lt (k.count c) job.shape.slots ≡ true = (let l = s.0 in grind arith) in
      let goes : goes_on job c (k.count c) k.turn ≡ false = s.2 in
      still (Meet c) (NotYet t) other w side s.4 s.5 (rw less (rw s.1 (rw goes refl))) (rw less (rw s.1 (rw goes (ap NotYet s.3))))
  meet_is other w side Again s = let less : nat_lt (k.count c) job.shape.slots ≡ true = (let l = s.0 in grind arith) in
      still (Meet c) Again other w side s.2 s.3 (rw less (rw s.1 refl)) (rw less (rw s.1 refl))
  meet_is other w side Over s = let less : nat_lt (k.count c) job.shape.slots ≡ false = (let l = s.0 in grind arith) in
      still (Meet c) Over other w side s.1 s.2 (rw less refl) (rw less refl)

  -- the core's and the bus's part of it
  are_meeting : AllFit job k → (other : State) → k.marked c ≡ true → AreMeeting job (standing c (k.count c) k.turn) (pair (get_or cores c other) bus)
  are_meeting fits other marked = record {
    part = (subst (λ (m : Bool). IsAt job (k.count c) c m (get_or cores c other)) marked (at.core c other below)).part;
    side = at.bus;
    fits = fits c;
  }

  pub are_taking : AllFit job k → (other : State) → AreTaking job c k (pair (get_or cores c other) bus)
  are_taking fits other = record { at = at.core c other below; meeting = are_meeting fits other }

  pub can_take : AllFit job k → (other : State) → CanTake (pair (get_or cores c other) bus)
  can_take fits other = record { job = job; core = c; counts = k; at = are_taking fits other }
