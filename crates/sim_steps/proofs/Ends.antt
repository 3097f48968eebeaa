-- Spreads at their counts, and those whose cores have come to the end.
use Rattle.std.proofs.Common.{◌≡◌, ℕ, ◌≤◌, Bool, true, false, if◌then◌else◌, nat_lt, refl, sym, ◌∙◌, ap, subst, arith}
use Rattle.pmsi_model.specs.declared.step.Step.TheVariants.{Phase, Meet}
use Rattle.pmsi_model.specs.Job.{JobValue}
use Rattle.pmsi_model.specs.Parts.{IsBusPart}
use Rattle.pmsi_model.specs.Spreads.{Fits, counts_after, goes_on, is_own}
use Rattle.pmsi_model.proofs.Spreads.{spreads_fit}
use Rattle.bus_core.proofs.Exports.{parts_agree}
use Rattle.core_unit.specs.declared.state.State.{State}
use Rattle.core_unit.specs.Parts.{IsPart}
use Rattle.core_unit.proofs.Exports.{parts_alike}
use Rattle.sim_steps.specs.declared.took.Took.TheVariants.{Done, NotYet, Again, Over}
use Rattle.sim_steps.specs.Took.{is_in_order}
use Rattle.sim_steps.specs.Cores.{IsPartBy}
use Rattle.sim_steps.specs.Laws.{EndsAreAlike, EndsAreEqual, SpreadsAreParts, WaitsAtItsSlot}

pub spreads_are_parts : SpreadsAreParts
spreads_are_parts job steps v at = record {
  core = at.core;
  fits = spreads_fit job steps;
  bus = at.bus;
  trace = at.bus.trace ∙ rw at.keeps refl;
}

-- ---- waiting

waits_by : (job : JobValue) (c count turn t : ℕ) (free more marked : Bool) → Fits job c count turn → goes_on job c count turn ≡ free →
    (if more then (if marked then (if free then Done else NotYet turn) else Again) else Over) ≡ NotYet t → (t ≡ count) × (is_own job c t ≡ false)
waits_by job c count turn t true true true fits goes is = absurd (grind arith)
waits_by job c count turn t true true false fits goes is = absurd (grind arith)
waits_by job c count turn t true false marked fits goes is = absurd (grind arith)
waits_by job c count turn t false true false fits goes is = absurd (grind arith)
waits_by job c count turn t false false marked fits goes is = absurd (grind arith)
waits_by job c count turn t false true true fits goes is =
    let same : turn ≡ t = grind arith in
    let past = fits.past in
    let here : t ≡ count = grind arith in
    (here, ap (is_own job c) here ∙ grind arith)

never_waits : (more marked : Bool) (t : ℕ) → (if more then (if marked then Done else Again) else Over) ≡ NotYet t → ⊥
never_waits true true t is = grind arith
never_waits true false t is = grind arith
never_waits false marked t is = grind arith

pub waits_at_its_slot : WaitsAtItsSlot
waits_at_its_slot job steps (Phase c) t is =
    let k = counts_after job steps in absurd (never_waits (nat_lt (k.count c) job.shape.slots) (is_in_order (Phase c) k) t is)
waits_at_its_slot job steps (Meet c) t is =
    let k = counts_after job steps in
    waits_by job c (k.count c) k.turn t (goes_on job c (k.count c) k.turn) (nat_lt (k.count c) job.shape.slots) (k.marked c) (spreads_fit job steps c) refl is

-- ---- the end

at_end : (job : JobValue) (count c : ℕ) (marked : Bool) (v : State) → count ≡ job.shape.slots → IsPartBy job count c marked v →
    IsPart job job.shape.slots c v
at_end job count c false v over part = subst (λ (n : ℕ). IsPart job n c v) over part
at_end job count c true v over part = let more = part.more in absurd (omega arith)

pub ends_are_alike : EndsAreAlike
ends_are_alike job steps v over at =
    let k = counts_after job steps in
    let fits = spreads_fit job steps in
    let some : 1 ≤ job.shape.cores = at.within.shape.some_cores in
    let zero_over : k.count 0 ≡ job.shape.slots = over 0 (omega arith) in
    let past : k.count 0 ≤ k.turn = (fits 0).past in
    let within : k.turn ≤ job.shape.slots = at.bus.within in
    let turn : k.turn ≡ job.shape.slots = omega arith in record {
      core = λ c other below. at_end job (k.count c) c (k.marked c) _ (over c below) (at.core c other below).part;
      bus = subst (λ (n : ℕ). IsBusPart job n v.bus) turn at.bus;
    }

pub ends_are_equal : EndsAreEqual
ends_are_equal job steps others v w over over_too at at_too =
    let a = ends_are_alike job steps v over at in
    let b = ends_are_alike job others w over_too at_too in record {
      cores = λ c other below. parts_alike job job.shape.slots c _ _ ((at.core c other below).keeps ∙ sym (at_too.core c other below).keeps)
          (a.core c other below) (b.core c other below);
      bus = parts_agree job job.shape.slots v.bus w.bus a.bus b.bus (at.keeps ∙ sym at_too.keeps);
    }
