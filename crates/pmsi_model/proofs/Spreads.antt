-- What steps do to the counts.
use Rattle.std.proofs.Common.{◌≡◌, ◌≢◌, ℕ, ◌+◌, ◌≤◌, Bool, true, false, if◌then◌else◌, List, [], ◌∷◌, ◌++◌, refl, sym, subst, arith}
use mathlib.Core.Logic.{dite}
use native.Mathlib.Decide.{ℕ_discrete}
use Rattle.pmsi_model.specs.declared.step.Step.{Step}
use Rattle.pmsi_model.specs.declared.step.Step.TheVariants.{Phase, Meet}
use Rattle.pmsi_model.specs.Job.{JobValue}
use Rattle.pmsi_model.specs.Slots.{plan_of, owner_of_slot}
use Rattle.pmsi_model.specs.Spreads.{AllFit, Counts, Fits, IsBefore, IsMeet, MeetsAreSteps, MeetsFit, SpreadsFit, at_start, can_meet, counts_from, is_enabled, is_own, step_counts, stepped}

-- a core finds the bus at its own slot
pub own_turn : (job : JobValue) (c count turn : ℕ) → Fits job c count turn → owner_of_slot (plan_of job) count ≡ c → turn ≡ count
own_turn job c count turn fits own = let past = fits.past in let before : turn ≤ count = fits.before count (omega arith) own in omega arith

pub one_more : (job : JobValue) (k : Counts) (steps : List Step) (step : Step) →
    counts_from job k (steps ++ step ∷ []) ≡ step_counts job step (counts_from job k steps)
unfolding counts_from
one_more job k [] step = refl
one_more job k (s ∷ steps) step = one_more job (step_counts job s k) steps step

-- ---- one Meet

module _ (job : JobValue) (c count turn next after : ℕ) (fits : Fits job c count turn) (meet : IsMeet job c count turn next after) where
  met_past : next ≤ after
  met_past = let p = fits.past in let b = fits.before count in let free = meet.free in let core = meet.core in let bus = meet.bus in grind arith

  met_before : IsBefore job c next after
  met_before slot from own = let b = fits.before slot in let free = meet.free in let core = meet.core in let bus = meet.bus in grind arith

  other_past : (d other : ℕ) → Fits job d other turn → other ≤ after
  other_past d other its = let p = fits.past in let b = fits.before count in let q = its.past in let bus = meet.bus in grind arith

  other_before : (d other : ℕ) → d ≢ c → Fits job d other turn → IsBefore job d other after
  other_before d other differs its slot from own =
      let p = fits.past in let b = fits.before count in let ahead : turn ≤ slot = its.before slot from own in let bus = meet.bus in grind arith

pub meets_fit : MeetsFit
meets_fit job c count turn next after fits meet = (
  record { past = met_past job c count turn next after fits meet; before = met_before job c count turn next after fits meet },
  λ d other differs its. record {
    past = other_past job c count turn next after fits meet d other its;
    before = other_before job c count turn next after fits meet d other differs its;
  },
)

-- ---- lists of steps

pub start_fits : (job : JobValue) → AllFit job at_start
start_fits job c = record { past = omega arith; before = λ slot from own. omega arith }

met : (job : JobValue) (c count turn : ℕ) (marked : Bool) → can_meet job c count marked turn ≡ true →
    IsMeet job c count turn (count + 1) (if is_own job c count then count + 1 else turn)
met job c count turn marked can = record { more = grind arith; free = grind arith; core = refl; bus = refl }

phase_fits : (job : JobValue) (c : ℕ) (k : Counts) → AllFit job k → AllFit job (stepped job (Phase c) k)
phase_fits job c k fits d = dite (ℕ_discrete d c)
    (λ same. let it = fits c in let count : (stepped job (Phase c) k).count d ≡ k.count d = grind arith in
    subst (λ (n : ℕ). Fits job d n k.turn) (sym count) (fits d))
    (λ differs. let count : (stepped job (Phase c) k).count d ≡ k.count d = grind arith in
    subst (λ (n : ℕ). Fits job d n k.turn) (sym count) (fits d))

meet_fits : (job : JobValue) (c : ℕ) (k : Counts) → AllFit job k → is_enabled job (Meet c) k ≡ true → AllFit job (stepped job (Meet c) k)
meet_fits job c k fits can d =
    let after = (stepped job (Meet c) k).turn in
    let both = meets_fit job c (k.count c) k.turn (k.count c + 1) after (fits c) (met job c (k.count c) k.turn (k.marked c) can) in
    dite (ℕ_discrete d c)
    (λ same. let count : (stepped job (Meet c) k).count d ≡ k.count c + 1 = grind arith in
    subst (λ (n : ℕ). Fits job d n after) (sym count) (subst (λ (n : ℕ). Fits job n (k.count c + 1) after) (sym same) both.0))
    (λ differs. let count : (stepped job (Meet c) k).count d ≡ k.count d = grind arith in
    subst (λ (n : ℕ). Fits job d n after) (sym count) (both.1 d (k.count d) differs (fits d)))

if_fits : (job : JobValue) (b : Bool) (k j : Counts) → AllFit job k → (b ≡ true → AllFit job j) → AllFit job (if b then j else k)
if_fits job true k j fits next = next refl
if_fits job false k j fits next = fits

pub step_fits : (job : JobValue) (step : Step) (k : Counts) → AllFit job k → AllFit job (step_counts job step k)
step_fits job (Phase c) k fits = if_fits job (is_enabled job (Phase c) k) k (stepped job (Phase c) k) fits (λ can. phase_fits job c k fits)
step_fits job (Meet c) k fits = if_fits job (is_enabled job (Meet c) k) k (stepped job (Meet c) k) fits (meet_fits job c k fits)

all_fit : (job : JobValue) (k : Counts) (steps : List Step) → AllFit job k → AllFit job (counts_from job k steps)
unfolding counts_from
all_fit job k [] fits = fits
all_fit job k (step ∷ steps) fits = all_fit job (step_counts job step k) steps (step_fits job step k fits)

pub spreads_fit : SpreadsFit
spreads_fit job steps = all_fit job at_start steps (start_fits job)

meet_counts : (job : JobValue) (c : ℕ) (k j : Counts) → j ≡ stepped job (Meet c) k → is_enabled job (Meet c) k ≡ true →
    IsMeet job c (k.count c) k.turn (j.count c) j.turn
meet_counts job c k j is can =
    let here : (stepped job (Meet c) k).count c ≡ k.count c + 1 = grind arith in
    subst (λ (j : Counts). IsMeet job c (k.count c) k.turn (j.count c) j.turn) (sym is)
    (subst (λ (n : ℕ). IsMeet job c (k.count c) k.turn n (stepped job (Meet c) k).turn) (sym here) (met job c (k.count c) k.turn (k.marked c) can))

pub meets_are_steps : MeetsAreSteps
meets_are_steps job c k can = meet_counts job c k (step_counts job (Meet c) k) (rw can refl) can
