-- What a core and its bus come to where they meet.
use Rattle.std.proofs.Common.{◌≡◌, ◌≢◌, ℕ, ◌+◌, ◌-◌, ◌<◌, ◌≤◌, Bool, true, false, nat_lt, Option, Some, None, refl, if◌then◌else◌, sym, ap, ◌∙◌, subst, arith}
use Rattle.pmsi_model.specs.declared.Action.{Action}
use Rattle.pmsi_model.specs.Job.{JobValue}
use Rattle.pmsi_model.specs.Slots.{SlotPlan, plan_of, owner_of_slot, gap_of, distance}
use Rattle.pmsi_model.specs.Run.{record_at}
use Rattle.pmsi_model.specs.Shared.{BusSide}
use Rattle.pmsi_model.specs.Parts.{IsBusPart}
use Rattle.pmsi_model.specs.Spreads.{Fits, is_own}
use Rattle.pmsi_model.proofs.Distances.{distance_some}
use Rattle.pmsi_model.proofs.Spreads.{own_turn}
use Rattle.bus_core.specs.Records.{is_recent}
use Rattle.core_unit.specs.declared.state.State.{State}
use Rattle.core_unit.specs.Acts.{IsActed, IsSnooped}
use Rattle.core_unit.specs.Parts.{CanAct, CanSnoop, IsPartAfter}
use Rattle.slot_plan.proofs.Exports.{next_at_distance}
use Rattle.sim_steps.specs.Meetings.{AreMeeting, AreWaiting, HaveMet, pair, standing}

-- the bus comes no further than the gap past a core that it fits
pub soon : (job : JobValue) (c count turn : ℕ) → c < job.shape.cores → Fits job c count turn → turn ≤ count + gap_of (plan_of job)
soon job c count turn below fits =
    let some : 1 ≤ distance (plan_of job) c count = distance_some (plan_of job) c count in
    let next = next_at_distance (plan_of job) c count (count + (distance (plan_of job) c count - 1)) below (omega arith) in
    let ahead : turn ≤ count + (distance (plan_of job) c count - 1) = fits.before (count + (distance (plan_of job) c count - 1)) next.not_below next.own in
    let less = next.soon in
    omega arith

-- so that it knows the action of the core's slot where it has passed it
recent_is : (plan : SlotPlan) (slot turn : ℕ) → turn ≤ slot + gap_of plan → is_recent plan slot turn ≡ nat_lt slot turn
recent_is plan slot turn near = grind arith

some_in : (b : Bool) (a action : Action) → Some action ≡ (if b then Some a else None) → (b ≡ true) × (action ≡ a)
some_in true a action is = (refl, grind arith)
some_in false a action is = absurd (grind arith)

none_in : (b : Bool) (a : Action) → ◌≡◌ {A = Option Action} None (if b then Some a else None) → b ≡ false
none_in true a is = absurd (grind arith)
none_in false a is = refl

-- what is read of the bus for a slot
abbrev pub IsRecordOf : BusSide → ℕ → Option Action → Type 0
IsRecordOf b slot result =
    (job : JobValue) (s : ℕ) → IsBusPart job s b → result ≡ (if is_recent (plan_of job) slot s then Some (record_at job slot) else None)

module _ (job : JobValue) (c count turn : ℕ) (v : State) (b : BusSide) (at : AreMeeting job (standing c count turn) (pair v b)) where
  now : v.slot ≡ count
  now = at.part.in_slot.now

  number : v.number ≡ c
  number = at.part.in_slot.stands.carries.number

  -- the owner of the core's slot, by the core's table
  pub owner_is : (plan : SlotPlan) (slot owner : ℕ) → plan ≡ v.plan → slot ≡ v.slot → owner ≡ owner_of_slot plan slot →
      owner ≡ owner_of_slot (plan_of job) count
  owner_is plan slot owner table here is =
      is ∙ ap (λ (p : SlotPlan). owner_of_slot p slot) (table ∙ at.part.in_slot.stands.carries.plan) ∙ ap (owner_of_slot (plan_of job)) (here ∙ now)

  pub mine : (owner : ℕ) → owner ≡ owner_of_slot (plan_of job) count → owner ≡ v.number → owner_of_slot (plan_of job) count ≡ c
  mine owner by own = sym by ∙ own ∙ number

  pub others : (owner : ℕ) → owner ≡ owner_of_slot (plan_of job) count → owner ≢ v.number → owner_of_slot (plan_of job) count ≢ c
  others owner by differs own = differs (by ∙ own ∙ sym number)

  told : (slot : ℕ) (result : Option Action) → slot ≡ v.slot → IsRecordOf b slot result →
      result ≡ (if nat_lt count turn then Some (record_at job count) else None)
  told slot result here is =
      is job turn at.side
      ∙ ap (λ (n : ℕ). if is_recent (plan_of job) n turn then Some (record_at job n) else None) (here ∙ now)
      ∙ ap (λ (b : Bool). if b then Some (record_at job count) else None)
      (recent_is (plan_of job) count turn (soon job c count turn at.part.in_slot.stands.carries.below at.fits))

  -- ---- at a slot of its own

  module _ (own : owner_of_slot (plan_of job) count ≡ c) where
    here : IsBusPart job count b
    here = subst (λ (n : ℕ). IsBusPart job n b) (own_turn job c count turn at.fits own) at.side

    pub can_act : CanAct v b
    can_act = record {
      job = job;
      core = c;
      part = subst (λ (n : ℕ). IsPartAfter job n c v) (sym now) at.part;
      bus = subst (λ (n : ℕ). IsBusPart job n b) (sym now) here;
      own = ap (owner_of_slot (plan_of job)) now ∙ own;
    }

    pub acted : (action : Action) (w : State) (d : BusSide) →
        ((job : JobValue) (slot c : ℕ) → IsPartAfter job slot c v → IsBusPart job slot b → IsActed job slot c action w d) →
        w.keeps ≡ v.keeps → d.keeps ≡ b.keeps → HaveMet job (standing c count turn) action (pair v b) (pair w d)
    acted action w d does keeps bus_keeps =
        let yes : is_own job c count ≡ true = grind arith in
        let done = does job count c at.part here in record {
          meet = record { more = at.part.more; free = rw yes refl; core = refl; bus = refl };
          what = done.what;
          part = done.core;
          side = subst (λ (n : ℕ). IsBusPart job n d) (sym (ap (λ (o : Bool). if o then count + 1 else turn) yes)) done.bus;
          keeps = keeps;
          bus_keeps = bus_keeps;
        }

  -- ---- at another core's slot

  module _ (other : owner_of_slot (plan_of job) count ≢ c) where
    not_own : is_own job c count ≡ false
    not_own = grind arith

    -- the bus hasn't passed it
    pub waits : (slot : ℕ) → slot ≡ v.slot → IsRecordOf b slot None → AreWaiting job (standing c count turn) (pair v b) (pair v b)
    waits slot at_slot is = record {
      waits = rw not_own (none_in (nat_lt count turn) (record_at job count) (told slot None at_slot is));
      core = refl;
      side = refl;
    }

    -- the bus has passed it, with this action
    module _ (slot : ℕ) (action : Action) (at_slot : slot ≡ v.slot) (is : IsRecordOf b slot (Some action)) where
      known : (nat_lt count turn ≡ true) × (action ≡ record_at job count)
      known = some_in (nat_lt count turn) (record_at job count) action (told slot (Some action) at_slot is)

      pub can_snoop : (owner : ℕ) → owner ≡ owner_of_slot (plan_of job) count → CanSnoop owner action v
      can_snoop owner by = record {
        job = job;
        core = c;
        part = subst (λ (n : ℕ). IsPartAfter job n c v) (sym now) at.part;
        owner = ap (owner_of_slot (plan_of job)) now ∙ sym by;
        other = λ same. other (sym by ∙ same);
        what = known.1 ∙ ap (record_at job) (sym now);
      }

      pub snooped : (owner : ℕ) (w : State) → owner ≡ owner_of_slot (plan_of job) count → IsSnooped owner action v w → w.keeps ≡ v.keeps →
          HaveMet job (standing c count turn) action (pair v b) (pair w b)
      snooped owner w by does keeps = record {
        meet = record { more = at.part.more; free = rw not_own known.0; core = refl; bus = refl };
        what = known.1;
        part = does job count c at.part (sym by) (λ same. other (sym by ∙ same)) known.1;
        side = subst (λ (n : ℕ). IsBusPart job n b) (sym (ap (λ (o : Bool). if o then count + 1 else turn) not_own)) at.side;
        keeps = keeps;
        bus_keeps = refl;
      }
