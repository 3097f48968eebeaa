-- A core that snoops another core's action ends its slot.
use Rattle.std.proofs.Common.{◌≡◌, ◌≢◌, ℕ, ◌+◌, ◌*◌, ◌^◌, ◌<◌, ◌≤◌, List, [], ◌++◌, length, Option, Some, None, Bool, ◌==◌, inl, refl, sym, ap, ◌∙◌, subst, append-nil, arith}
use Rattle.std.proofs.lemmas.List.Elements.{filter-append}
use Rattle.std.specs.List.{filter}
use Rattle.pmsi_model.specs.declared.Action.{Action}
use Rattle.pmsi_model.specs.declared.Action.TheVariants.{Idle, Post, Fill, PostFill, Back}
use Rattle.pmsi_model.specs.declared.Row.{Row}
use Rattle.pmsi_model.specs.declared.Want.{Want}
use Rattle.pmsi_model.specs.Job.{JobValue, IsJob}
use Rattle.pmsi_model.specs.declared.Touch.{Touch}
use Rattle.pmsi_model.specs.Slots.{plan_of, own_slots, owner_of_slot}
use Rattle.pmsi_model.specs.Machine.{Machine, Request}
use Rattle.pmsi_model.specs.Phase.{Context, context_of}
use Rattle.pmsi_model.specs.Bus.{after_action}
use Rattle.pmsi_model.specs.Rows.{action_row, row_of, rows_of, slot_rows}
use Rattle.pmsi_model.specs.Run.{after_phases, machine_at, record_at, slot_done}
use Rattle.pmsi_model.proofs.Boundaries.{machine_at-slot, next_machine, next_rows, phases-slot}
use Rattle.pmsi_model.proofs.Distances.{slot_owner_below}
use Rattle.coherence_laws.proofs.Exports.{want_asked_between, phases_at, IsWhole}
use Rattle.pmsi_model.proofs.OwnSlots.{own_grows}
use Rattle.core_unit.specs.declared.state.State.{State}
use Rattle.core_unit.specs.Reserved.{Reserved}
use Rattle.core_unit.specs.State.{snooped, stepped}
use Rattle.core_unit.specs.Stands.{KnowsStates, StandsFor}
use Rattle.core_unit.specs.Parts.{CanSnoop, HasRows, HasTouches, IsCore, IsPart, IsPartAfter, own_touches, standing}
use Rattle.core_unit.specs.Acts.{IsSnooped}
use Rattle.core_unit.specs.Snoops.{CanSnoopAction}
use Rattle.core_unit.proofs.ActsTouches.{ended_touches, other_touches, touches_after, touches_before, touched_none}
use Rattle.core_unit.proofs.Carried.{carried, knows_carried, unchanged}
use Rattle.core_unit.proofs.Snoops.{IsActionSnooped, IsCoreIn, action_snooped}
use Rattle.core_unit.proofs.Untouched.{Untouched, untouched_of, snooped-run}

-- ---- rows

other_row : (slot c d : ℕ) (want : Option Want) → d ≢ c → filter (λ (row : Row). row.core == d) (row_of slot c want) ≡ []
other_row slot c d None other = refl
other_row slot c d (Some want) other = grind arith

-- a request that is served is the owner's
other_rows : (y : Machine) (c d : ℕ) (action : Action) → d ≢ c → filter (λ (row : Row). row.core == d) (action_row y c action) ≡ []
other_rows y c d Idle other = refl
other_rows y c d (Post name line) other = refl
other_rows y c d (Fill line) other = other_row y.slot c d (y.cores c).want other
other_rows y c d (PostFill name line) other = other_row y.slot c d (y.cores c).want other
other_rows y c d (Back line kept) other = refl

nothing_more : (rows more : List Row) → more ≡ [] → rows ++ more ≡ rows
nothing_more rows more none = grind (arith, append-nil rows)

-- ---- the slot ends

-- the core of a state doesn't know the slot
pub stands_stepped : (job : JobValue) (c : ℕ) (x : Context) (v : State) → StandsFor job c x v → StandsFor job c x (stepped v)
stands_stepped job c x v s = record { carries = unchanged job c x.memory v (stepped v) s.carries refl refl refl; core = s.core }

pub knows_stepped : (posted : List Request) (c : ℕ) (v : State) → KnowsStates posted c v → KnowsStates posted c (stepped v)
knows_stepped posted c v knows = record { names = knows.names; once = knows.once }

module _ (job : JobValue) (slot d : ℕ) (v : State) (p : IsPartAfter job slot d v) (apart : owner_of_slot (plan_of job) slot ≢ d) where
  abbrev x : Machine
  x = machine_at job slot

  abbrev y : Machine
  y = after_phases job x

  abbrev c : ℕ
  c = owner_of_slot (plan_of job) x.slot

  is : IsJob job
  is = p.in_slot.stands.carries.within

  now : x.slot ≡ slot
  now = machine_at-slot job slot

  other : d ≢ c
  other same = apart (ap (owner_of_slot (plan_of job)) (sym now) ∙ sym same)

  whole : IsWhole job.shape (y.slot + 1) y.posted y.cores
  whole = subst (λ (s : ℕ). IsWhole job.shape (s + 1) y.posted y.cores) (sym (phases-slot job job.shape.cores x ∙ now))
      (phases_at job is slot job.shape.cores (omega arith))

  before : IsCoreIn job d y v
  before = record { stands = carried job slot d v p; knows = knows_carried job slot d v p }

  all : IsActionSnooped job y c d v (record_at job slot)
  all = action_snooped job y c d v whole (slot_owner_below (plan_of job) x.slot is.shape.some_cores) other
      (want_asked_between job is slot job.shape.cores c) before

  -- there is room for what the core learns
  pub snoop_room : CanSnoopAction (record_at job slot) v
  snoop_room = all.room

  abbrev w : State
  w = snooped (record_at job slot) v

  run : untouched_of w ≡ untouched_of v
  run = snooped-run (record_at job slot) v

  same_rows : w.rows ≡ v.rows
  same_rows = ap (λ (u : Untouched). u.rows) run

  next_core_in : IsCoreIn job d (machine_at job (slot + 1)) w
  unfolding slot_done
  next_core_in = let h : IsCoreIn job d (after_action y c (record_at job slot)) w = all.core_in in
      subst (λ (m : Machine). IsCoreIn job d m w) (sym (next_machine job slot)) (record { stands = h.stands; knows = h.knows })

  rows_next : HasRows job (slot + 1) d (stepped w)
  rows_next = let mine : Row → Bool = λ row. row.core == d in let more : List Row = slot_rows job x (record_at job slot) in record {
    rows = ap (λ (r : Reserved Row). r.items) same_rows ∙ p.in_slot.rows.rows
        ∙ sym (ap (filter mine) (next_rows job slot) ∙ filter-append mine (rows_of job slot) more
        ∙ nothing_more (filter mine (rows_of job slot)) (filter mine more) (other_rows y c d (record_at job slot) other));
    few = (let few = p.in_slot.rows.few in let grows = own_grows (plan_of job) d slot in
        let count : length w.rows.items ≡ length v.rows.items = ap (λ (r : Reserved Row). length r.items) same_rows in omega arith);
    room = subst (λ (r : Reserved Row). own_slots (plan_of job) d job.shape.slots ≤ r.room) (sym same_rows) p.in_slot.rows.room;
  }

  -- the core has no access in the slot but those of its phase
  touches_next : HasTouches job (own_touches job (slot + 1) d) ((slot + 1) * job.shape.quantum) (stepped w)
  touches_next = ended_touches job (touches_before job slot d) [] (own_touches job (slot + 1) d) ((slot + 1) * job.shape.quantum) v w
      (touches_after job slot d is p.in_slot.stands.carries.below
      ∙ ap (λ (ts : List Touch). touches_before job slot d ++ ts) (other_touches y c d (record_at job slot) other))
      (touched_none v w (ap (λ (u : Untouched). u.keeps) run) (ap (λ (u : Untouched). u.touches) run) (ap (λ (u : Untouched). u.retired) run)
      (ap (λ (u : Untouched). standing u.want) run)) p.touches

  pub snooped_part : IsPart job (slot + 1) d (stepped w)
  snooped_part = record {
    in_slot = record {
      stands = stands_stepped job d (context_of (machine_at job (slot + 1)) d) w next_core_in.stands;
      knows = knows_stepped (machine_at job (slot + 1)).posted d w next_core_in.knows;
      now = ap (λ (n : ℕ). n + 1) (ap (λ (u : Untouched). u.slot) run ∙ p.in_slot.now);
      within = (let more = p.more in omega arith);
      rows = rows_next;
    };
    fresh = refl;
    touches = touches_next;
  }

-- ---- the call

pub can_snoop_action : (by : ℕ) (action : Action) (v : State) → CanSnoop by action v → CanSnoopAction action v
can_snoop_action by action v can = subst (λ (a : Action). CanSnoopAction a v) (sym can.what)
    (snoop_room can.job v.slot can.core v can.part (λ same. can.other (sym can.owner ∙ same)))

pub has_next : (by : ℕ) (action : Action) (v : State) → CanSnoop by action v → v.slot + 1 < 2 ^ 32
has_next by action v can = let more = can.part.more in let most = can.part.in_slot.stands.carries.within.shape.slots in omega arith

pub snooped_by : (by : ℕ) (action : Action) (v w : State) → w ≡ stepped (snooped action v) → IsSnooped by action v w
snooped_by by action v w is job slot c p owner other what =
    subst (IsPart job (slot + 1) c) (sym (is ∙ ap (λ (a : Action). let u : State = stepped (snooped a v) in u) what))
    (snooped_part job slot c v p (λ same. other (sym owner ∙ same)))

-- whether accesses are kept stays
pub snooped_keeps : (action : Action) (v w : State) → w ≡ stepped (snooped action v) → w.keeps ≡ v.keeps
snooped_keeps action v w is = ap (λ (u : State). u.keeps) is ∙ ap (λ (u : Untouched). u.keeps) (snooped-run action v)

pub snooped_core : (by : ℕ) (action : Action) (v w : State) → w ≡ stepped (snooped action v) → CanSnoop by action v → IsCore w
snooped_core by action v w is can = record {
  job = can.job;
  slot = v.slot + 1;
  core = can.core;
  part = inl (snooped_by by action v w is can.job v.slot can.core can.part can.owner can.other can.what);
}
