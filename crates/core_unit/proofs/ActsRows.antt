-- A core's rows, and their room, when a slot of its own is over.
use Rattle.std.proofs.Common.{◌≡◌, ℕ, ◌+◌, ◌<◌, ◌≤◌, ◌==◌, List, [], ◌∷◌, ◌++◌, length, length-append, append-nil, Some, sym, ap, ◌∙◌, subst, arith}
use Rattle.std.specs.List.{filter}
use Rattle.std.specs.Option.{unwrap_or}
use Rattle.std.proofs.lemmas.List.Elements.{filter-append}
use Rattle.pmsi_model.specs.declared.Action.{Action}
use Rattle.pmsi_model.specs.declared.Row.{Row}
use Rattle.pmsi_model.specs.declared.Want.{Want}
use Rattle.pmsi_model.specs.Job.{JobValue}
use Rattle.pmsi_model.specs.Slots.{plan_of, own_slots, owner_of_slot}
use Rattle.pmsi_model.specs.Machine.{Machine}
use Rattle.pmsi_model.specs.Bus.{action_of}
use Rattle.pmsi_model.specs.Rows.{action_row, row_of, rows_of, slot_rows}
use Rattle.pmsi_model.specs.Run.{after_phases, machine_at}
use Rattle.pmsi_model.proofs.Boundaries.{machine_at-slot, next_rows}
use Rattle.pmsi_model.proofs.OwnSlots.{own_before, own_grows, own_here}
use Rattle.core_unit.specs.declared.state.State.{State}
use Rattle.core_unit.specs.Reserved.{Reserved}
use Rattle.core_unit.specs.State.{row_for}
use Rattle.core_unit.specs.Parts.{HasRows}
use Rattle.core_unit.proofs.SidesNext.{record_is}

-- ---- rows

module _ (job : JobValue) (slot c : ℕ) (v w : State) (own : owner_of_slot (plan_of job) slot ≡ c) (h : HasRows job slot c v) where
  -- the rows of an own slot
  own_rows : (action : Action) → action_of job (after_phases job (machine_at job slot)) c ≡ action
      → rows_of job (slot + 1) ≡ rows_of job slot ++ action_row (after_phases job (machine_at job slot)) c action
  own_rows action acted = next_rows job slot
      ∙ ap (λ (a : Action). rows_of job slot ++ slot_rows job (machine_at job slot) a) (record_is job slot c own ∙ acted)
      ∙ ap (λ (d : ℕ). rows_of job slot ++ action_row (after_phases job (machine_at job slot)) d action)
      (ap (owner_of_slot (plan_of job)) (machine_at-slot job slot) ∙ own)

  -- nothing is served
  pub rows_stay : (action : Action) → action_of job (after_phases job (machine_at job slot)) c ≡ action
      → action_row (after_phases job (machine_at job slot)) c action ≡ [] → w.rows ≡ v.rows
      → HasRows job (slot + 1) c w
  rows_stay action acted none same = record {
    rows = ap (λ (r : Reserved Row). r.items) same ∙ h.rows
        ∙ ap (filter (λ (row : Row). row.core == c))
        (sym (own_rows action acted ∙ ap (λ (more : List Row). rows_of job slot ++ more) none ∙ append-nil (rows_of job slot)));
    few = (let few = h.few in let grows = own_grows (plan_of job) c slot in
        let count : length w.rows.items ≡ length v.rows.items = ap (λ (r : Reserved Row). length r.items) same in omega arith);
    room = subst (λ (r : Reserved Row). own_slots (plan_of job) c job.shape.slots ≤ r.room) (sym same) h.room;
  }

  mine_kept : (row : Row) → row.core ≡ c → filter (λ (r : Row). r.core == c) (row ∷ []) ≡ row ∷ []
  mine_kept row is = grind arith

  -- a request is served
  pub rows_grow : (action : Action) (row : Row) → action_of job (after_phases job (machine_at job slot)) c ≡ action
      → action_row (after_phases job (machine_at job slot)) c action ≡ row ∷ [] → row.core ≡ c
      → w.rows ≡ record v.rows { items = v.rows.items ++ row ∷ [] } → HasRows job (slot + 1) c w
  rows_grow action row acted one core more = record {
    rows = ap (λ (r : Reserved Row). r.items) more ∙ ap (λ (rows : List Row). rows ++ row ∷ []) h.rows
        ∙ ap (λ (rows : List Row). filter (λ (r : Row). r.core == c) (rows_of job slot) ++ rows) (sym (mine_kept row core))
        ∙ sym (filter-append (λ (r : Row). r.core == c) (rows_of job slot) (row ∷ []))
        ∙ ap (filter (λ (r : Row). r.core == c)) (sym (own_rows action acted ∙ ap (λ (rows : List Row). rows_of job slot ++ rows) one));
    few = (let few = h.few in let one = own_here (plan_of job) c slot own in
        let count : length w.rows.items ≡ length v.rows.items + 1 = ap (λ (r : Reserved Row). length r.items) more ∙ length-append v.rows.items (row ∷ []) in
        omega arith);
    room = subst (λ (r : Reserved Row). own_slots (plan_of job) c job.shape.slots ≤ r.room) (sym more) h.room;
  }

  -- there is room for it
  pub row_fits : slot < job.shape.slots → length v.rows.items < v.rows.room
  row_fits more = let few = h.few in let room = h.room in let before = own_before (plan_of job) c slot job.shape.slots more own in omega arith

-- the row of a request that is served
pub served_row : (x : Machine) (c : ℕ) (want : Want) (post : ℕ) (v : State) → v.number ≡ c → v.slot ≡ x.slot → (x.cores c).want ≡ Some want
    → unwrap_or want.post x.slot ≡ post
    → row_of x.slot c (x.cores c).want ≡ row_for want post v ∷ []
served_row x c want post v number now wants is = ap (row_of x.slot c) wants
    ∙ ap (λ (p : ℕ). record { core = c; line = want.line; kind = want.kind; issue = want.issue; post = p; fill = x.slot } ∷ []) is
    ∙ ap (λ (d : ℕ). record { core = d; line = want.line; kind = want.kind; issue = want.issue; post = post; fill = x.slot } ∷ []) (sym number)
    ∙ ap (λ (slot : ℕ). record { core = v.number; line = want.line; kind = want.kind; issue = want.issue; post = post; fill = slot } ∷ []) (sym now)
