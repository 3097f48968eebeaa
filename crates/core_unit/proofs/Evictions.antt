-- The line that leaves a set.
use Rattle.std.proofs.Common.{◌≡◌, ◌≢◌, ℕ, ◌<◌, ◌≤◌, List, length, Bool, Option, Some, None, true, false, if◌then◌else◌, refl, sym, ap, ◌∙◌, subst, arith}
use Rattle.std.specs.Option.{option_map}
use Rattle.pmsi_model.specs.declared.job.Geometry.{Geometry}
use Rattle.pmsi_model.specs.declared.Access.{Access}
use Rattle.pmsi_model.specs.declared.Mode.{Mode}
use Rattle.pmsi_model.specs.declared.Mode.TheVariants.{Shared, Modified}
use Rattle.pmsi_model.specs.declared.State.{State as LineName}
use Rattle.pmsi_model.specs.declared.limits.TheConstants.{MAX_CORES}
use Rattle.pmsi_model.specs.declared.State.TheVariants.{I, S, M, ISD, ISDI, IMD, IMDS, IMDI, SMW, SMWS, MSWB, MIWB}
use Rattle.pmsi_model.specs.Access.{kind_of}
use Rattle.pmsi_model.specs.Coherent.{HoldsEachOnce, posted_request}
use Rattle.pmsi_model.specs.Geometry.{line_of}
use Rattle.pmsi_model.specs.Job.{JobValue}
use Rattle.pmsi_model.specs.Machine.{CoreState, Request, has_line, mode_of, request_of}
use Rattle.pmsi_model.specs.Named.{state_in}
use Rattle.pmsi_model.specs.Phase.{append_victim, drop_shared, evicted, missed, victim_of}
use Rattle.pmsi_model.proofs.Held.{evicted_held, mode_dropped}
use Rattle.cache_ctrl.specs.declared.Duty.{Duty}
use Rattle.cache_ctrl.specs.declared.Duty.TheVariants.{DropCopy}
use Rattle.cache_ctrl.specs.declared.Event.TheVariants.{Choose}
use Rattle.cache_ctrl.specs.declared.states.LineState.{LineState}
use Rattle.cache_ctrl.specs.Duties.{backs_by}
use Rattle.cache_ctrl.specs.States.{AreTransient, Knows}
use Rattle.cache_ctrl.specs.Table.{next_of}
use Rattle.cache_ctrl.proofs.Exports.{choose_duty, chosen_backs, chosen_held, chooses, knows_same, misses_else}
use Rattle.cache_array.specs.Cache.{held_of}
use Rattle.core_unit.specs.declared.state.State.{State}
use Rattle.core_unit.specs.Changes.{CanDo, duty_in, next_for, with_duty}
use Rattle.core_unit.specs.State.{chosen, core_of, gone_for, wanting}
use Rattle.core_unit.specs.Stands.{CanMakeRoom, CopiesAgree, KnowsStates, name_chosen}
use Rattle.core_unit.proofs.Carried.{frame_of}
use Rattle.core_unit.proofs.Changed.{changed_listed, duty_agree, duty_core, entry_of, knows_changed, some_comes, states_room}

-- ---- what leaves, by its mode

-- the duty at a chosen line is that of its mode
abbrev pub IsChosen : Option (ℕ × Mode) → State → Type 0
IsChosen gone v = (h : ℕ × Mode) → gone ≡ Some h → duty_in (next_for Choose h.0 v) ≡ choose_duty h.1 (has_line h.0 v.pending.write_backs)

pub chosen_core : (gone : Option (ℕ × Mode)) (v : State) → IsChosen gone v
    → core_of (chosen gone v)
    ≡ (let k : CoreState = core_of v in let j : CoreState = record k { held = drop_shared gone k.held; write_backs = append_victim (victim_of gone) k.write_backs } in j)
chosen_core None v is = refl
chosen_core (Some (line, mode)) v is =
    let waits : Bool = has_line line v.pending.write_backs in
    ap (λ (duty : Duty). core_of (with_duty duty line v)) (is (line, mode) refl)
    ∙ duty_core (choose_duty mode waits) line v
    ∙ ap (λ (held : List (ℕ × Mode)). let j : CoreState = record (core_of v) { held = held; write_backs = backs_by (choose_duty mode waits) line v.pending.write_backs } in j)
    (sym (chosen_held line mode waits (held_of v.cache.lines)))
    ∙ ap (λ (backs : List ℕ). let j : CoreState = record (core_of v) { held = drop_shared (Some (line, mode)) (held_of v.cache.lines); write_backs = backs } in j)
    (sym (chosen_backs line mode v.pending.write_backs))

pub chosen_frame : (gone : Option (ℕ × Mode)) (v : State) → frame_of (chosen gone v) ≡ frame_of v
chosen_frame None v = refl
chosen_frame (Some h) v = refl

pub chosen_agree : (job : JobValue) (memory : List ℕ) (gone : Option (ℕ × Mode)) (v : State) → CopiesAgree job memory v.cache.lines
    → CopiesAgree job memory (chosen gone v).cache.lines
chosen_agree job memory None v agree = agree
chosen_agree job memory (Some h) v agree = duty_agree job memory (duty_in (next_for Choose h.0 v)) h.0 v.cache.lines agree

-- the core that misses is that of the state that does
pub missed_core : (slot : ℕ) (shape : Geometry) (access : Access) (v : State) → v.cache.shape ≡ shape → v.slot ≡ slot → IsChosen (gone_for (line_of shape access.address) v) v
    → missed shape slot access (core_of v) ≡ core_of (wanting access (line_of shape access.address) v)
missed_core slot shape access v cache now is =
    let line : ℕ = line_of shape access.address in
    let k : CoreState = core_of v in
    ap (λ (g : Geometry). let gone : Option (ℕ × Mode) = evicted g line k.held in let j : CoreState = record k {
      held = drop_shared gone k.held;
      want = Some (record { line = line; kind = kind_of access.op; issue = slot; post = None; victim = victim_of gone; access = access });
      write_backs = append_victim (victim_of gone) k.write_backs;
    } in j) (sym cache)
    ∙ ap (λ (s : ℕ). let gone : Option (ℕ × Mode) = gone_for line v in let j : CoreState = record k {
      held = drop_shared gone k.held;
      want = Some (record { line = line; kind = kind_of access.op; issue = s; post = None; victim = victim_of gone; access = access });
      write_backs = append_victim (victim_of gone) k.write_backs;
    } in j) (sym now)
    ∙ ap (λ (k : CoreState). let j : CoreState = record k {
      want = Some (record { line = line; kind = kind_of access.op; issue = v.slot; post = None; victim = victim_of (gone_for line v); access = access });
    } in j) (sym (chosen_core (gone_for line v) v is))

-- ---- the states of the lines

abbrev is_drop : Duty → Bool
is_drop DropCopy = true
is_drop duty = false

-- the new state by the duty
dropped_name : (old name : LineName) (duty : Duty) → next_of old Choose ≡ Some (name, duty) → name ≡ (if is_drop duty then I else MIWB)
dropped_name I name duty is = absurd (grind arith)
dropped_name S name duty is = grind arith
dropped_name M name duty is = grind arith
dropped_name ISD name duty is = absurd (grind arith)
dropped_name ISDI name duty is = absurd (grind arith)
dropped_name IMD name duty is = absurd (grind arith)
dropped_name IMDS name duty is = absurd (grind arith)
dropped_name IMDI name duty is = absurd (grind arith)
dropped_name SMW name duty is = absurd (grind arith)
dropped_name SMWS name duty is = absurd (grind arith)
dropped_name MSWB name duty is = grind arith
dropped_name MIWB name duty is = grind arith

chosen_name : (mode : Mode) (waits : Bool) → (if is_drop (choose_duty mode waits) then I else MIWB) ≡ name_chosen mode
chosen_name Shared waits = refl
chosen_name Modified true = refl
chosen_name Modified false = refl

-- what the duty at a chosen line needs
choose_room : (line : ℕ) (mode : Mode) (waits : Bool) (v : State) → mode_of line (held_of v.cache.lines) ≡ Some mode → has_line line v.pending.write_backs ≡ waits
    → length v.pending.write_backs < v.pending.cores → CanDo (choose_duty mode waits) line v
choose_room line Shared waits v held listed room = λ none. absurd cc
choose_room line Modified true v held listed room = tt
choose_room line Modified false v held listed room = (listed, room)

module _ (access : Access) (posted : List Request) (c : ℕ) (v : State) (once : HoldsEachOnce (held_of v.cache.lines)) (unasked : request_of c posted ≡ None)
    (wants_nothing : v.pending.want ≡ None) (knows : KnowsStates posted c v) where
  posted_none : request_of c posted ≡ posted_request c v.pending.want
  posted_none = unasked ∙ sym (ap (posted_request c) wants_nothing)

  machine_entry : (h : ℕ × Mode) → gone_for (line_of v.cache.shape access.address) v ≡ Some h
      → next_of (state_in posted c (core_of v) h.0) Choose
      ≡ Some (state_in posted c (missed v.cache.shape v.slot access (core_of v)) h.0, choose_duty h.1 (has_line h.0 v.pending.write_backs))
  machine_entry h gone = chooses v.cache.shape v.slot access posted c (core_of v) h once posted_none wants_nothing gone

  entry : (h : ℕ × Mode) → gone_for (line_of v.cache.shape access.address) v ≡ Some h
      → next_for Choose h.0 v ≡ Some (state_in posted c (missed v.cache.shape v.slot access (core_of v)) h.0, choose_duty h.1 (has_line h.0 v.pending.write_backs))
  entry h gone = entry_of Choose h.0 posted c v
      (state_in posted c (missed v.cache.shape v.slot access (core_of v)) h.0, choose_duty h.1 (has_line h.0 v.pending.write_backs)) knows (machine_entry h gone)

  pub is_chosen : IsChosen (gone_for (line_of v.cache.shape access.address) v) v
  is_chosen h gone = ap duty_in (entry h gone)

  core_after : core_of (wanting access (line_of v.cache.shape access.address) v) ≡ missed v.cache.shape v.slot access (core_of v)
  core_after = sym (missed_core v.slot v.cache.shape access v refl refl is_chosen)

  knows_by : (gone : Option (ℕ × Mode)) → gone_for (line_of v.cache.shape access.address) v ≡ gone → KnowsStates posted c (wanting access (line_of v.cache.shape access.address) v)
  knows_by None none = let u : State = wanting access (line_of v.cache.shape access.address) v in
      let states : u.states ≡ v.states = ap (λ (o : Option (ℕ × Mode)). (chosen o v).states) none in
      let away : (l : ℕ) → (h : ℕ × Mode) → gone_for (line_of v.cache.shape access.address) v ≡ Some h → l ≢ h.0 = (λ l h some. absurd cc) in record {
        names = subst (λ (es : List LineState). Knows es (core_of u) (state_in posted c (core_of u))) (sym states)
            (subst (λ (k : CoreState). Knows v.states k (state_in posted c k)) (sym core_after)
            (knows_same v.states (core_of v) (missed v.cache.shape v.slot access (core_of v)) (state_in posted c (core_of v))
            (state_in posted c (missed v.cache.shape v.slot access (core_of v))) knows.names
            (λ l. misses_else v.cache.shape v.slot access posted c (core_of v) l wants_nothing (away l))
            (λ l. mode_dropped (gone_for (line_of v.cache.shape access.address) v) l (held_of v.cache.lines) (away l))));
        once = subst AreTransient (sym states) knows.once;
      }
  knows_by (Some h) gone = let u : State = wanting access (line_of v.cache.shape access.address) v in
      let name : LineName = state_in posted c (missed v.cache.shape v.slot access (core_of v)) h.0 in
      let away : (l : ℕ) → l ≢ h.0 → (i : ℕ × Mode) → gone_for (line_of v.cache.shape access.address) v ≡ Some i → l ≢ i.0 = (λ l other i some. grind arith) in
      knows_changed posted posted c v u h.0 (missed v.cache.shape v.slot access (core_of v)) knows core_after
      (ap (λ (o : Option (ℕ × Mode)). (chosen o v).states) gone ∙ changed_listed Choose h.0 v name (choose_duty h.1 (has_line h.0 v.pending.write_backs)) (entry h gone))
      (λ l other. misses_else v.cache.shape v.slot access posted c (core_of v) l wants_nothing (away l other))
      (λ l other. mode_dropped (gone_for (line_of v.cache.shape access.address) v) l (held_of v.cache.lines) (away l other))

  -- a core that misses knows the states of its lines
  pub missed_knows : KnowsStates posted c (wanting access (line_of v.cache.shape access.address) v)
  missed_knows = knows_by (gone_for (line_of v.cache.shape access.address) v) refl

  -- and can choose the line that leaves
  pub makes_room : length v.pending.write_backs < v.pending.cores → v.pending.cores ≤ MAX_CORES → CanMakeRoom (line_of v.cache.shape access.address) v
  makes_room room few h gone = let next = entry h gone in
      let name : LineName = state_in posted c (missed v.cache.shape v.slot access (core_of v)) h.0 in
      let duty : Duty = choose_duty h.1 (has_line h.0 v.pending.write_backs) in record {
        changes = record {
          comes = some_comes (next_for Choose h.0 v) (name, duty) next;
          room = states_room posted c v knows (omega arith);
          duty = subst (λ (o : Option (LineName × Duty)). CanDo (duty_in o) h.0 v) (sym next)
              (choose_room h.0 h.1 (has_line h.0 v.pending.write_backs) v
              (evicted_held v.cache.shape (line_of v.cache.shape access.address) (held_of v.cache.lines) h once gone).0 refl room);
        };
        goes = ap (option_map (λ (n : LineName × Duty). n.0)) next
            ∙ ap (λ (n : LineName). Some n) (dropped_name (state_in posted c (core_of v) h.0) name duty (machine_entry h gone) ∙ chosen_name h.1 (has_line h.0 v.pending.write_backs));
      }

-- ---- as the code finds it

with_number : (gone : Option (ℕ × Mode)) (victim : ℕ) → option_map (λ (h : ℕ × Mode). h.0) gone ≡ Some victim → (mode : Mode) × (gone ≡ Some (victim, mode))
with_number None victim is = absurd (grind arith)
with_number (Some (line, mode)) victim is = let same : line ≡ victim = grind arith in (mode, ap (λ (l : ℕ). Some (l, mode)) same)

pub gone_with : (line victim : ℕ) (v : State) → Some victim ≡ option_map (λ (h : ℕ × Mode). h.0) (gone_for line v) → (mode : Mode) × (gone_for line v ≡ Some (victim, mode))
gone_with line victim v is = with_number (gone_for line v) victim (sym is)
