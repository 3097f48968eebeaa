-- A core whose line changes its state by the table goes on knowing the states of its lines.
use Rattle.std.proofs.Common.{◌≡◌, ◌≢◌, ℕ, ◌<◌, ◌≤◌, List, length, Bool, true, ◌&&◌, Option, Some, None, refl, sym, ap, ◌∙◌, subst, arith}
use Rattle.pmsi_model.specs.declared.job.Geometry.{Geometry}
use Rattle.pmsi_model.specs.declared.Mode.{Mode}
use Rattle.pmsi_model.specs.declared.State.{State as LineName}
use Rattle.pmsi_model.specs.declared.limits.TheConstants.{MAX_CORES}
use Rattle.pmsi_model.specs.Bus.{is_core}
use Rattle.pmsi_model.specs.Job.{JobValue}
use Rattle.pmsi_model.specs.Machine.{Machine, CoreState, Request, mode_of}
use Rattle.pmsi_model.specs.Named.{state_in}
use Rattle.coherence_laws.proofs.Exports.{IsWhole, whole_coherent}
use Rattle.cache_ctrl.specs.declared.Duty.{Duty}
use Rattle.cache_ctrl.specs.declared.Duty.TheVariants.{Nothing, Append, DropCopy}
use Rattle.cache_ctrl.specs.declared.Event.{Event}
use Rattle.cache_ctrl.specs.declared.states.LineState.{LineState}
use Rattle.cache_ctrl.specs.declared.states.TheConstants.{STATES_ROOM}
use Rattle.cache_ctrl.specs.Duties.{done, held_by}
use Rattle.cache_ctrl.specs.States.{AreTransient, Knows, with_state}
use Rattle.cache_ctrl.specs.Table.{next_of}
use Rattle.cache_ctrl.proofs.Exports.{IsSettled, knows_same, knows_step, knows_within, settled_of, transient_set}
use Rattle.cache_array.specs.declared.line.CachedLine.{CachedLine}
use Rattle.cache_array.specs.Cache.{held_of}
use Rattle.cache_array.proofs.Exports.{held_of-others}
use Rattle.pend_buffers.specs.Pending.{PendingValue}
use Rattle.core_unit.specs.declared.state.State.{State}
use Rattle.core_unit.specs.Changes.{changed, changed_by, lines_by, next_for, states_in, with_duty}
use Rattle.core_unit.specs.State.{core_of}
use Rattle.core_unit.specs.Stands.{Carries, CopiesAgree, KeepsStates, KnowsStates}
use Rattle.core_unit.proofs.Carried.{copies_dropped, relined}
use Rattle.core_unit.proofs.States.{next_is}

-- ---- a core in a machine

-- the facts on which the states of a core rest
pub settled_in : (shape : Geometry) (s : ℕ) (y : Machine) (c : ℕ) (k : CoreState) → IsWhole shape s y.posted y.cores → y.cores c ≡ k → IsSettled y.posted c k
settled_in shape s y c k w core = subst (IsSettled y.posted c) core (settled_of shape (record y { slot = s }) (whole_coherent shape (record y { slot = s }) w) c)

-- what the table has for the machine's state of a line it has for the core's
pub entry_of : (event : Event) (line : ℕ) (posted : List Request) (c : ℕ) (v : State) (next : LineName × Duty) → KnowsStates posted c v
    → next_of (state_in posted c (core_of v) line) event ≡ Some next → next_for event line v ≡ Some next
entry_of event line posted c v next knows entry = next_is event line v ∙ ap (λ (name : LineName). next_of name event) (knows.names line) ∙ entry

pub some_comes : {T : Type 0} (o : Option T) (x : T) → o ≡ Some x → o ≢ None
some_comes o x is none = absurd cc

-- the core's request is the first of its queue where it is served
pub first_served : (c : ℕ) (o : Option ℕ) (b : Bool) → (is_core c o && b) ≡ true → o ≡ Some c
first_served c None b is = absurd (grind arith)
first_served c (Some d) b is = let same : d ≡ c = grind arith in ap (λ (n : ℕ). Some n) same

-- there is room for the states: a listed line is to be written back, or is the one that is asked for
pub states_room : (posted : List Request) (c : ℕ) (v : State) → KnowsStates posted c v → length v.pending.write_backs ≤ MAX_CORES
    → length v.states < STATES_ROOM
states_room posted c v knows few = let most = knows_within posted c (core_of v) v.states knows.once knows.names in omega arith

-- ---- a duty is done

duty_held : (duty : Duty) (line : ℕ) (lines : List CachedLine) → held_of (lines_by duty line lines) ≡ held_by duty line (held_of lines)
duty_held Nothing line lines = refl
duty_held Append line lines = refl
duty_held DropCopy line lines = held_of-others line lines

pub duty_core : (duty : Duty) (line : ℕ) (v : State) → core_of (with_duty duty line v) ≡ done duty line (core_of v)
duty_core duty line v = ap (λ (held : List (ℕ × Mode)). let k : CoreState = record (core_of (with_duty duty line v)) { held = held } in k) (duty_held duty line v.cache.lines)

pub duty_agree : (job : JobValue) (memory : List ℕ) (duty : Duty) (line : ℕ) (lines : List CachedLine) → CopiesAgree job memory lines
    → CopiesAgree job memory (lines_by duty line lines)
duty_agree job memory Nothing line lines agree = agree
duty_agree job memory Append line lines agree = agree
duty_agree job memory DropCopy line lines agree = copies_dropped job memory line lines agree

-- ---- a change

pub changed_core : (event : Event) (line : ℕ) (v : State) (name : LineName) (duty : Duty) → next_for event line v ≡ Some (name, duty)
    → core_of (changed event line v) ≡ done duty line (core_of v)
changed_core event line v name duty is = ap (λ (o : Option (LineName × Duty)). core_of (changed_by o line v)) is ∙ duty_core duty line v

pub changed_listed : (event : Event) (line : ℕ) (v : State) (name : LineName) (duty : Duty) → next_for event line v ≡ Some (name, duty)
    → (changed event line v).states ≡ with_state line name v.states
changed_listed event line v name duty is = ap (λ (o : Option (LineName × Duty)). states_in o line v.states) is

pub carries_changed : (job : JobValue) (c : ℕ) (memory : List ℕ) (next : Option (LineName × Duty)) (line : ℕ) (v : State) → Carries job c memory v
    → Carries job c memory (changed_by next line v)
carries_changed job c memory None line v a = relined job c memory v (changed_by None line v) a refl a.agree a.want
carries_changed job c memory (Some next) line v a =
    relined job c memory v (changed_by (Some next) line v) a refl (duty_agree job memory next.1 line v.cache.lines a.agree) a.want

-- the states are known once a line has its new state, where no other line's state or mode changes
pub knows_changed : (posted posted' : List Request) (c : ℕ) (v u : State) (line : ℕ) (j : CoreState) → KnowsStates posted c v → core_of u ≡ j
    → u.states ≡ with_state line (state_in posted' c j line) v.states
    → ((l : ℕ) → l ≢ line → state_in posted' c j l ≡ state_in posted c (core_of v) l)
    → ((l : ℕ) → l ≢ line → mode_of l j.held ≡ mode_of l (held_of v.cache.lines))
    → KnowsStates posted' c u
knows_changed posted posted' c v u line j knows core listed others modes = record {
  names = subst (λ (es : List LineState). Knows es (core_of u) (state_in posted' c (core_of u))) (sym listed)
      (subst (λ (k : CoreState). Knows (with_state line (state_in posted' c j line) v.states) k (state_in posted' c k)) (sym core)
      (knows_step posted posted' c (core_of v) j line v.states knows.names others modes));
  once = subst AreTransient (sym listed) (transient_set line (state_in posted' c j line) v.states knows.once);
}

-- ---- no state changes

state_same : (posted : List Request) (c : ℕ) (k j : CoreState) (l : ℕ) → mode_of l j.held ≡ mode_of l k.held → j.write_backs ≡ k.write_backs → j.want ≡ k.want
    → state_in posted c j l ≡ state_in posted c k l
unfolding state_in
state_same posted c k j l mode backs want = rw mode rw backs rw want refl

-- the states are known still where the mode of each line stays, and what the core has to do on the bus
pub keeps_known : (v u : State) → u.states ≡ v.states → u.pending ≡ v.pending → ((l : ℕ) → mode_of l (held_of u.cache.lines) ≡ mode_of l (held_of v.cache.lines)) → KeepsStates v u
keeps_known v u states pending modes posted c unasked knows = record {
  names = subst (λ (es : List LineState). Knows es (core_of u) (state_in posted c (core_of u))) (sym states)
      (knows_same v.states (core_of v) (core_of u) (state_in posted c (core_of v)) (state_in posted c (core_of u)) knows.names
      (λ l. state_same posted c (core_of v) (core_of u) l (modes l) (ap (λ (p : PendingValue). p.write_backs) pending) (ap (λ (p : PendingValue). p.want) pending))
      modes);
  once = subst AreTransient (sym states) knows.once;
}
