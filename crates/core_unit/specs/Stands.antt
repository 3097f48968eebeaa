-- A state stands for a core of the written machine, and the memory that it sees.
use Rattle.std.specs.Prelude.{◌≡◌, ◌≢◌, ◌⊎◌, ℕ, ◌+◌, ◌%◌, ◌^◌, ◌<◌, List, length, Some, None, true, option_map}
use Rattle.std.specs.List.{All}
use Rattle.pmsi_model.specs.declared.Mode.{Mode}
use Rattle.pmsi_model.specs.declared.Mode.TheVariants.{Shared, Modified}
use Rattle.pmsi_model.specs.declared.State.{State as LineName}
use Rattle.pmsi_model.specs.declared.State.TheVariants.{I, MIWB}
use Rattle.pmsi_model.specs.declared.Touch.{Touch}
use Rattle.pmsi_model.specs.declared.Want.{Want}
use Rattle.pmsi_model.specs.Geometry.{IsGeometry, line_of}
use Rattle.pmsi_model.specs.Access.{kind_of, width_of}
use Rattle.pmsi_model.specs.Job.{JobValue, IsJob, text_of}
use Rattle.pmsi_model.specs.Slots.{plan_of}
use Rattle.pmsi_model.specs.Coherent.{HoldsEachOnce}
use Rattle.pmsi_model.specs.Machine.{Request, mode_of, request_of}
use Rattle.pmsi_model.specs.Named.{state_in}
use Rattle.pmsi_model.specs.Effect.{Effect}
use Rattle.pmsi_model.specs.Phase.{Context, access_at, access_if_permitted, after_effect, instruction, set_lines, touch_list}
use Rattle.cache_ctrl.specs.declared.Event.TheVariants.{Choose, OwnFill}
use Rattle.cache_ctrl.specs.States.{AreTransient, Knows}
use Rattle.cache_array.specs.declared.line.CachedLine.{CachedLine}
use Rattle.cache_array.specs.Cache.{Holds as IsHeld, held_of, words_of}
use Rattle.rv_exec.specs.Effects.{IsAccessTo}
use Rattle.core_unit.specs.declared.state.State.{State}
use Rattle.core_unit.specs.Copies.{AreCopies}
use Rattle.core_unit.specs.Changes.{CanChange, next_for}
use Rattle.core_unit.specs.State.{core_of, gone_for, more_touches}

-- a want for an access to its line
pub record IsWantOf (job : JobValue) (want : Want) : Type 0 where
  pub access : IsAccessTo job.shape.memory want.access
  pub line : want.line ≡ line_of job.shape want.access.address
  pub kind : want.kind ≡ kind_of want.access.op

-- cached lines are copies of a job's flat memory
abbrev pub CopiesAgree : JobValue → List ℕ → List CachedLine → Type 0
CopiesAgree job memory lines = AreCopies job.shape.line_words memory (λ line. mode_of line (held_of lines)) (λ line. words_of line lines)

-- a state has the number, the shape and the text of a core of a job, and copies of this flat memory
pub record Carries (job : JobValue) (c : ℕ) (memory : List ℕ) (v : State) : Type 0 where
  pub within : IsJob job
  pub below : c < job.shape.cores
  pub number : v.number ≡ c
  pub shape : v.shape ≡ job.shape
  pub plan : v.plan ≡ plan_of job
  pub cache : v.cache.shape ≡ job.shape
  pub cores : v.pending.cores ≡ job.shape.cores
  pub text : v.text ≡ text_of job c
  pub bytes : length memory ≡ job.shape.memory
  pub small : All (λ byte. byte < 256) memory
  pub agree : CopiesAgree job memory v.cache.lines
  pub want : (want : Want) → v.pending.want ≡ Some want → IsWantOf job want

-- the core of a state, and a memory
abbrev pub with_memory : List ℕ → State → Context
with_memory memory v = record { core = core_of v; memory = memory }

-- a state stands for a core and the memory that it sees
pub record StandsFor (job : JobValue) (c : ℕ) (y : Context) (v : State) : Type 0 where
  pub carries : Carries job c y.memory v
  pub core : y.core ≡ core_of v

-- a core knows the states of its lines: the listed states and the modes give those of the machine, and a line is listed once,
-- in a state that isn't stable
pub record KnowsStates (posted : List Request) (c : ℕ) (v : State) : Type 0 where
  pub names : Knows v.states (core_of v) (state_in posted c (core_of v))
  pub once : AreTransient v.states

-- where it knew them it knows them, as long as it has posted no request
abbrev pub KeepsStates : State → State → Type 0
KeepsStates old new = (posted : List Request) (c : ℕ) → request_of c posted ≡ None → KnowsStates posted c old → KnowsStates posted c new

-- the slot, the mark of its phase and the rows stay, and so does whether accesses are kept, and their room
pub record SameRun (old new : State) : Type 0 where
  pub slot : new.slot ≡ old.slot
  pub rows : new.rows ≡ old.rows
  pub keeps : new.keeps ≡ old.keeps
  pub room : new.touches.room ≡ old.touches.room
  pub phase_done : new.phase_done ≡ old.phase_done
  pub states : KeepsStates old new

-- these accesses were done, and are kept where accesses are
abbrev pub HasTouched : List Touch → State → State → Type 0
HasTouched more old new = new.touches.items ≡ more_touches old.keeps old.touches.items more

-- ---- what an instruction does, for each job of which the old state can be a core's

-- an effect, which may depend on the shape of the job, is that of the machine
abbrev pub StandsAfter : (JobValue → Effect) → State → State → Type 0
StandsAfter effect old new =
    (job : JobValue) (c : ℕ) (memory : List ℕ) → Carries job c memory old →
    StandsFor job c (after_effect job.shape old.slot (effect job) (with_memory memory old)) new

-- and its access is done where it has permission
abbrev pub TouchesAfter : (JobValue → Effect) → State → State → Type 0
TouchesAfter effect old new =
    (job : JobValue) (c : ℕ) (memory : List ℕ) → Carries job c memory old →
    HasTouched (touch_list old.slot c (access_if_permitted job.shape (core_of old) (effect job)) memory) old new

-- the instruction at the pc is that of the machine
abbrev pub StandsNext : State → State → Type 0
StandsNext old new =
    (job : JobValue) (c : ℕ) (memory : List ℕ) → Carries job c memory old →
    StandsFor job c (instruction job.shape old.slot (text_of job c) (with_memory memory old)) new

-- and its access is done where it has permission
abbrev pub TouchesNext : State → State → Type 0
TouchesNext old new =
    (job : JobValue) (c : ℕ) (memory : List ℕ) → Carries job c memory old →
    HasTouched (touch_list old.slot c (access_at job.shape (text_of job c) (core_of old)) memory) old new

-- ---- what has to hold before

-- there is room for one more access, where they are kept
abbrev pub HasTouchRoom : State → Type 0
HasTouchRoom v = v.keeps ≡ true → length v.touches.items < v.touches.room

-- the state of a chosen line by the mode that it had
abbrev pub name_chosen : Mode → LineName
name_chosen Shared = I
name_chosen Modified = MIWB

-- a line can be chosen, and its new state tells whether it is to be written back
pub record CanChoose (gone : ℕ × Mode) (v : State) : Type 0 where
  pub changes : CanChange Choose gone.0 v
  pub goes : option_map (λ next. next.0) (next_for Choose gone.0 v) ≡ Some (name_chosen gone.1)

-- the line that has to leave for another can be chosen
abbrev pub CanMakeRoom : ℕ → State → Type 0
CanMakeRoom line v = (gone : ℕ × Mode) → gone_for line v ≡ Some gone → CanChoose gone v

-- a state of some job can execute an instruction: no line is held twice, there is room for a victim, and the core has no
-- request and knows the states of its lines
pub record CanExecute (v : State) : Type 0 where
  pub job : JobValue
  pub core : ℕ
  pub memory : List ℕ
  pub carries : Carries job core memory v
  pub once : HoldsEachOnce (held_of v.cache.lines)
  pub backs : length v.pending.write_backs < v.pending.cores
  pub retires : v.retired + 1 < 2 ^ 64
  pub touches : HasTouchRoom v
  pub wants_nothing : v.pending.want ≡ None
  pub posted : List Request
  pub unasked : request_of core posted ≡ None
  pub knows : KnowsStates posted core v

-- the words of a wanted line can be taken: the line has room in the cache, and its state can change
pub record CanTake (want : Want) (words : List ℕ) (v : State) : Type 0 where
  pub cache : v.cache.shape ≡ v.shape
  pub count : length words ≡ v.shape.line_words
  pub fits : IsHeld want.line v.cache.lines ⊎ (length (set_lines v.shape want.line (held_of v.cache.lines)) < v.shape.ways)
  pub changes : CanChange OwnFill want.line v

-- a want can be served
pub record CanServe (want : Want) (words : List ℕ) (v : State) : Type 0 where
  pub takes : CanTake want words v
  pub shape : IsGeometry v.shape
  pub aligned : want.access.address % width_of want.access.op ≡ 0
  pub retires : v.retired + 1 < 2 ^ 64
  pub rows : length v.rows.items < v.rows.room
  pub touches : HasTouchRoom v
  pub wanted : v.pending.want ≢ None
