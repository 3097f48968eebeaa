-- The phases of a slot: memory goes as their accesses say, and each want stays within memory.
use Rattle.std.proofs.Common.{◌≡◌, ℕ, zero, suc, ◌%◌, ◌<◌, ◌==◌, Bool, true, false, if◌then◌else◌, Option, Some, None, List, [], ◌++◌, All, length, sym, ◌∙◌, subst}
use Rattle.pmsi_model.specs.declared.job.Geometry.{Geometry}
use Rattle.pmsi_model.specs.declared.Access.{Access}
use Rattle.pmsi_model.specs.declared.Touch.{Touch}
use Rattle.pmsi_model.specs.declared.Want.{Want}
use Rattle.pmsi_model.specs.Job.{JobValue, text_of}
use Rattle.pmsi_model.specs.Effect.{Effect, Next, Memory, Stop}
use Rattle.pmsi_model.specs.Machine.{Machine, CoreState}
use Rattle.pmsi_model.specs.Phase.{Context, can_run, effect_at, is_permitted, accessed, missed, after_effect, instruction, instructions, access_if_permitted, touch_list, instruction_touches, context_of, phase, phase_touches, phases, phases_touches}
use Rattle.latest_laws.proofs.Follows.{Follows, follows_none, follows_append}
use Rattle.pmsi_model.proofs.Accesses.{IsFit}
use Rattle.latest_laws.proofs.Accesses.{access_follows}
use Rattle.pmsi_model.proofs.Effects.{EffectFits, effect_fits}

-- ---- one core

-- the access of a want is within a memory of this size
abbrev pub WantWithin : ℕ → Option Want → Type 0
WantWithin size None = Unit {0}
WantWithin size (Some want) = IsFit size want.access

-- what a core and its memory are to be
record IsReady (size : ℕ) (x : Context) : Type 0 where
  pub bytes : All (λ byte. byte < 256) x.memory
  pub extent : length x.memory ≡ size
  pub want : WantWithin size x.core.want

-- the accesses lead from x to y
record Goes (size : ℕ) (x : Context) (touches : List Touch) (y : Context) : Type 0 where
  pub memory : Follows x.memory touches y.memory
  pub want : WantWithin size y.core.want

goes_none : (size : ℕ) (x : Context) → IsReady size x → Goes size x [] x
goes_none size x h = record { memory = follows_none x.memory h.bytes; want = h.want }

goes_append : (size : ℕ) (x y z : Context) (ts us : List Touch) → Goes size x ts y → Goes size y us z → Goes size x (ts ++ us) z
goes_append size x y z ts us f g = record { memory = follows_append x.memory y.memory z.memory ts us f.memory g.memory; want = g.want }

ready_after : (size : ℕ) (x y : Context) (ts : List Touch) → IsReady size x → Goes size x ts y → IsReady size y
ready_after size x y ts h f = record { bytes = f.memory.bytes; extent = f.memory.size ∙ h.extent; want = f.want }

-- an access, done at once or missed
access_goes : (b : Bool) (shape : Geometry) (slot c : ℕ) (access : Access) (x : Context) → IsFit shape.memory access → IsReady shape.memory x →
    Goes shape.memory x (touch_list slot c (if b then Some access else None) x.memory) (if b then accessed shape access x else record x { core = missed shape slot access x.core })
access_goes true shape slot c access x within h = record {
  memory = access_follows slot c access x.memory h.bytes (subst (λ (n : ℕ). IsFit n access) (sym h.extent) within);
  want = h.want;
}
access_goes false shape slot c access x within h = record { memory = follows_none x.memory h.bytes; want = within }

effect_goes : (shape : Geometry) (slot c : ℕ) (effect : Effect) (x : Context) → EffectFits shape.memory effect → IsReady shape.memory x →
    Goes shape.memory x (touch_list slot c (access_if_permitted shape x.core effect) x.memory) (after_effect shape slot effect x)
effect_goes shape slot c (Next regs pc) x within h = record { memory = follows_none x.memory h.bytes; want = h.want }
effect_goes shape slot c (Stop halt) x within h = record { memory = follows_none x.memory h.bytes; want = h.want }
effect_goes shape slot c (Memory access) x within h = access_goes (is_permitted shape access x.core) shape slot c access x within h

run_goes : (b : Bool) (shape : Geometry) (slot c : ℕ) (effect : Effect) (x : Context) → EffectFits shape.memory effect → IsReady shape.memory x →
    Goes shape.memory x (touch_list slot c (if b then access_if_permitted shape x.core effect else None) x.memory) (if b then after_effect shape slot effect x else x)
run_goes true shape slot c effect x within h = effect_goes shape slot c effect x within h
run_goes false shape slot c effect x within h = goes_none shape.memory x h

instruction_goes : (shape : Geometry) (slot c : ℕ) (text : List ℕ) (x : Context) → shape.memory % 4 ≡ 0 → IsReady shape.memory x →
    Goes shape.memory x (touch_list slot c (if can_run x.core then access_if_permitted shape x.core (effect_at shape text x.core) else None) x.memory) (instruction shape slot text x)
unfolding instruction
instruction_goes shape slot c text x whole h = run_goes (can_run x.core) shape slot c (effect_at shape text x.core) x (effect_fits shape text x.core whole) h

instructions_go : (shape : Geometry) (slot c : ℕ) (text : List ℕ) (count : ℕ) (x : Context) → shape.memory % 4 ≡ 0 → IsReady shape.memory x →
    Goes shape.memory x (instruction_touches shape slot c text count x) (instructions shape slot text count x)
unfolding instructions instruction_touches
instructions_go shape slot c text zero x whole h = goes_none shape.memory x h
instructions_go shape slot c text (suc count) x whole h =
    let y : Context = instructions shape slot text count x in
    let first : Goes shape.memory x (instruction_touches shape slot c text count x) y = instructions_go shape slot c text count x whole h in
    goes_append shape.memory x y (instruction shape slot text y) (instruction_touches shape slot c text count x)
    (touch_list slot c (if can_run y.core then access_if_permitted shape y.core (effect_at shape text y.core) else None) y.memory)
    first (instruction_goes shape slot c text y whole (ready_after shape.memory x y (instruction_touches shape slot c text count x) h first))

-- ---- the machine

-- what the machine is to be
pub record AllReady (size : ℕ) (x : Machine) : Type 0 where
  pub bytes : All (λ byte. byte < 256) x.memory
  pub extent : length x.memory ≡ size
  pub wants : (c : ℕ) → WantWithin size (x.cores c).want

-- the accesses lead from machine x to machine y
pub record Moves (size : ℕ) (x : Machine) (touches : List Touch) (y : Machine) : Type 0 where
  pub memory : Follows x.memory touches y.memory
  pub wants : (c : ℕ) → WantWithin size (y.cores c).want

pub moves_append : (size : ℕ) (x y z : Machine) (ts us : List Touch) → Moves size x ts y → Moves size y us z → Moves size x (ts ++ us) z
moves_append size x y z ts us f g = record { memory = follows_append x.memory y.memory z.memory ts us f.memory g.memory; wants = g.wants }

pub all_ready_after : (size : ℕ) (x y : Machine) (ts : List Touch) → AllReady size x → Moves size x ts y → AllReady size y
all_ready_after size x y ts h f = record { bytes = f.memory.bytes; extent = f.memory.size ∙ h.extent; wants = f.wants }

pub want_if : (b : Bool) (size : ℕ) (k l : CoreState) → WantWithin size k.want → WantWithin size l.want → WantWithin size (if b then k else l).want
want_if true size k l h g = h
want_if false size k l h g = g

phase_moves : (job : JobValue) (c : ℕ) (x : Machine) → job.shape.memory % 4 ≡ 0 → AllReady job.shape.memory x → Moves job.shape.memory x (phase_touches job c x) (phase job c x)
unfolding phase phase_touches
phase_moves job c x whole h =
    let y : Context = instructions job.shape x.slot (text_of job c) job.shape.quantum (context_of x c) in
    let goes : Goes job.shape.memory (context_of x c) (instruction_touches job.shape x.slot c (text_of job c) job.shape.quantum (context_of x c)) y =
    instructions_go job.shape x.slot c (text_of job c) job.shape.quantum (context_of x c) whole (record { bytes = h.bytes; extent = h.extent; want = h.wants c }) in
    record { memory = goes.memory; wants = λ d. want_if (d == c) job.shape.memory y.core (x.cores d) goes.want (h.wants d) }

pub phases_move : (job : JobValue) (count : ℕ) (x : Machine) → job.shape.memory % 4 ≡ 0 → AllReady job.shape.memory x → Moves job.shape.memory x (phases_touches job count x) (phases job count x)
unfolding phases phases_touches
phases_move job zero x whole h = record { memory = follows_none x.memory h.bytes; wants = h.wants }
phases_move job (suc count) x whole h =
    let y : Machine = phases job count x in
    let first : Moves job.shape.memory x (phases_touches job count x) y = phases_move job count x whole h in
    moves_append job.shape.memory x y (phase job count y) (phases_touches job count x) (phase_touches job count y) first
    (phase_moves job count y whole (all_ready_after job.shape.memory x y (phases_touches job count x) h first))
