-- A core's phase moves the states by the table.
use Rattle.std.proofs.Common.{◌≡◌, ◌≢◌, ℕ, zero, suc, ◌+◌, ◌<◌, ◌≤◌, List, [], ◌∷◌, ◌++◌, Option, Some, None, Bool, true, false, if◌then◌else◌, refl, sym, ap, ◌∙◌, subst, arith}
use Rattle.pmsi_model.specs.declared.job.Geometry.{Geometry}
use Rattle.pmsi_model.specs.declared.Access.{Access}
use Rattle.pmsi_model.specs.declared.Mode.{Mode}
use Rattle.pmsi_model.specs.declared.State.{State}
use Rattle.pmsi_model.specs.Geometry.{line_of}
use Rattle.pmsi_model.specs.Job.{JobValue, IsJob, text_of}
use Rattle.pmsi_model.specs.Slots.{plan_of, owner_of_slot}
use Rattle.pmsi_model.specs.Effect.{Effect, Next, Memory, Stop}
use Rattle.pmsi_model.specs.Machine.{Machine, CoreState, Request, request_of}
use Rattle.pmsi_model.specs.Phase.{Context, can_run, after_effect, effect_at, accessed, missed, is_permitted, evicted, instruction, instructions, context_of}
use Rattle.pmsi_model.specs.Coherent.{HoldsEachOnce, posted_request}
use Rattle.pmsi_model.specs.Run.{after_phases, machine_at, record_at}
use Rattle.pmsi_model.proofs.Boundaries.{machine_at-slot, phases-posted}
use Rattle.pmsi_model.proofs.Changes.{phase-own}
use Rattle.coherence_laws.proofs.Exports.{FineCore, whole_later, instructions_kept, whole_at, phases_are_apart}
use Rattle.cache_ctrl.specs.declared.Event.{Event}
use Rattle.cache_ctrl.specs.declared.Event.TheVariants.{Choose}
use Rattle.pmsi_model.specs.Named.{state_in, state_of}
use Rattle.cache_ctrl.proofs.Exports.{chooses, misses_else, accesses_same}
use Rattle.cache_ctrl.specs.Table.{next_of}
use Rattle.state_laws.specs.Laws.{next_all, next_from, after_entry, gone_line, chosen_by, chosen_at, choice_events, phase_events, events_of, slot_events, StatesFollow, HaveEntries, NeverWithoutEntry}
use Rattle.state_laws.proofs.Steps.{by_line}
use Rattle.state_laws.proofs.Follow.{actions_follow}

pub next_all-append : (es fs : List Event) (s : Option State) → next_all s (es ++ fs) ≡ next_all (next_all s es) fs
next_all-append [] fs s = refl
next_all-append (e ∷ es) fs s = next_all-append es fs (next_from s e)

abbrev pub Chooses : List Request → ℕ → CoreState → CoreState → Option ℕ → ℕ → Type 0
Chooses posted c k j choice line = next_all (Some (state_in posted c k line)) (choice_events choice line) ≡ Some (state_in posted c j line)

none_some : (h : ℕ × Mode) → None ≢ Some h
none_some h is = grind arith

same_gone : (line : ℕ) (h g : ℕ × Mode) → line ≢ h.0 → Some h ≡ Some g → line ≢ g.0
same_gone line h g apart same is = let e : h ≡ g = grind arith in apart (is ∙ sym (ap (λ (p : ℕ × Mode). p.0) e))

miss_follows : (shape : Geometry) (slot : ℕ) (access : Access) (posted : List Request) (c : ℕ) (k : CoreState) (line : ℕ) (o : Option (ℕ × Mode)) → HoldsEachOnce k.held
    → request_of c posted ≡ posted_request c k.want → k.want ≡ None → evicted shape (line_of shape access.address) k.held ≡ o
    → Chooses posted c k (missed shape slot access k) (gone_line o) line
miss_follows shape slot access posted c k line None once wants idle is =
    ap (λ (s : State). Some s) (sym (misses_else shape slot access posted c k line idle (λ h some. absurd (none_some h (sym is ∙ some)))))
miss_follows shape slot access posted c k line (Some h) once wants idle is =
    by_line line h.0 (Choose ∷ []) (state_in posted c k line) (state_in posted c (missed shape slot access k) line)
    (λ same. rw same (ap after_entry (chooses shape slot access posted c k h once wants idle is)))
    (λ apart. misses_else shape slot access posted c k line idle (λ g some. same_gone line h g apart (sym is ∙ some)))

memory_follows : (shape : Geometry) (slot : ℕ) (posted : List Request) (c : ℕ) (access : Access) (x : Context) (line : ℕ) → HoldsEachOnce x.core.held
    → request_of c posted ≡ posted_request c x.core.want → x.core.want ≡ None → (permitted : Bool)
    → Chooses posted c x.core (if permitted then accessed shape access x else record x { core = missed shape slot access x.core }).core
    (if permitted then None else gone_line (evicted shape (line_of shape access.address) x.core.held)) line
memory_follows shape slot posted c access x line once wants idle true = ap (λ (s : State). Some s) (sym (accesses_same shape access x posted c line))
memory_follows shape slot posted c access x line once wants idle false =
    miss_follows shape slot access posted c x.core line (evicted shape (line_of shape access.address) x.core.held) once wants idle refl

effect_follows : (shape : Geometry) (slot : ℕ) (posted : List Request) (c : ℕ) (e : Effect) (x : Context) (line : ℕ) → HoldsEachOnce x.core.held
    → request_of c posted ≡ posted_request c x.core.want → x.core.want ≡ None
    → Chooses posted c x.core (after_effect shape slot e x).core (chosen_by shape x.core e) line
unfolding state_in
effect_follows shape slot posted c (Next regs pc) x line once wants idle = refl
effect_follows shape slot posted c (Stop halt) x line once wants idle = refl
effect_follows shape slot posted c (Memory access) x line once wants idle =
    memory_follows shape slot posted c access x line once wants idle (is_permitted shape access x.core)

by_bool_case : (posted : List Request) (c : ℕ) (x : Context) (line : ℕ) (can : Bool) (y : Context) (choice : Option ℕ)
    → (can ≡ true → Chooses posted c x.core y.core choice line) → Chooses posted c x.core (if can then y else x).core (if can then choice else None) line
by_bool_case posted c x line true y choice on = on refl
by_bool_case posted c x line false y choice on = refl

pub instruction_follows : (shape : Geometry) (slot : ℕ) (text : List ℕ) (posted : List Request) (c : ℕ) (x : Context) (line : ℕ) → HoldsEachOnce x.core.held
    → request_of c posted ≡ posted_request c x.core.want
    → Chooses posted c x.core (instruction shape slot text x).core (chosen_at shape text x.core) line
unfolding instruction
instruction_follows shape slot text posted c x line once wants =
    by_bool_case posted c x line (can_run x.core) (after_effect shape slot (effect_at shape text x.core) x) (chosen_by shape x.core (effect_at shape text x.core))
    (λ can. effect_follows shape slot posted c (effect_at shape text x.core) x line once wants (grind arith))

pub instructions_follow : (shape : Geometry) (slot : ℕ) (text : List ℕ) (posted : List Request) (c : ℕ) (count : ℕ) (x : Context) (line : ℕ) → 1 ≤ shape.ways
    → FineCore shape (slot + 1) posted c x.core
    → next_all (Some (state_in posted c x.core line)) (phase_events shape slot text count x line) ≡ Some (state_in posted c (instructions shape slot text count x).core line)
unfolding instructions phase_events
instructions_follow shape slot text posted c zero x line some f = refl
instructions_follow shape slot text posted c (suc count) x line some f =
    let y : Context = instructions shape slot text count x in
    let g = (instructions_kept shape slot text posted c count x some f).fine in
    next_all-append (phase_events shape slot text count x line) (choice_events (chosen_at shape text y.core) line) (Some (state_in posted c x.core line))
    ∙ ap (λ o. next_all o (choice_events (chosen_at shape text y.core) line)) (instructions_follow shape slot text posted c count x line some f)
    ∙ instruction_follows shape slot text posted c y line g.held_once g.posted_wants

-- from a boundary to the end of the phases
pub phases_follow : (job : JobValue) → IsJob job → (slot c line : ℕ) → c < job.shape.cores
    → next_all (Some (state_of (machine_at job slot) c line)) (phase_events job.shape slot (text_of job c) job.shape.quantum (context_of (machine_at job slot) c) line)
    ≡ Some (state_of (after_phases job (machine_at job slot)) c line)
phases_follow job is slot c line below =
    let x : Machine = machine_at job slot in let y : Machine = after_phases job x in
    let at : x.slot ≡ slot = machine_at-slot job slot in
    let w = whole_later job.shape x.slot x.posted x.cores (whole_at job is slot) in
    let follows = instructions_follow job.shape x.slot (text_of job c) x.posted c job.shape.quantum (context_of x c) line is.shape.some_ways (w.fine c) in
    let core : y.cores c ≡ (instructions job.shape x.slot (text_of job c) job.shape.quantum (context_of x c)).core = (phases_are_apart job is slot).own c below ∙ phase-own job c x in
    rw (phases-posted job job.shape.cores x) rw core
    (subst (λ (s : ℕ). next_all (Some (state_of x c line)) (phase_events job.shape s (text_of job c) job.shape.quantum (context_of x c) line)
    ≡ Some (state_in x.posted c (instructions job.shape x.slot (text_of job c) job.shape.quantum (context_of x c)).core line)) at follows)

pub states_follow : StatesFollow
states_follow job is slot c line below =
    let es = phase_events job.shape slot (text_of job c) job.shape.quantum (context_of (machine_at job slot) c) line in
    let fs = events_of (owner_of_slot (plan_of job) slot) c (record_at job slot) line in
    next_all-append es fs (Some (state_of (machine_at job slot) c line)) ∙ ap (λ o. next_all o fs) (phases_follow job is slot c line below) ∙ actions_follow job is slot c line below

-- ---- entries

none_all : (es : List Event) → next_all None es ≡ None
none_all [] = refl
none_all (e ∷ es) = none_all es

first_entry : (s : State) (e : Event) (es : List Event) (t : State) → next_all (Some s) (e ∷ es) ≡ Some t → next_of s e ≢ None
first_entry s e es t is none = absurd (grind (arith, ap (λ o. next_all (after_entry o) es) none, none_all es))

have_entries : (es : List Event) (s t : State) → next_all (Some s) es ≡ Some t → HaveEntries s es
have_entries [] s t is = tt
have_entries (e ∷ es) s t is =
    (first_entry s e es t is, λ u duty entry. have_entries es u t (sym (ap (λ o. next_all (after_entry o) es) entry) ∙ is))

pub never_without_entry : NeverWithoutEntry
never_without_entry job is slot c line below =
    have_entries (slot_events job slot c line) (state_of (machine_at job slot) c line) (state_of (machine_at job (slot + 1)) c line)
    (states_follow job is slot c line below)
