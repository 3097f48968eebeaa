-- The accesses that instructions do, as a core keeps them.
use Rattle.std.proofs.Common.{◌≡◌, ℕ, ◌+◌, ◌*◌, ◌/◌, ◌≤◌, List, [], ◌∷◌, ◌++◌, length, Bool, true, false, if◌then◌else◌, Option, Some, None, refl, sym, ap, ◌∙◌, subst, arith, length-append}
use Rattle.std.proofs.lemmas.List.{append-nil}
use Rattle.std.specs.Prelude.{slice_get}
use Rattle.pmsi_model.specs.declared.job.Geometry.{Geometry}
use Rattle.pmsi_model.specs.declared.Access.{Access}
use Rattle.pmsi_model.specs.declared.Touch.{Touch}
use Rattle.pmsi_model.specs.declared.instr.Instr.{Instr}
use Rattle.pmsi_model.specs.declared.Halt.TheVariants.{FetchRange}
use Rattle.pmsi_model.specs.declared.Status.TheVariants.{Halted}
use Rattle.pmsi_model.specs.Words.{number_of}
use Rattle.pmsi_model.specs.Geometry.{line_of}
use Rattle.pmsi_model.specs.Access.{access_bytes, kind_of, width_of}
use Rattle.pmsi_model.specs.Job.{JobValue, text_of}
use Rattle.pmsi_model.specs.Effect.{Effect, Next, Memory, Stop, effect_of}
use Rattle.pmsi_model.specs.Instruction.{instr_of}
use Rattle.pmsi_model.specs.Machine.{CoreState, mode_of}
use Rattle.pmsi_model.specs.Phase.{Context, access_at, access_if_permitted, accessed, after_effect, can_run, effect_at, effect_of_fetch, effect_of_word, instruction, is_permitted, met_bytes, missed, permits, touch_list, touch_of}
use Rattle.pmsi_model.proofs.Cases.{by_test}
use Rattle.cache_array.specs.Cache.{held_of}
use Rattle.rv_exec.specs.Accesses.{covered}
use Rattle.rv_exec.specs.Effects.{IsAccessTo}
use Rattle.core_unit.specs.declared.state.State.{State}
use Rattle.core_unit.specs.State.{core_of, gone_for, met_in, more_touches, performed, touch_on, wanting}
use Rattle.core_unit.specs.Stands.{Carries, HasTouched}
use Rattle.core_unit.specs.Parts.{HasTouches, standing}
use Rattle.core_unit.proofs.Untouched.{Untouched, chosen-run}
use Rattle.core_unit.proofs.Steps.{met_covered}

-- ---- no access

nothing_more : (keeps : Bool) (items : List Touch) → items ≡ more_touches keeps items []
nothing_more true items = sym (append-nil items)
nothing_more false items = refl

-- a state that has the accesses of another did none
pub untouched : (slot c : ℕ) (memory : List ℕ) (v u : State) (access : Option Access) → access ≡ None → u.touches.items ≡ v.touches.items
    → HasTouched (touch_list slot c access memory) v u
untouched slot c memory v u access none same = same ∙ nothing_more v.keeps v.touches.items
    ∙ ap (λ (o : Option Access). more_touches v.keeps v.touches.items (touch_list slot c o memory)) (sym none)

-- ---- one access

-- the note of an access that met these bytes
abbrev touch_with : ℕ → ℕ → Access → List ℕ → Touch
touch_with slot c access bytes = record {
  slot = slot;
  core = c;
  address = access.address;
  width = width_of access.op;
  kind = kind_of access.op;
  old = number_of bytes;
  new = number_of (access_bytes access.op access.operand bytes);
}

-- the note of a core is that of the machine, where both met the same bytes
pub touch_is : (slot c : ℕ) (memory : List ℕ) (v : State) (access : Access) (word : ℕ) → v.slot ≡ slot → v.number ≡ c → met_bytes access memory ≡ covered access word
    → touch_on access word v ≡ touch_of slot c access memory
touch_is slot c memory v access word now number met =
    ap (λ (s : ℕ). touch_with s v.number access (covered access word)) now
    ∙ ap (λ (n : ℕ). touch_with slot n access (covered access word)) number
    ∙ ap (touch_with slot c access) (sym met)

granted_access : (shape : Geometry) (access : Access) (k : CoreState) → is_permitted shape access k ≡ true → access_if_permitted shape k (Memory access) ≡ Some access
granted_access shape access k granted = ap (λ (b : Bool). if b then Some access else None) granted

denied_access : (shape : Geometry) (access : Access) (k : CoreState) → is_permitted shape access k ≡ false → access_if_permitted shape k (Memory access) ≡ None
denied_access shape access k denied = ap (λ (b : Bool). if b then Some access else None) denied

line_of_job : (job : JobValue) (c : ℕ) (memory : List ℕ) (v : State) (line : ℕ) (access : Access) → Carries job c memory v → line ≡ line_of v.shape access.address → line ≡ line_of job.shape access.address
line_of_job job c memory v line access s at = at ∙ ap (λ (g : Geometry). line_of g access.address) s.shape

permitted_by : (job : JobValue) (c : ℕ) (memory : List ℕ) (v : State) (line : ℕ) (access : Access) → Carries job c memory v → line ≡ line_of v.shape access.address
    → is_permitted job.shape access (core_of v) ≡ permits (kind_of access.op) (mode_of line (held_of v.cache.lines))
permitted_by job c memory v line access s at = ap (λ (l : ℕ). permits (kind_of access.op) (mode_of l (held_of v.cache.lines))) (sym (line_of_job job c memory v line access s at))

pub touches_hit : (job : JobValue) (c : ℕ) (memory : List ℕ) (v u : State) (line : ℕ) (access : Access) → Carries job c memory v → IsAccessTo v.shape.memory access
    → line ≡ line_of v.shape access.address → permits (kind_of access.op) (mode_of line (held_of v.cache.lines)) ≡ true → u ≡ performed access v
    → HasTouched (touch_list v.slot c (access_if_permitted job.shape (core_of v) (Memory access)) memory) v u
touches_hit job c memory v u line access s is at granted done =
    let can : is_permitted job.shape access (core_of v) ≡ true = permitted_by job c memory v line access s at ∙ granted in
    let met : met_bytes access memory ≡ covered access (met_in access v.cache) = met_covered job c memory v access s (subst (λ (g : Geometry). IsAccessTo g.memory access) s.shape is) can in
    ap (λ (w : State). w.touches.items) done
    ∙ ap (λ (t : Touch). more_touches v.keeps v.touches.items (t ∷ [])) (touch_is v.slot c memory v access (met_in access v.cache) refl s.number met)
    ∙ ap (λ (o : Option Access). more_touches v.keeps v.touches.items (touch_list v.slot c o memory)) (sym (granted_access job.shape access (core_of v) can))

pub touches_miss : (job : JobValue) (c : ℕ) (memory : List ℕ) (v u : State) (line : ℕ) (access : Access) → Carries job c memory v → line ≡ line_of v.shape access.address
    → permits (kind_of access.op) (mode_of line (held_of v.cache.lines)) ≡ false → u ≡ wanting access line v
    → HasTouched (touch_list v.slot c (access_if_permitted job.shape (core_of v) (Memory access)) memory) v u
touches_miss job c memory v u line access s at denied done =
    untouched v.slot c memory v u (access_if_permitted job.shape (core_of v) (Memory access))
    (denied_access job.shape access (core_of v) (permitted_by job c memory v line access s at ∙ denied))
    (ap (λ (w : State). w.touches.items) done ∙ ap (λ (r : Untouched). r.touches.items) (chosen-run (gone_for line v) v))

-- ---- an instruction

-- the effect of a fetched word that stands for an instruction
word_effect : (job : JobValue) (c : ℕ) (memory : List ℕ) (v : State) (word : ℕ) (instr : Instr) (effect : Effect) → Carries job c memory v → instr_of word ≡ Some instr
    → effect ≡ effect_of instr v.regs v.pc v.shape.memory → effect_of_word job.shape word (core_of v) (instr_of word) ≡ effect
word_effect job c memory v word instr effect s reads asks =
    ap (effect_of_word job.shape word (core_of v)) reads ∙ sym (asks ∙ ap (λ (g : Geometry). effect_of instr v.regs v.pc g.memory) s.shape)

-- one that asks for an access
pub touches_memory : (job : JobValue) (c : ℕ) (memory : List ℕ) (v u : State) (word : ℕ) (instr : Instr) (regs : List ℕ) (access : Access) → Carries job c memory v
    → instr_of word ≡ Some instr → Memory access ≡ effect_of instr v.regs v.pc v.shape.memory → regs ≡ v.regs
    → (Carries job c memory (record v { regs = regs })
    → HasTouched (touch_list v.slot c (access_if_permitted job.shape (core_of (record v { regs = regs })) (Memory access)) memory) (record v { regs = regs }) u)
    → HasTouched (touch_list v.slot c (access_if_permitted job.shape (core_of v) (effect_of_word job.shape word (core_of v) (instr_of word))) memory) v u
touches_memory job c memory v u word instr regs access s reads asks kept after =
    let done : HasTouched (touch_list v.slot c (access_if_permitted job.shape (core_of v) (Memory access)) memory) v u =
    subst (λ (rs : List ℕ). Carries job c memory (record v { regs = rs })
    → HasTouched (touch_list v.slot c (access_if_permitted job.shape (core_of (record v { regs = rs })) (Memory access)) memory) (record v { regs = rs }) u) kept after s in
    subst (λ (e : Effect). HasTouched (touch_list v.slot c (access_if_permitted job.shape (core_of v) e) memory) v u)
    (sym (word_effect job c memory v word instr (Memory access) s reads asks)) done

fetched : (shape : Geometry) (text : List ℕ) (k : CoreState) (found : Option ℕ) → can_run k ≡ true → slice_get text (k.pc / 4) ≡ found
    → access_at shape text k ≡ access_if_permitted shape k (effect_of_fetch shape k found)
fetched shape text k found can is = ap (λ (b : Bool). if b then access_if_permitted shape k (effect_at shape text k) else None) can
    ∙ ap (λ (o : Option ℕ). access_if_permitted shape k (effect_of_fetch shape k o)) is

pub touches_word : (job : JobValue) (c : ℕ) (memory : List ℕ) (v u : State) (word : ℕ) → Carries job c memory v → can_run (core_of v) ≡ true → slice_get v.text (v.pc / 4) ≡ Some word
    → HasTouched (touch_list v.slot c (access_if_permitted job.shape (core_of v) (effect_of_word job.shape word (core_of v) (instr_of word))) memory) v u
    → HasTouched (touch_list v.slot c (access_at job.shape (text_of job c) (core_of v)) memory) v u
touches_word job c memory v u word s can is touches =
    subst (λ (o : Option Access). HasTouched (touch_list v.slot c o memory) v u)
    (sym (fetched job.shape (text_of job c) (core_of v) (Some word) can (ap (λ (t : List ℕ). slice_get t (v.pc / 4)) (sym s.text) ∙ is))) touches

pub touches_past : (job : JobValue) (c : ℕ) (memory : List ℕ) (v : State) → Carries job c memory v → can_run (core_of v) ≡ true → slice_get v.text (v.pc / 4) ≡ None
    → HasTouched (touch_list v.slot c (access_at job.shape (text_of job c) (core_of v)) memory) v (record v { status = Halted (FetchRange v.pc) })
touches_past job c memory v s can is =
    untouched v.slot c memory v (record v { status = Halted (FetchRange v.pc) }) (access_at job.shape (text_of job c) (core_of v))
    (fetched job.shape (text_of job c) (core_of v) None can (ap (λ (t : List ℕ). slice_get t (v.pc / 4)) (sym s.text) ∙ is)) refl

-- ---- how many there are

memory_few : (b : Bool) (slot c : ℕ) (access : Access) (memory : List ℕ) (hit miss : Context) (n : ℕ) → hit.core.retired ≡ n + 1 → miss.core.retired ≡ n
    → length (touch_list slot c (if b then Some access else None) memory) + n ≤ (if b then hit else miss).core.retired
memory_few true slot c access memory hit miss n on off = omega arith
memory_few false slot c access memory hit miss n on off = omega arith

effect_few : (shape : Geometry) (slot c : ℕ) (e : Effect) (y : Context)
    → length (touch_list slot c (access_if_permitted shape y.core e) y.memory) + y.core.retired ≤ (after_effect shape slot e y).core.retired
effect_few shape slot c (Next regs pc) y = omega arith
effect_few shape slot c (Stop halt) y = omega arith
effect_few shape slot c (Memory access) y =
    memory_few (is_permitted shape access y.core) slot c access y.memory (accessed shape access y) (record y { core = missed shape slot access y.core }) y.core.retired refl refl

run_few : (b : Bool) (slot c : ℕ) (access : Option Access) (memory : List ℕ) (after y : Context)
    → length (touch_list slot c access memory) + y.core.retired ≤ after.core.retired
    → length (touch_list slot c (if b then access else None) memory) + y.core.retired ≤ (if b then after else y).core.retired
run_few true slot c access memory after y few = few
run_few false slot c access memory after y few = omega arith

-- each access retires an instruction
pub instruction_few : (shape : Geometry) (slot c : ℕ) (text : List ℕ) (y : Context)
    → length (touch_list slot c (access_at shape text y.core) y.memory) + y.core.retired ≤ (instruction shape slot text y).core.retired
unfolding instruction
instruction_few shape slot c text y =
    run_few (can_run y.core) slot c (access_if_permitted shape y.core (effect_at shape text y.core)) y.memory (after_effect shape slot (effect_at shape text y.core) y) y
    (effect_few shape slot c (effect_at shape text y.core) y)

-- the instructions that a core took: those that retired, and the one that waits
abbrev pub taken : CoreState → ℕ
taken k = k.retired + standing k.want

effect_takes : (shape : Geometry) (slot : ℕ) (e : Effect) (y : Context) → taken (after_effect shape slot e y).core ≤ taken y.core + 1
effect_takes shape slot (Next regs pc) y = omega arith
effect_takes shape slot (Stop halt) y = omega arith
effect_takes shape slot (Memory access) y =
    by_test (λ (z : Context). taken z.core ≤ taken y.core + 1) (is_permitted shape access y.core) (accessed shape access y) (record y { core = missed shape slot access y.core })
    (λ granted. omega arith) (λ denied. omega arith)

pub instruction_takes : (shape : Geometry) (slot : ℕ) (text : List ℕ) (y : Context) → taken (instruction shape slot text y).core ≤ taken y.core + 1
unfolding instruction
instruction_takes shape slot text y =
    by_test (λ (z : Context). taken z.core ≤ taken y.core + 1) (can_run y.core) (after_effect shape slot (effect_at shape text y.core) y) y
    (λ can. effect_takes shape slot (effect_at shape text y.core) y) (λ stays. omega arith)

-- ---- the accesses so far

kept_items : (keeps : Bool) (items before more : List Touch) → items ≡ (if keeps then before else []) → more_touches keeps items more ≡ (if keeps then before ++ more else [])
kept_items true items before more is = ap (λ (ts : List Touch). ts ++ more) is
kept_items false items before more is = is

length-more : (keeps : Bool) (items more : List Touch) → length (more_touches keeps items more) ≤ length more + length items
length-more true items more = omega (arith, length-append items more)
length-more false items more = omega arith

-- a core that did more accesses, each of which retired an instruction
pub touched_more : (job : JobValue) (v u : State) (before more : List Touch) (most later : ℕ) → u.keeps ≡ v.keeps → u.touches.room ≡ v.touches.room
    → HasTouched more v u → length more + v.retired ≤ u.retired → u.retired + standing u.pending.want ≤ later → HasTouches job before most v
    → HasTouches job (before ++ more) later u
touched_more job v u before more most later keeps room did grows within h = record {
  touches = did ∙ kept_items v.keeps v.touches.items before more h.touches ∙ ap (λ (b : Bool). if b then before ++ more else []) (sym keeps);
  few = (let f = h.few in let size : length u.touches.items ≡ length (more_touches v.keeps v.touches.items more) = ap length did in
      let l = length-more v.keeps v.touches.items more in omega arith);
  room = λ kept. subst (λ (n : ℕ). job.shape.slots * job.shape.quantum ≤ n) (sym room) (h.room (sym keeps ∙ kept));
  retired = within;
}

-- other words for the same accesses, and a greater bound
pub touches_as : (job : JobValue) (v : State) (before after : List Touch) (most later : ℕ) → before ≡ after → most ≤ later → HasTouches job before most v → HasTouches job after later v
touches_as job v before after most later same above h = record {
  touches = h.touches ∙ ap (λ (ts : List Touch). if v.keeps then ts else []) same;
  few = h.few;
  room = h.room;
  retired = (let r = h.retired in omega arith);
}
