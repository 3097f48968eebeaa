-- What a state stands for after each part of an instruction.
use Rattle.std.proofs.Common.{◌≡◌, ◌≢◌, ℕ, ◌+◌, ◌*◌, ◌/◌, ◌<◌, ◌≤◌, ◌==◌, List, length, get_or, Option, Some, None, Bool, true, false, if◌then◌else◌, refl, sym, ap, ◌∙◌, subst, arith}
use Rattle.pmsi_model.specs.declared.job.Geometry.{Geometry}
use Rattle.pmsi_model.specs.declared.Access.{Access}
use Rattle.pmsi_model.specs.declared.Halt.{Halt}
use Rattle.pmsi_model.specs.declared.Halt.TheVariants.{FetchRange}
use Rattle.pmsi_model.specs.Instruction.{instr_of}
use Rattle.std.specs.Prelude.{slice_get}
use Rattle.pmsi_model.specs.declared.Kind.{Kind}
use Rattle.pmsi_model.specs.declared.Kind.TheVariants.{Read, Write}
use Rattle.pmsi_model.specs.declared.Mode.{Mode}
use Rattle.pmsi_model.specs.declared.Mode.TheVariants.{Shared, Modified}
use Rattle.pmsi_model.specs.declared.Row.{Row}
use Rattle.pmsi_model.specs.declared.Status.TheVariants.{Halted}
use Rattle.pmsi_model.specs.declared.Want.{Want}
use Rattle.pmsi_model.specs.Words.{number_of}
use Rattle.pmsi_model.specs.Geometry.{line_of}
use Rattle.pmsi_model.specs.Access.{access_value, kind_of}
use Rattle.pmsi_model.specs.Job.{JobValue, IsJob, text_of}
use Rattle.pmsi_model.specs.Effect.{Effect, Next, Memory, Stop, effect_of, with_reg, next_pc}
use Rattle.pmsi_model.specs.declared.instr.Instr.{Instr}
use Rattle.pmsi_model.specs.Machine.{CoreState, mode_of}
use Rattle.pmsi_model.specs.Phase.{Context, met_bytes, memory_after, retired_with, missed, after_effect, accessed, is_permitted, permits, touched_line, can_run, instruction, effect_at, effect_of_word, effect_of_fetch}
use Rattle.pmsi_model.proofs.Held.{mode_touched}
use Rattle.cache_array.specs.declared.line.CachedLine.{CachedLine}
use Rattle.cache_array.specs.Cache.{CacheValue, held_of, words_of, word_place, with_word, touched}
use Rattle.cache_array.proofs.Exports.{held_of-with_word, held_of-touched, words_of-with_word, words_of-touched}
use Rattle.cache_ctrl.specs.declared.states.LineState.{LineState}
use Rattle.pend_buffers.specs.Pending.{PendingValue}
use Rattle.core_unit.specs.declared.state.State.{State}
use Rattle.core_unit.specs.Reserved.{Reserved}
use Rattle.pmsi_model.specs.Parts.{word_at}
use Rattle.core_unit.specs.State.{core_of, with_lines, lines_after, lines_with, met_in, performed, gone_for, wanting}
use Rattle.rv_exec.specs.Effects.{IsAccessTo}
use Rattle.rv_exec.specs.Accesses.{bytes_after, covered}
use Rattle.core_unit.specs.Stands.{with_memory, CanExecute, CanMakeRoom, IsWantOf, CopiesAgree, Carries, KeepsStates, KnowsStates, SameRun, StandsFor}
use Rattle.pmsi_model.proofs.Accesses.{IsFit, granted_held, lane_fits, length-memory_after, memory_after_below, read_after}
use Rattle.pmsi_model.proofs.Effects.{whole_words}
use Rattle.core_unit.proofs.Copies.{covered_is, word_at-after, place_of_word, place_below, copies_same, copies_written}
use Rattle.core_unit.proofs.Carried.{rebuilt, relined, unchanged}
use Rattle.core_unit.proofs.Changed.{keeps_known}
use Rattle.core_unit.proofs.Evictions.{IsChosen, chosen_agree, chosen_frame, is_chosen, makes_room, missed_core, missed_knows}
use Rattle.core_unit.proofs.Untouched.{Untouched, chosen-run}
use Rattle.core_unit.proofs.Words.{some_words}

owner_mode : (mode : Option Mode) → permits Write mode ≡ true → mode ≡ Some Modified
owner_mode None granted = grind arith
owner_mode (Some Shared) granted = grind arith
owner_mode (Some Modified) granted = refl

-- ---- what leaves memory alone

pub goes_on : (job : JobValue) (c : ℕ) (memory : List ℕ) (v : State) (slot pc : ℕ) (regs : List ℕ) → Carries job c memory v →
    StandsFor job c (after_effect job.shape slot (Next regs pc) (with_memory memory v)) (record v { regs = regs; pc = pc; retired = v.retired + 1 })
goes_on job c memory v slot pc regs s = record { carries = unchanged job c memory v (record v { regs = regs; pc = pc; retired = v.retired + 1 }) s refl refl refl; core = refl }

pub stops : (job : JobValue) (c : ℕ) (memory : List ℕ) (v : State) (slot : ℕ) (halt : Halt) → Carries job c memory v →
    StandsFor job c (after_effect job.shape slot (Stop halt) (with_memory memory v)) (record v { status = Halted halt })
stops job c memory v slot halt s = record { carries = unchanged job c memory v (record v { status = Halted halt }) s refl refl refl; core = refl }

-- ---- an access that is done

-- the word of a held line at an address is that of memory
held_word : (job : JobValue) (c : ℕ) (memory : List ℕ) (v : State) (address : ℕ) → Carries job c memory v → mode_of (line_of job.shape address) (held_of v.cache.lines) ≢ None →
    get_or (words_of (line_of job.shape address) v.cache.lines) (word_place job.shape address) 0 ≡ word_at memory (address / 4)
held_word job c memory v address s held = let some = some_words job.shape s.within.shape in
    s.agree.words (line_of job.shape address) (word_place job.shape address) (place_below address job.shape.line_words some) held
    ∙ ap (word_at memory) (place_of_word address job.shape.line_words some)

-- the word of an address below the size is in memory
inside : (job : JobValue) (c : ℕ) (memory : List ℕ) (v : State) (address : ℕ) → Carries job c memory v → address < job.shape.memory → 4 * (address / 4) + 4 ≤ length memory
inside job c memory v address s below = let w = whole_words job.shape.memory job.shape.line_words s.within.shape.memory in let b = s.bytes in omega arith

lines_held : (kind : Kind) (line place word : ℕ) (lines : List CachedLine) → held_of (lines_after kind line place word lines) ≡ held_of lines
lines_held Read line place word lines = refl
lines_held Write line place word lines = held_of-with_word line place word lines

-- an access changes no line's mode
pub performed_held : (access : Access) (v : State) → held_of (performed access v).cache.lines ≡ held_of v.cache.lines
performed_held access v = lines_held (kind_of access.op) (line_of v.cache.shape access.address) (word_place v.cache.shape access.address) (number_of (bytes_after access (met_in access v.cache))) v.cache.lines

-- copies agree after an access with permission
access_agree : (job : JobValue) (c : ℕ) (memory : List ℕ) (v : State) (access : Access) (kind : Kind) → kind_of access.op ≡ kind → Carries job c memory v → IsAccessTo job.shape.memory access →
    permits kind (mode_of (line_of job.shape access.address) (held_of v.cache.lines)) ≡ true →
    CopiesAgree job (memory_after access memory) (lines_after kind (line_of job.shape access.address) (word_place job.shape access.address) (number_of (bytes_after access (word_at memory (access.address / 4)))) v.cache.lines)
access_agree job c memory v access Read is s a granted =
    let fit : IsFit (length memory) access = record { aligned = a.aligned; within = (let i = inside job c memory v access.address s a.within in omega (arith, lane_fits access.op access.address a.aligned)) } in
    subst (λ (m : List ℕ). CopiesAgree job m v.cache.lines) (sym (read_after access memory fit is)) s.agree
access_agree job c memory v access Write is s a granted =
    let some = some_words job.shape s.within.shape in let line : ℕ = line_of job.shape access.address in let place : ℕ = word_place job.shape access.address in
    let new : ℕ = number_of (bytes_after access (word_at memory (access.address / 4))) in
    copies_written job.shape.line_words some memory (memory_after access memory) (λ l. mode_of l (held_of v.cache.lines)) (λ l. mode_of l (held_of (with_word line place new v.cache.lines)))
    (λ l. words_of l v.cache.lines) (λ l. words_of l (with_word line place new v.cache.lines)) line place new (place_below access.address job.shape.line_words some)
    (owner_mode (mode_of line (held_of v.cache.lines)) granted) (length-memory_after access memory)
    (λ l. ap (mode_of l) (held_of-with_word line place new v.cache.lines))
    (λ l. words_of-with_word line l place new v.cache.lines)
    (λ i below. subst (λ (n : ℕ). word_at (memory_after access memory) i ≡ (if i == n then new else word_at memory i)) (sym (place_of_word access.address job.shape.line_words some))
    (word_at-after access memory a.aligned s.small (inside job c memory v access.address s a.within) i below))
    s.agree

-- an access with permission meets the word of memory
met_word : (job : JobValue) (c : ℕ) (memory : List ℕ) (v : State) (access : Access) → Carries job c memory v →
    permits (kind_of access.op) (mode_of (line_of job.shape access.address) (held_of v.cache.lines)) ≡ true → met_in access v.cache ≡ word_at memory (access.address / 4)
met_word job c memory v access s granted =
    ap (λ (g : Geometry). get_or (words_of (line_of g access.address) v.cache.lines) (word_place g access.address) 0) s.cache
    ∙ held_word job c memory v access.address s (granted_held (kind_of access.op) (mode_of (line_of job.shape access.address) (held_of v.cache.lines)) granted)

-- and its bytes
pub met_covered : (job : JobValue) (c : ℕ) (memory : List ℕ) (v : State) (access : Access) → Carries job c memory v → IsAccessTo job.shape.memory access →
    permits (kind_of access.op) (mode_of (line_of job.shape access.address) (held_of v.cache.lines)) ≡ true → met_bytes access memory ≡ covered access (met_in access v.cache)
met_covered job c memory v access s a granted =
    sym (ap (covered access) (met_word job c memory v access s granted) ∙ covered_is access memory a.aligned s.small (inside job c memory v access.address s a.within))

-- what a state stands for once an access with permission is done
pub performs : (job : JobValue) (c : ℕ) (memory : List ℕ) (v : State) (access : Access) → Carries job c memory v → IsAccessTo job.shape.memory access →
    permits (kind_of access.op) (mode_of (line_of job.shape access.address) (held_of v.cache.lines)) ≡ true →
    StandsFor job c (record { core = retired_with access (met_bytes access memory) (core_of v); memory = memory_after access memory }) (performed access v)
performs job c memory v access s a granted =
    let line : ℕ = line_of job.shape access.address in
    let word : met_in access v.cache ≡ word_at memory (access.address / 4) = met_word job c memory v access s granted in
    let met : met_bytes access memory ≡ covered access (met_in access v.cache) = met_covered job c memory v access s a granted in
    let agree : CopiesAgree job (memory_after access memory) (lines_with access v.cache) =
    subst (λ (g : Geometry). CopiesAgree job (memory_after access memory) (lines_after (kind_of access.op) (line_of g access.address) (word_place g access.address) (number_of (bytes_after access (met_in access v.cache))) v.cache.lines)) (sym s.cache)
    (subst (λ (w : ℕ). CopiesAgree job (memory_after access memory) (lines_after (kind_of access.op) line (word_place job.shape access.address) (number_of (bytes_after access w)) v.cache.lines)) (sym word)
    (access_agree job c memory v access (kind_of access.op) refl s a granted)) in record {
      carries = rebuilt job c memory (memory_after access memory) v (performed access v) s refl (length-memory_after access memory) (memory_after_below access memory s.small) agree s.want;
      core = ap (λ (bytes : List ℕ). let k : CoreState = core_of v in let j : CoreState = record k { regs = with_reg k.regs access.rd (access_value access.op bytes); pc = next_pc k.pc; retired = k.retired + 1 } in j) met
          ∙ ap (λ (h : List (ℕ × Mode)). let k : CoreState = core_of (performed access v) in let j : CoreState = record k { held = h } in j) (sym (performed_held access v));
    }

-- a line that goes to the front changes no mode and no word
touched_agree : (job : JobValue) (memory : List ℕ) (line : ℕ) (lines : List CachedLine) → IsJob job → CopiesAgree job memory lines → CopiesAgree job memory (touched line lines)
touched_agree job memory line lines is agree =
    copies_same job.shape.line_words (some_words job.shape is.shape) memory (λ l. mode_of l (held_of lines)) (λ l. mode_of l (held_of (touched line lines))) (λ l. words_of l lines) (λ l. words_of l (touched line lines))
    (λ l. ap (mode_of l) (held_of-touched line lines) ∙ mode_touched l line (mode_of line (held_of lines)) (held_of lines) refl)
    (λ l. words_of-touched line l lines) agree

-- ---- an access with permission

-- the state after an access with permission
abbrev hit_state : ℕ → Access → State → State
hit_state line access v = with_lines (touched line (performed access v).cache.lines) (performed access v)

granted_done : (shape : Geometry) (slot : ℕ) (access : Access) (x : Context) → is_permitted shape access x.core ≡ true → after_effect shape slot (Memory access) x ≡ accessed shape access x
granted_done shape slot access x granted = grind arith

-- the core's line goes to the front in both
hit_core : (line : ℕ) (access : Access) (v : State) (k : CoreState) → k ≡ core_of (performed access v) → record k { held = touched_line (mode_of line k.held) line k.held } ≡ core_of (hit_state line access v)
hit_core line access v k same = ap (λ (j : CoreState). let i : CoreState = record j { held = touched_line (mode_of line j.held) line j.held } in i) same
    ∙ ap (λ (h : List (ℕ × Mode)). let j : CoreState = core_of (performed access v) in let i : CoreState = record j { held = h } in i) (sym (held_of-touched line (performed access v).cache.lines))

pub hits : (job : JobValue) (c : ℕ) (memory : List ℕ) (v : State) (slot : ℕ) (access : Access) → Carries job c memory v → IsAccessTo job.shape.memory access → is_permitted job.shape access (core_of v) ≡ true →
    StandsFor job c (after_effect job.shape slot (Memory access) (with_memory memory v)) (hit_state (line_of job.shape access.address) access v)
hits job c memory v slot access s is granted = let line : ℕ = line_of job.shape access.address in let d = performs job c memory v access s is granted in
    subst (λ y. StandsFor job c y (hit_state line access v)) (sym (granted_done job.shape slot access (with_memory memory v) granted)) (record {
      carries = relined job c (memory_after access memory) (performed access v) (hit_state line access v) d.carries refl
          (touched_agree job (memory_after access memory) line (performed access v).cache.lines s.within d.carries.agree) d.carries.want;
      core = hit_core line access v (retired_with access (met_bytes access memory) (core_of v)) d.core;
    })

-- ---- a miss

denied_missed : (shape : Geometry) (slot : ℕ) (access : Access) (x : Context) → is_permitted shape access x.core ≡ false → after_effect shape slot (Memory access) x ≡ record x { core = missed shape slot access x.core }
denied_missed shape slot access x denied = grind arith

abbrev IfWanted : JobValue → Option Want → Type 0
IfWanted job None = Unit {0}
IfWanted job (Some want) = IsWantOf job want

if_wanted : (job : JobValue) (want : Want) → IfWanted job (Some want) → IsWantOf job want
if_wanted job want is = is

new_want : (job : JobValue) (access : Access) (v : State) (want : Want) → IsAccessTo job.shape.memory access → (wanting access (line_of job.shape access.address) v).pending.want ≡ Some want → IsWantOf job want
new_want job access v want is wants = let P : Option Want → Type 0 = λ o. IfWanted job o in if_wanted job want (subst P wants (record { access = is; line = refl; kind = refl }))

pub misses : (job : JobValue) (c : ℕ) (memory : List ℕ) (v : State) (slot : ℕ) (access : Access) → Carries job c memory v → v.slot ≡ slot → IsAccessTo job.shape.memory access →
    is_permitted job.shape access (core_of v) ≡ false → IsChosen (gone_for (line_of job.shape access.address) v) v →
    StandsFor job c (after_effect job.shape slot (Memory access) (with_memory memory v)) (wanting access (line_of job.shape access.address) v)
misses job c memory v slot access s now is denied gone = let line : ℕ = line_of job.shape access.address in
    subst (λ y. StandsFor job c y (wanting access line v)) (sym (denied_missed job.shape slot access (with_memory memory v) denied)) (record {
      carries = relined job c memory v (wanting access line v) s (chosen_frame (gone_for line v) v)
          (chosen_agree job memory (gone_for line v) v s.agree)
          (λ want wants. new_want job access v want is wants);
      core = missed_core slot job.shape access v s.cache now gone;
    })

-- ---- as the code has them

within_job : (job : JobValue) (c : ℕ) (memory : List ℕ) (v : State) (access : Access) → Carries job c memory v → IsAccessTo v.shape.memory access → IsAccessTo job.shape.memory access
within_job job c memory v access s is = subst (λ (g : Geometry). IsAccessTo g.memory access) s.shape is

hit_is : (line : ℕ) (access : Access) (v u : State) (cache : CacheValue) → u ≡ performed access v → cache ≡ record u.cache { lines = touched line u.cache.lines } → record u { cache = cache } ≡ hit_state line access v
hit_is line access v u cache done front = ap (λ (c : CacheValue). let w : State = record u { cache = c } in w) front ∙ ap (λ (w : State). with_lines (touched line w.cache.lines) w) done

pub access_hits : (job : JobValue) (c : ℕ) (memory : List ℕ) (v u : State) (cache : CacheValue) (line : ℕ) (access : Access) → Carries job c memory v → IsAccessTo v.shape.memory access → line ≡ line_of v.shape access.address →
    permits (kind_of access.op) (mode_of line (held_of v.cache.lines)) ≡ true → u ≡ performed access v → cache ≡ record u.cache { lines = touched line u.cache.lines } →
    StandsFor job c (after_effect job.shape v.slot (Memory access) (with_memory memory v)) (record u { cache = cache })
access_hits job c memory v u cache line access s is at granted done front =
    let same : line ≡ line_of job.shape access.address = at ∙ ap (λ (g : Geometry). line_of g access.address) s.shape in
    subst (StandsFor job c (after_effect job.shape v.slot (Memory access) (with_memory memory v))) (sym (hit_is line access v u cache done front ∙ ap (λ (l : ℕ). hit_state l access v) same))
    (hits job c memory v v.slot access s (within_job job c memory v access s is) (sym (ap (λ (l : ℕ). permits (kind_of access.op) (mode_of l (held_of v.cache.lines))) same) ∙ granted))

pub access_misses : (job : JobValue) (c : ℕ) (memory : List ℕ) (v u : State) (line : ℕ) (access : Access) → Carries job c memory v → IsAccessTo v.shape.memory access → line ≡ line_of v.shape access.address →
    permits (kind_of access.op) (mode_of line (held_of v.cache.lines)) ≡ false → IsChosen (gone_for line v) v → u ≡ wanting access line v →
    StandsFor job c (after_effect job.shape v.slot (Memory access) (with_memory memory v)) u
access_misses job c memory v u line access s is at denied gone done =
    let same : line ≡ line_of job.shape access.address = at ∙ ap (λ (g : Geometry). line_of g access.address) s.shape in
    subst (StandsFor job c (after_effect job.shape v.slot (Memory access) (with_memory memory v))) (sym (done ∙ ap (λ (l : ℕ). wanting access l v) same))
    (misses job c memory v v.slot access s refl (within_job job c memory v access s is) (sym (ap (λ (l : ℕ). permits (kind_of access.op) (mode_of l (held_of v.cache.lines))) same) ∙ denied)
    (subst (λ (l : ℕ). IsChosen (gone_for l v) v) same gone))

-- ---- the run of a core goes on

-- what an instruction leaves as it is
pub record Run : Type 0 where
  pub slot : ℕ
  pub rows : Reserved Row
  pub keeps : Bool
  pub room : ℕ
  pub phase_done : Bool
  pub states : List LineState
  pub pending : PendingValue

abbrev pub run_of : State → Run
run_of v = record {
  slot = v.slot;
  rows = v.rows;
  keeps = v.keeps;
  room = v.touches.room;
  phase_done = v.phase_done;
  states = v.states;
  pending = v.pending;
}

abbrev SameModes : State → State → Type 0
SameModes v u = (l : ℕ) → mode_of l (held_of u.cache.lines) ≡ mode_of l (held_of v.cache.lines)

-- it has no access, or one with permission
pub same_run : (v u : State) → run_of u ≡ run_of v → SameModes v u → SameRun v u
same_run v u same modes = record {
  slot = ap (λ (r : Run). r.slot) same;
  rows = ap (λ (r : Run). r.rows) same;
  keeps = ap (λ (r : Run). r.keeps) same;
  room = ap (λ (r : Run). r.room) same;
  phase_done = ap (λ (r : Run). r.phase_done) same;
  states = keeps_known v u (ap (λ (r : Run). r.states) same) (ap (λ (r : Run). r.pending) same) modes;
}

hit_mode : (l line : ℕ) (access : Access) (v : State) → mode_of l (held_of (hit_state line access v).cache.lines) ≡ mode_of l (held_of v.cache.lines)
hit_mode l line access v = let lines : List CachedLine = (performed access v).cache.lines in
    ap (mode_of l) (held_of-touched line lines) ∙ mode_touched l line (mode_of line (held_of lines)) (held_of lines) refl
    ∙ ap (mode_of l) (performed_held access v)

pub hit_run : (line : ℕ) (access : Access) (v u : State) (cache : CacheValue) → u ≡ performed access v → cache ≡ record u.cache { lines = touched line u.cache.lines }
    → SameRun v (record u { cache = cache })
hit_run line access v u cache done front = subst (SameRun v) (sym (hit_is line access v u cache done front))
    (same_run v (hit_state line access v) refl (λ l. hit_mode l line access v))

module _ (v : State) (access : Access) (can : CanExecute v) (line : ℕ) (at : line ≡ line_of v.shape access.address) where
  line_there : line ≡ line_of v.cache.shape access.address
  line_there = at ∙ ap (λ (g : Geometry). line_of g access.address) (can.carries.shape ∙ sym can.carries.cache)

  pub gone_chosen : IsChosen (gone_for line v) v
  gone_chosen = subst (λ (l : ℕ). IsChosen (gone_for l v) v) (sym line_there)
      (is_chosen access can.posted can.core v can.once can.unasked can.wants_nothing can.knows)

  pub can_miss : CanMakeRoom line v
  can_miss = subst (λ (l : ℕ). CanMakeRoom l v) (sym line_there)
      (makes_room access can.posted can.core v can.once can.unasked can.wants_nothing can.knows can.backs
      (let few = can.carries.within.shape.cores in let same = can.carries.cores in omega arith))

  missed_keeps : KeepsStates v (wanting access line v)
  missed_keeps posted c unasked knows = subst (λ (l : ℕ). KnowsStates posted c (wanting access l v)) (sym line_there)
      (missed_knows access posted c v can.once unasked can.wants_nothing knows)

  pub missed_run : (u : State) → u ≡ wanting access line v → SameRun v u
  missed_run u is = let run = chosen-run (gone_for line v) v in subst (SameRun v) (sym is) (record {
    slot = ap (λ (r : Untouched). r.slot) run;
    rows = ap (λ (r : Untouched). r.rows) run;
    keeps = ap (λ (r : Untouched). r.keeps) run;
    room = ap (λ (r : Untouched). r.touches.room) run;
    phase_done = ap (λ (r : Untouched). r.phase_done) run;
    states = missed_keeps;
  })

-- ---- an instruction

-- one that asks for an access
pub asks_memory : (job : JobValue) (c : ℕ) (memory : List ℕ) (v u : State) (word : ℕ) (instr : Instr) (regs : List ℕ) (access : Access) → Carries job c memory v → instr_of word ≡ Some instr →
    Memory access ≡ effect_of instr v.regs v.pc v.shape.memory → regs ≡ v.regs →
    (Carries job c memory (record v { regs = regs }) → StandsFor job c (after_effect job.shape v.slot (Memory access) (with_memory memory (record v { regs = regs }))) u) →
    StandsFor job c (after_effect job.shape v.slot (effect_of_word job.shape word (core_of v) (instr_of word)) (with_memory memory v)) u
asks_memory job c memory v u word instr regs access s reads asks kept after =
    let done : StandsFor job c (after_effect job.shape v.slot (Memory access) (with_memory memory v)) u =
    subst (λ (rs : List ℕ). Carries job c memory (record v { regs = rs }) → StandsFor job c (after_effect job.shape v.slot (Memory access) (with_memory memory (record v { regs = rs }))) u) kept after s in
    subst (λ (e : Effect). StandsFor job c (after_effect job.shape v.slot e (with_memory memory v)) u)
    (asks ∙ ap (λ (g : Geometry). effect_of instr v.regs v.pc g.memory) s.shape ∙ sym (ap (effect_of_word job.shape word (core_of v)) reads)) done

runs_word : (shape : Geometry) (slot : ℕ) (text : List ℕ) (y : Context) (word : ℕ) → can_run y.core ≡ true → slice_get text (y.core.pc / 4) ≡ Some word →
    instruction shape slot text y ≡ after_effect shape slot (effect_of_word shape word y.core (instr_of word)) y
unfolding instruction
runs_word shape slot text y word can is = ap (λ (b : Bool). if b then after_effect shape slot (effect_at shape text y.core) y else y) can ∙ ap (λ (o : Option ℕ). after_effect shape slot (effect_of_fetch shape y.core o) y) is

runs_off : (shape : Geometry) (slot : ℕ) (text : List ℕ) (y : Context) → can_run y.core ≡ true → slice_get text (y.core.pc / 4) ≡ None → instruction shape slot text y ≡ after_effect shape slot (Stop (FetchRange y.core.pc)) y
unfolding instruction
runs_off shape slot text y can is = ap (λ (b : Bool). if b then after_effect shape slot (effect_at shape text y.core) y else y) can ∙ ap (λ (o : Option ℕ). after_effect shape slot (effect_of_fetch shape y.core o) y) is

pub takes_word : (job : JobValue) (c : ℕ) (memory : List ℕ) (v u : State) (word : ℕ) → Carries job c memory v → can_run (core_of v) ≡ true → slice_get v.text (v.pc / 4) ≡ Some word →
    StandsFor job c (after_effect job.shape v.slot (effect_of_word job.shape word (core_of v) (instr_of word)) (with_memory memory v)) u → StandsFor job c (instruction job.shape v.slot (text_of job c) (with_memory memory v)) u
takes_word job c memory v u word s can is stands =
    subst (λ (y : Context). StandsFor job c y u) (sym (runs_word job.shape v.slot (text_of job c) (with_memory memory v) word can (ap (λ (t : List ℕ). slice_get t (v.pc / 4)) (sym s.text) ∙ is))) stands

pub runs_past : (job : JobValue) (c : ℕ) (memory : List ℕ) (v : State) → Carries job c memory v → can_run (core_of v) ≡ true → slice_get v.text (v.pc / 4) ≡ None →
    StandsFor job c (instruction job.shape v.slot (text_of job c) (with_memory memory v)) (record v { status = Halted (FetchRange v.pc) })
runs_past job c memory v s can is =
    subst (λ (y : Context). StandsFor job c y (record v { status = Halted (FetchRange v.pc) }))
    (sym (runs_off job.shape v.slot (text_of job c) (with_memory memory v) can (ap (λ (t : List ℕ). slice_get t (v.pc / 4)) (sym s.text) ∙ is)))
    (stops job c memory v v.slot (FetchRange v.pc) s)
