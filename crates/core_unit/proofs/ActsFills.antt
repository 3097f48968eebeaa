-- A core whose request is served stands for what the fill leaves.
use Rattle.std.proofs.Common.{◌≡◌, ◌≢◌, ℕ, ◌+◌, ◌<◌, List, All, length, Option, Some, None, is_some, Bool, true, false, refl, sym, ap, ◌∙◌, subst, arith}
use Rattle.pmsi_model.specs.declared.job.Geometry.{Geometry}
use Rattle.pmsi_model.specs.declared.Kind.{Kind}
use Rattle.pmsi_model.specs.declared.Kind.TheVariants.{Read, Write}
use Rattle.pmsi_model.specs.declared.Mode.{Mode}
use Rattle.pmsi_model.specs.declared.Mode.TheVariants.{Shared, Modified}
use Rattle.pmsi_model.specs.declared.State.{State as LineName}
use Rattle.pmsi_model.specs.declared.Turn.TheVariants.{WriteBack as WriteBackTurn}
use Rattle.pmsi_model.specs.declared.Want.{Want}
use Rattle.pmsi_model.specs.Access.{access_value}
use Rattle.pmsi_model.specs.Effect.{with_reg, next_pc}
use Rattle.pmsi_model.specs.Geometry.{line_of}
use Rattle.pmsi_model.specs.Job.{JobValue}
use Rattle.pmsi_model.specs.Machine.{Machine, CoreState, Request, first_of, mode_of, mode_in, has_line, has_request, has_write, nobody_owns, removed, request_of}
use Rattle.pmsi_model.specs.Named.{behind_of, stable_state, state_in, stays_shared}
use Rattle.pmsi_model.specs.Phase.{met_bytes, memory_after, retired_with}
use Rattle.pmsi_model.specs.Bus.{append_demanded, fill, filled_line}
use Rattle.pmsi_model.proofs.Changes.{fill-memory, fill-own, fill-posted, filled_core}
use Rattle.pmsi_model.proofs.Held.{mode_to_front}
use Rattle.pmsi_model.proofs.Requests.{request_less}
use Rattle.pmsi_model.proofs.Accesses.{IsFit, length-memory_after, memory_after_below, read_after}
use Rattle.coherence_laws.proofs.Exports.{filled_else, IsAsked, nobody_at_all, IsWhole}
use Rattle.cache_ctrl.specs.declared.Duty.{Duty}
use Rattle.cache_ctrl.specs.declared.Event.TheVariants.{OwnFill}
use Rattle.cache_ctrl.specs.Duties.{backs_by}
use Rattle.cache_ctrl.specs.Table.{next_of}
use Rattle.cache_ctrl.proofs.Exports.{fill_duty, filled_backs, has_behind_first, own_fills, own_fills_else}
use Rattle.cache_array.specs.declared.line.CachedLine.{CachedLine}
use Rattle.cache_array.specs.Cache.{held_of, words_of, put_first}
use Rattle.cache_array.proofs.Exports.{held_of-put_first, words_of-put_first}
use Rattle.rv_exec.specs.Accesses.{covered}
use Rattle.core_unit.specs.declared.state.State.{State}
use Rattle.core_unit.specs.Changes.{CanChange, CanDo, duty_in, lines_by, mode_in_state, next_for}
use Rattle.core_unit.specs.State.{core_of, filled_on, lines_taken, met_among, mode_filled, served, turned, words_with}
use Rattle.core_unit.specs.Stands.{CopiesAgree, Carries, KnowsStates}
use Rattle.core_unit.proofs.ActsCopies.{AreWords, copies_put, met_there, other_word, words_after}
use Rattle.core_unit.proofs.Carried.{rebuilt}
use Rattle.core_unit.proofs.Changed.{changed_listed, entry_of, knows_changed, settled_in, some_comes, states_room}
use Rattle.core_unit.proofs.Snoops.{IsCoreIn}
use Rattle.core_unit.proofs.Words.{some_words}

-- ---- the line comes into the cache

-- a request for a line is posted no more, so the state tells the mode
mode_stable : (mode : Option Mode) (waits stays : Bool) → mode_in_state (stable_state mode waits stays) ≡ mode
mode_stable None waits stays = refl
mode_stable (Some Shared) waits stays = refl
mode_stable (Some Modified) true true = refl
mode_stable (Some Modified) true false = refl
mode_stable (Some Modified) false stays = refl

mode_served : (posted : List Request) (c : ℕ) (k : CoreState) (line : ℕ) → request_of c posted ≡ None → mode_in_state (state_in posted c k line) ≡ mode_of line k.held
unfolding state_in
mode_served posted c k line none = rw none (mode_stable (mode_of line k.held) (has_line line k.write_backs) (stays_shared posted k line))

-- a read leaves no copy of a line that wasn't held, where a write is queued
taken_held : (shape : Geometry) (kind : Kind) (write : Bool) (line : ℕ) (words : List ℕ) (lines : List CachedLine) (mode : Option Mode)
    → (kind ≡ Read → mode_of line (held_of lines) ≡ None) → mode ≡ mode_of line (filled_line kind write line (held_of lines))
    → held_of (lines_taken mode shape line words lines) ≡ filled_line kind write line (held_of lines)
taken_held shape Read true line words lines mode unheld is = ap (λ (m : Option Mode). held_of (lines_taken m shape line words lines)) (is ∙ unheld refl)
taken_held shape Read false line words lines mode unheld is =
    let shared : mode_of line (filled_line Read false line (held_of lines)) ≡ Some Shared = (let m = mode_to_front line line Shared (held_of lines) in grind arith) in
    ap (λ (m : Option Mode). held_of (lines_taken m shape line words lines)) (is ∙ shared)
    ∙ held_of-put_first shape line Shared words lines
taken_held shape Write write line words lines mode unheld is =
    let owned : mode_of line (filled_line Write write line (held_of lines)) ≡ Some Modified = (let m = mode_to_front line line Modified (held_of lines) in grind arith) in
    ap (λ (m : Option Mode). held_of (lines_taken m shape line words lines)) (is ∙ owned)
    ∙ held_of-put_first shape line Modified words lines

-- a read alone leaves no copy
untaken_read : (kind : Kind) (write : Bool) (line : ℕ) (held : List (ℕ × Mode)) → mode_of line (filled_line kind write line held) ≡ None → kind ≡ Read
untaken_read Read write line held none = refl
untaken_read Write write line held none = absurd (let m = mode_to_front line line Modified held in grind arith)

fill_lines : (kind : Kind) (behind : Bool) (line : ℕ) (lines : List CachedLine) → lines_by (fill_duty kind behind) line lines ≡ lines
fill_lines Read behind line lines = refl
fill_lines Write true line lines = refl
fill_lines Write false line lines = refl

-- what the duty at a fill needs
fill_room : (kind : Kind) (behind : Bool) (line : ℕ) (v : State) → has_line line v.pending.write_backs ≡ false → length v.pending.write_backs < v.pending.cores
    → CanDo (fill_duty kind behind) line v
fill_room Read behind line v absent room = tt
fill_room Write true line v absent room = (absent, room)
fill_room Write false line v absent room = tt

-- ---- the fill

-- a request of a core that can be served, and the words of its line
pub record IsServable (job : JobValue) (s : ℕ) (y : Machine) (c : ℕ) (want : Want) (words : List ℕ) (v : State) : Type 0 where
  pub whole : IsWhole job.shape s y.posted y.cores
  pub core_in : IsCoreIn job c y v
  pub wants : (y.cores c).want ≡ Some want
  pub posted : is_some want.post ≡ true
  pub asked : IsAsked job.shape want
  pub first : first_of want.line y.posted ≡ Some c
  pub nobody : nobody_owns y job.shape.cores want.line ≡ true
  pub read : AreWords job.shape.line_words y.memory want.line words

-- the state by a shape
abbrev served_on : Geometry → Want → List ℕ → ℕ → State → State
served_on shape want words post v = turned (filled_on shape want words post v)

module _ (job : JobValue) (s : ℕ) (y : Machine) (c : ℕ) (want : Want) (words : List ℕ) (v : State) (f : IsServable job s y c want words v) where
  some : 0 < job.shape.line_words
  some = some_words job.shape f.core_in.stands.carries.within.shape

  fit : IsFit (length y.memory) want.access
  fit = subst (λ (n : ℕ). IsFit n want.access) (sym f.core_in.stands.carries.bytes) f.asked.fit

  small : All (λ byte. byte < 256) y.memory
  small = f.core_in.stands.carries.small

  read_there : AreWords job.shape.line_words y.memory (line_of job.shape want.access.address) words
  read_there = subst (λ (l : ℕ). AreWords job.shape.line_words y.memory l words) f.asked.line f.read

  new_there : AreWords job.shape.line_words (memory_after want.access y.memory) want.line (words_with job.shape want.access words)
  new_there = subst (λ (l : ℕ). AreWords job.shape.line_words (memory_after want.access y.memory) l (words_with job.shape want.access words)) (sym f.asked.line)
      (words_after job.shape want.access y.memory words some fit.aligned small read_there (length-memory_after want.access y.memory))

  -- the word that its access meets is that of memory
  pub met_now : covered want.access (met_among v.shape want.access words) ≡ met_bytes want.access y.memory
  met_now = ap (λ (g : Geometry). covered want.access (met_among g want.access words)) f.core_in.stands.carries.shape
      ∙ met_there job.shape want.access y.memory words some fit.aligned small read_there

  -- the line in the cache
  put_agree : (new : Mode) → CopiesAgree job (memory_after want.access y.memory) (put_first v.cache.shape want.line new (words_with job.shape want.access words) v.cache.lines)
  put_agree new =
      copies_put job.shape.line_words y.memory (memory_after want.access y.memory)
      (λ l. mode_of l (held_of v.cache.lines)) (λ l. mode_of l (held_of (put_first v.cache.shape want.line new (words_with job.shape want.access words) v.cache.lines)))
      (λ l. words_of l v.cache.lines) (λ l. words_of l (put_first v.cache.shape want.line new (words_with job.shape want.access words) v.cache.lines))
      want.line new (words_with job.shape want.access words) (length-memory_after want.access y.memory) new_there
      (λ l place below away within. other_word job.shape want.access y.memory words some fit.aligned small read_there l place below (λ same. away (same ∙ sym f.asked.line)) within)
      (λ l. ap (mode_of l) (held_of-put_first v.cache.shape want.line new (words_with job.shape want.access words) v.cache.lines) ∙ mode_to_front l want.line new (held_of v.cache.lines))
      (λ l. words_of-put_first v.cache.shape want.line l new (words_with job.shape want.access words) v.cache.lines)
      f.core_in.stands.carries.agree

  kept_agree : want.kind ≡ Read → CopiesAgree job (memory_after want.access y.memory) v.cache.lines
  kept_agree reads = subst (λ (m : List ℕ). CopiesAgree job m v.cache.lines) (sym (read_after want.access y.memory fit (sym f.asked.kind ∙ reads))) f.core_in.stands.carries.agree

  -- ---- the state of the line

  entry : next_for OwnFill want.line v
      ≡ Some (state_in (removed c y.posted) c (filled_core y c want) want.line, fill_duty want.kind (has_request want.line (behind_of c y.posted)))
  entry = entry_of OwnFill want.line y.posted c v
      (state_in (removed c y.posted) c (filled_core y c want) want.line, fill_duty want.kind (has_request want.line (behind_of c y.posted))) f.core_in.knows
      (ap (λ (k : CoreState). next_of (state_in y.posted c k want.line) OwnFill) (sym f.core_in.stands.core)
      ∙ own_fills y c want (settled_in job.shape s y c (y.cores c) f.whole refl) f.wants f.posted f.first)

  behind_is : has_request want.line (removed c y.posted) ≡ has_request want.line (behind_of c y.posted)
  behind_is = has_behind_first c want.line y.posted f.whole.once f.first

  unheld : want.kind ≡ Read → mode_of want.line (held_of v.cache.lines) ≡ None
  unheld reads = ap (λ (k : CoreState). mode_of want.line k.held) (sym f.core_in.stands.core) ∙ ((f.whole.fine c).want_fine want f.wants).read_unheld reads

  held_core : (filled_core y c want).held ≡ filled_line want.kind (has_write want.line (removed c y.posted)) want.line (held_of v.cache.lines)
  held_core = ap (λ (k : CoreState). filled_line want.kind (has_write want.line (removed c y.posted)) want.line k.held) f.core_in.stands.core

  mode_is : mode_in_state (state_in (removed c y.posted) c (filled_core y c want) want.line)
      ≡ mode_of want.line (filled_line want.kind (has_write want.line (removed c y.posted)) want.line (held_of v.cache.lines))
  mode_is = mode_served (removed c y.posted) c (filled_core y c want) want.line (let r = request_less c c y.posted in grind arith) ∙ ap (mode_of want.line) held_core

  -- the lines by what the table has
  abbrev lines_for : Option (LineName × Duty) → List CachedLine
  lines_for next = lines_taken (mode_filled next) v.cache.shape want.line (words_with job.shape want.access words) (lines_by (duty_in next) want.line v.cache.lines)

  lines_are : lines_for (next_for OwnFill want.line v)
      ≡ lines_taken (mode_in_state (state_in (removed c y.posted) c (filled_core y c want) want.line)) v.cache.shape want.line (words_with job.shape want.access words) v.cache.lines
  lines_are = ap lines_for entry
      ∙ ap (lines_taken (mode_in_state (state_in (removed c y.posted) c (filled_core y c want) want.line)) v.cache.shape want.line (words_with job.shape want.access words))
      (fill_lines want.kind (has_request want.line (behind_of c y.posted)) want.line v.cache.lines)

  held_is : held_of (lines_for (next_for OwnFill want.line v)) ≡ filled_line want.kind (has_write want.line (removed c y.posted)) want.line (held_of v.cache.lines)
  held_is = ap held_of lines_are
      ∙ taken_held v.cache.shape want.kind (has_write want.line (removed c y.posted)) want.line (words_with job.shape want.access words) v.cache.lines
      (mode_in_state (state_in (removed c y.posted) c (filled_core y c want) want.line)) unheld mode_is

  backs_is : backs_by (duty_in (next_for OwnFill want.line v)) want.line v.pending.write_backs
      ≡ append_demanded want.kind (has_request want.line (removed c y.posted)) want.line v.pending.write_backs
  backs_is = ap (λ (o : Option (LineName × Duty)). backs_by (duty_in o) want.line v.pending.write_backs) entry
      ∙ ap (λ (behind : Bool). backs_by (fill_duty want.kind behind) want.line v.pending.write_backs) (sym behind_is)
      ∙ sym (filled_backs want.kind (has_request want.line (removed c y.posted)) want.line v.pending.write_backs)

  agree_by : (mode : Option Mode) → (mode ≡ None → want.kind ≡ Read)
      → CopiesAgree job (memory_after want.access y.memory) (lines_taken mode v.cache.shape want.line (words_with job.shape want.access words) v.cache.lines)
  agree_by None reads = kept_agree (reads refl)
  agree_by (Some mode) reads = put_agree mode

  carries_filled : (post : ℕ) → Carries job c (memory_after want.access y.memory) (served_on job.shape want words post v)
  carries_filled post = rebuilt job c y.memory (memory_after want.access y.memory) v (served_on job.shape want words post v) f.core_in.stands.carries
      refl (length-memory_after want.access y.memory) (memory_after_below want.access y.memory small)
      (subst (λ (lines : List CachedLine). CopiesAgree job (memory_after want.access y.memory) lines) (sym lines_are)
      (agree_by (mode_in_state (state_in (removed c y.posted) c (filled_core y c want) want.line))
      (λ none. untaken_read want.kind (has_write want.line (removed c y.posted)) want.line (held_of v.cache.lines) (sym mode_is ∙ none))))
      (λ w none. absurd (grind arith))

  -- the core by the bytes that its access meets, its lines, and its lines to write back
  abbrev core_with : List ℕ → List (ℕ × Mode) → List ℕ → CoreState
  core_with bytes held backs = record (core_of v) {
    regs = with_reg v.regs want.access.rd (access_value want.access.op bytes);
    pc = next_pc v.pc;
    retired = v.retired + 1;
    held = held;
    want = None;
    write_backs = backs;
    turn = WriteBackTurn;
  }

  core_filled : (post : ℕ) → filled_core y c want ≡ core_of (served_on job.shape want words post v)
  core_filled post =
      ap (λ (k : CoreState). let j : CoreState = record (retired_with want.access (met_bytes want.access y.memory) k) {
        held = filled_line want.kind (has_write want.line (removed c y.posted)) want.line k.held;
        want = None;
        write_backs = append_demanded want.kind (has_request want.line (removed c y.posted)) want.line k.write_backs;
        turn = WriteBackTurn;
      } in j) f.core_in.stands.core
      ∙ ap (λ (bytes : List ℕ). core_with bytes (filled_line want.kind (has_write want.line (removed c y.posted)) want.line (held_of v.cache.lines)) (append_demanded want.kind (has_request want.line (removed c y.posted)) want.line v.pending.write_backs))
      (sym (met_there job.shape want.access y.memory words some fit.aligned small read_there))
      ∙ ap (λ (held : List (ℕ × Mode)). core_with (covered want.access (met_among job.shape want.access words)) held (append_demanded want.kind (has_request want.line (removed c y.posted)) want.line v.pending.write_backs))
      (sym held_is)
      ∙ ap (λ (backs : List ℕ). core_with (covered want.access (met_among job.shape want.access words)) (held_of (lines_for (next_for OwnFill want.line v))) backs)
      (sym backs_is)

  unowned : mode_in y c want.line ≢ Some Modified
  unowned = nobody_at_all job.shape s y want.line f.whole f.nobody c

  unlisted_by : (b : Bool) → has_line want.line (y.cores c).write_backs ≡ b → b ≡ false
  unlisted_by true has = absurd (unowned ((f.whole.fine c).back_owned want.line has))
  unlisted_by false has = refl

  -- the core doesn't list the line that it wants
  wanted_unlisted : has_line want.line v.pending.write_backs ≡ false
  wanted_unlisted = ap (λ (k : CoreState). has_line want.line k.write_backs) (sym f.core_in.stands.core) ∙ unlisted_by (has_line want.line (y.cores c).write_backs) refl

  -- its state can change, where the core has room to write it back
  pub fill_changes : length v.pending.write_backs < job.shape.cores → CanChange OwnFill want.line v
  fill_changes room = let cores = f.core_in.stands.carries.cores in let few = f.core_in.stands.carries.within.shape.cores in record {
    comes = some_comes (next_for OwnFill want.line v)
        (state_in (removed c y.posted) c (filled_core y c want) want.line, fill_duty want.kind (has_request want.line (behind_of c y.posted))) entry;
    room = states_room y.posted c v f.core_in.knows (omega arith);
    duty = subst (λ (o : Option (LineName × Duty)). CanDo (duty_in o) want.line v) (sym entry)
        (fill_room want.kind (has_request want.line (behind_of c y.posted)) want.line v wanted_unlisted (omega arith));
  }

  knows_filled : (post : ℕ) → KnowsStates (removed c y.posted) c (served_on job.shape want words post v)
  knows_filled post = knows_changed y.posted (removed c y.posted) c v (served_on job.shape want words post v) want.line (filled_core y c want) f.core_in.knows
      (sym (core_filled post))
      (changed_listed OwnFill want.line v (state_in (removed c y.posted) c (filled_core y c want) want.line)
      (fill_duty want.kind (has_request want.line (behind_of c y.posted))) entry)
      (λ l away. own_fills_else y c want l (settled_in job.shape s y c (y.cores c) f.whole refl) f.wants f.posted away
      ∙ ap (λ (k : CoreState). state_in y.posted c k l) f.core_in.stands.core)
      (λ l away. ap (mode_of l) held_core ∙ filled_else want.kind (has_write want.line (removed c y.posted)) want.line l (held_of v.cache.lines) away)

  served_by_job : (post : ℕ) → IsCoreIn job c (fill y c) (served_on job.shape want words post v)
  served_by_job post = record {
    stands = record {
      carries = subst (λ (memory : List ℕ). Carries job c memory (served_on job.shape want words post v)) (sym (fill-memory y c want f.wants)) (carries_filled post);
      core = fill-own y c want f.wants ∙ core_filled post;
    };
    knows = subst (λ (posted : List Request). KnowsStates posted c (served_on job.shape want words post v)) (sym (fill-posted y c want f.wants)) (knows_filled post);
  }

  pub fill_served : (post : ℕ) → IsCoreIn job c (fill y c) (served want words post v)
  fill_served post = subst (λ (g : Geometry). IsCoreIn job c (fill y c) (served_on g want words post v)) (sym f.core_in.stands.carries.shape) (served_by_job post)
