-- A core that writes a line back stands for what the write-back leaves.
use Rattle.std.proofs.Common.{◌≡◌, ◌≢◌, ℕ, ◌≤◌, ◌==◌, List, ◌∷◌, drop, length, Option, Some, None, Bool, true, false, if◌then◌else◌, refl, sym, ap, ◌∙◌, subst, arith}
use mathlib.Core.Logic.{dite}
use native.Mathlib.Decide.{ℕ_discrete}
use Rattle.std.specs.Option.{option_map}
use Rattle.pmsi_model.specs.declared.Mode.{Mode}
use Rattle.pmsi_model.specs.declared.Mode.TheVariants.{Shared}
use Rattle.pmsi_model.specs.declared.State.{State as LineName}
use Rattle.pmsi_model.specs.declared.State.TheVariants.{MSWB, MIWB}
use Rattle.pmsi_model.specs.declared.Turn.TheVariants.{Request as RequestTurn}
use Rattle.pmsi_model.specs.declared.Want.{Want}
use Rattle.pmsi_model.specs.Job.{JobValue}
use Rattle.pmsi_model.specs.Machine.{Machine, CoreState, Request, mode_of, has_line, with_mode, without}
use Rattle.pmsi_model.specs.Named.{state_in, stays_shared}
use Rattle.pmsi_model.specs.Bus.{clear_victim, keeps_line, write_back}
use Rattle.pmsi_model.proofs.Changes.{write_back-memory, write_back-own, write_back-posted, written_core}
use Rattle.pmsi_model.proofs.Held.{mode_with_mode, mode_without}
use Rattle.coherence_laws.proofs.Exports.{backs_fit, written_else, IsWhole}
use Rattle.cache_ctrl.specs.declared.Duty.{Duty}
use Rattle.cache_ctrl.specs.declared.Duty.TheVariants.{Nothing, DropCopy}
use Rattle.cache_ctrl.specs.declared.Event.TheVariants.{OwnBack}
use Rattle.cache_ctrl.specs.Duties.{backs_by}
use Rattle.cache_ctrl.proofs.Exports.{IsSettled, waiting_state, writes_back, writes_back_else}
use Rattle.cache_array.specs.declared.line.CachedLine.{CachedLine}
use Rattle.cache_array.specs.Cache.{held_of, others, with_line_mode, words_of}
use Rattle.cache_array.proofs.Exports.{held_of-others, held_of-with_line_mode, words_of-others, words_of-with_line_mode}
use Rattle.rv_exec.specs.Effects.{IsAccessTo}
use Rattle.core_unit.specs.declared.state.State.{State}
use Rattle.core_unit.specs.Changes.{CanChange, CanDo, duty_in, lines_by, next_for, stays_in}
use Rattle.core_unit.specs.State.{backed, core_of, keeps, lines_kept, popped}
use Rattle.core_unit.specs.Stands.{Carries, CopiesAgree, IsWantOf, KnowsStates}
use Rattle.core_unit.proofs.ActsCopies.{copies_fewer}
use Rattle.core_unit.proofs.Carried.{relined}
use Rattle.core_unit.proofs.Changed.{changed_listed, entry_of, knows_changed, settled_in, some_comes, states_room}
use Rattle.core_unit.proofs.Snoops.{IsCoreIn}

-- ---- what is left of the lines

-- the cached lines once a line is written back
abbrev lines_backed : Bool → ℕ → List CachedLine → List CachedLine
lines_backed kept line lines = if kept then with_line_mode line Shared lines else others line lines

backed_held : (kept : Bool) (line : ℕ) (lines : List CachedLine) → held_of (lines_backed kept line lines) ≡ (if kept then with_mode line Shared (held_of lines) else without line (held_of lines))
backed_held true line lines = held_of-with_line_mode line Shared lines
backed_held false line lines = held_of-others line lines

-- a line that is held after it was held before, with the same words
still_held : (kept : Bool) (line l : ℕ) (lines : List CachedLine) → mode_of line (held_of lines) ≢ None → mode_of l (held_of (lines_backed kept line lines)) ≢ None → mode_of l (held_of lines) ≢ None
still_held true line l lines owned held none = let m = ap (mode_of l) (held_of-with_line_mode line Shared lines) ∙ mode_with_mode l line Shared (held_of lines) in
    dite (ℕ_discrete l line) (λ here. owned (ap (λ (n : ℕ). mode_of n (held_of lines)) (sym here) ∙ none)) (λ away. held (grind arith))
still_held false line l lines owned held none = let m = ap (mode_of l) (held_of-others line lines) ∙ mode_without l line (held_of lines) in held (grind arith)

same_words : (kept : Bool) (line l : ℕ) (lines : List CachedLine) → mode_of l (held_of (lines_backed kept line lines)) ≢ None → words_of l (lines_backed kept line lines) ≡ words_of l lines
same_words true line l lines held = words_of-with_line_mode line l Shared lines
same_words false line l lines held = let m : mode_of l (held_of (others line lines)) ≡ (if l == line then None else mode_of l (held_of lines)) = ap (mode_of l) (held_of-others line lines) ∙ mode_without l line (held_of lines) in
    words_of-others line l lines ∙ dite (ℕ_discrete l line) (λ here. absurd (held (grind arith))) (λ away. grind arith)

cleared_want : (job : JobValue) (line : ℕ) (o : Option Want) → ((want : Want) → o ≡ Some want → IsWantOf job want) → (want : Want) → option_map (clear_victim line) o ≡ Some want → IsWantOf job want
cleared_want job line None old want is = absurd (grind arith)
cleared_want job line (Some w) old want is = let a = old w refl in record {
  access = subst (IsAccessTo job.shape.memory) (grind arith) a.access;
  line = (let l = a.line in grind arith);
  kind = (let k = a.kind in grind arith);
}

-- ---- the state of the line

-- the duty says whether the line stays
abbrev back_duty : Bool → Duty
back_duty kept = if kept then Nothing else DropCopy

duty_lines : (kept : Bool) (line : ℕ) (lines : List CachedLine) → lines_kept kept line (lines_by (back_duty kept) line lines) ≡ lines_backed kept line lines
duty_lines true line lines = refl
duty_lines false line lines = refl

duty_backs : (kept : Bool) (line : ℕ) (lines : List ℕ) → backs_by (back_duty kept) line lines ≡ lines
duty_backs true line lines = refl
duty_backs false line lines = refl

-- what it needs
duty_room : (kept : Bool) (line : ℕ) (v : State) → mode_of line (held_of v.cache.lines) ≢ None → CanDo (back_duty kept) line v
duty_room true line v held = tt
duty_room false line v held = held

stays_is : (kept : Bool) → stays_in (if kept then MSWB else MIWB) ≡ kept
stays_is true = refl
stays_is false = refl

-- ---- the write-back

-- the first of the lines that a core lists and holds
pub record IsWritable (job : JobValue) (s : ℕ) (y : Machine) (c line : ℕ) (lines : List ℕ) (v : State) : Type 0 where
  pub whole : IsWhole job.shape s y.posted y.cores
  pub core_in : IsCoreIn job c y v
  pub first : v.pending.write_backs ≡ line ∷ lines
  pub held : mode_of line (held_of v.cache.lines) ≢ None

module _ (job : JobValue) (s : ℕ) (y : Machine) (c line : ℕ) (lines : List ℕ) (v : State) (w : IsWritable job s y c line lines v) where
  settled : IsSettled y.posted c (core_of v)
  settled = settled_in job.shape s y c (core_of v) w.whole w.core_in.stands.core

  waits : has_line line v.pending.write_backs ≡ true
  waits = ap (has_line line) w.first ∙ grind arith

  stays_shared_is : keeps line v ≡ stays_shared y.posted (core_of v) line
  stays_shared_is = ap stays_in (w.core_in.knows.names line ∙ waiting_state y.posted c (core_of v) line settled waits)
      ∙ stays_is (stays_shared y.posted (core_of v) line)

  -- the line stays shared by its state as by the machine
  pub keeps_is : keeps line v ≡ keeps_line y c line
  keeps_is = stays_shared_is ∙ ap (λ (k : CoreState). stays_shared y.posted k line) (sym w.core_in.stands.core)

  entry : next_for OwnBack line (popped lines v) ≡ Some (state_in y.posted c (written_core line (keeps line v) (core_of v)) line, back_duty (keeps line v))
  entry = entry_of OwnBack line y.posted c v (state_in y.posted c (written_core line (keeps line v) (core_of v)) line, back_duty (keeps line v)) w.core_in.knows
      (writes_back y.posted c (core_of v) line lines (keeps line v) settled w.first (sym stays_shared_is))

  pub back_changes : CanChange OwnBack line (popped lines v)
  back_changes = record {
    comes = some_comes (next_for OwnBack line (popped lines v)) (state_in y.posted c (written_core line (keeps line v) (core_of v)) line, back_duty (keeps line v)) entry;
    room = states_room y.posted c v w.core_in.knows
        (let most = subst (λ (k : CoreState). length k.write_backs ≤ job.shape.cores) w.core_in.stands.core (backs_fit job.shape s y.posted y.cores c w.whole) in
        let few = w.core_in.stands.carries.within.shape.cores in omega arith);
    duty = subst (λ (o : Option (LineName × Duty)). CanDo (duty_in o) line (popped lines v)) (sym entry) (duty_room (keeps line v) line (popped lines v) w.held);
  }

  backed_agree : (kept : Bool) → CopiesAgree job y.memory (lines_backed kept line v.cache.lines)
  backed_agree kept = copies_fewer job.shape.line_words y.memory (λ l. mode_of l (held_of v.cache.lines)) (λ l. mode_of l (held_of (lines_backed kept line v.cache.lines)))
      (λ l. words_of l v.cache.lines) (λ l. words_of l (lines_backed kept line v.cache.lines))
      (λ l. still_held kept line l v.cache.lines w.held) (λ l. same_words kept line l v.cache.lines) w.core_in.stands.carries.agree

  lines_are : (backed line lines v).cache.lines ≡ lines_backed (keeps line v) line v.cache.lines
  lines_are = ap (λ (o : Option (LineName × Duty)). lines_kept (keeps line v) line (lines_by (duty_in o) line v.cache.lines)) entry ∙ duty_lines (keeps line v) line v.cache.lines

  backs_are : (backed line lines v).pending.write_backs ≡ drop 1 v.pending.write_backs
  backs_are = ap (λ (o : Option (LineName × Duty)). backs_by (duty_in o) line lines) entry ∙ duty_backs (keeps line v) line lines ∙ sym (ap (drop 1) w.first)

  abbrev core_with : List (ℕ × Mode) → List ℕ → CoreState
  core_with held backs = record (core_of v) { held = held; want = option_map (clear_victim line) v.pending.want; write_backs = backs; turn = RequestTurn }

  core_backed : core_of (backed line lines v) ≡ written_core line (keeps line v) (core_of v)
  core_backed = ap (λ (ls : List CachedLine). core_with (held_of ls) (backed line lines v).pending.write_backs) lines_are
      ∙ ap (λ (held : List (ℕ × Mode)). core_with held (backed line lines v).pending.write_backs) (backed_held (keeps line v) line v.cache.lines)
      ∙ ap (λ (backs : List ℕ). core_with (if keeps line v then with_mode line Shared (held_of v.cache.lines) else without line (held_of v.cache.lines)) backs) backs_are

  knows_backed : KnowsStates y.posted c (backed line lines v)
  knows_backed = knows_changed y.posted y.posted c v (backed line lines v) line (written_core line (keeps line v) (core_of v)) w.core_in.knows core_backed
      (changed_listed OwnBack line (popped lines v) (state_in y.posted c (written_core line (keeps line v) (core_of v)) line) (back_duty (keeps line v)) entry)
      (λ l away. writes_back_else y.posted c (core_of v) line l lines (keeps line v) w.first away)
      (λ l away. written_else (keeps line v) line l (held_of v.cache.lines) away)

  pub back_backed : IsCoreIn job c (write_back y c line (keeps line v)) (backed line lines v)
  back_backed = record {
    stands = record {
      carries = subst (λ (memory : List ℕ). Carries job c memory (backed line lines v)) (sym (write_back-memory y c line (keeps line v)))
          (relined job c y.memory v (backed line lines v) w.core_in.stands.carries refl
          (subst (λ (ls : List CachedLine). CopiesAgree job y.memory ls) (sym lines_are) (backed_agree (keeps line v)))
          (cleared_want job line v.pending.want w.core_in.stands.carries.want));
      core = write_back-own y c line (keeps line v) ∙ ap (written_core line (keeps line v)) w.core_in.stands.core ∙ sym core_backed;
    };
    knows = subst (λ (posted : List Request). KnowsStates posted c (backed line lines v)) (sym (write_back-posted y c line (keeps line v))) knows_backed;
  }
