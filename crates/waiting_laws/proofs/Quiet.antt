-- A phase leaves all that a standing wait depends on.
use Rattle.std.proofs.Common.{◌≡◌, ℕ, zero, suc, List, Option, Some, None, true, refl, sym, ap, ◌∙◌, subst, arith}
use Rattle.pmsi_model.specs.declared.job.Geometry.{Geometry}
use Rattle.pmsi_model.specs.declared.Access.{Access}
use Rattle.pmsi_model.specs.declared.Mode.{Mode}
use Rattle.pmsi_model.specs.declared.Mode.TheVariants.{Shared, Modified}
use Rattle.pmsi_model.specs.declared.Want.{Want}
use Rattle.pmsi_model.specs.Geometry.{line_of}
use Rattle.pmsi_model.specs.Job.{JobValue, text_of}
use Rattle.pmsi_model.specs.Effect.{Effect, Next, Memory, Stop}
use Rattle.pmsi_model.specs.Machine.{Machine, CoreState, mode_of, has_line}
use Rattle.pmsi_model.specs.Phase.{Context, can_run, after_effect, effect_at, accessed, missed, is_permitted, evicted, drop_shared, victim_of, append_victim, touched_line, instruction, instructions, context_of, phase, phases}
use Rattle.pmsi_model.specs.Waiting.{place_of}
use Rattle.pmsi_model.proofs.Held.{mode_without, mode_to_front}
use Rattle.pmsi_model.proofs.WriteBacks.{line_append_once, place_append_once}
use Rattle.pmsi_model.proofs.Boundaries.{phases-slot}
use Rattle.pmsi_model.proofs.Cases.{by_test, at_core, runs_wantless}

pub record IsQuiet (slot : ℕ) (k j : CoreState) : Type 0 where
  -- a core that wants something stays as it is
  pub stays : (want : Want) → k.want ≡ Some want → j ≡ k
  -- a want that begins, begins in this slot
  pub begins : (want : Want) → k.want ≡ None → j.want ≡ Some want → want.issue ≡ slot
  pub turn : j.turn ≡ k.turn
  pub backs : (line : ℕ) → has_line line k.write_backs ≡ true
      → (has_line line j.write_backs ≡ true) × (place_of line j.write_backs ≡ place_of line k.write_backs)
  pub owned : (line : ℕ) → mode_of line j.held ≡ Some Modified → mode_of line k.held ≡ Some Modified

quiet_same : (slot : ℕ) (k : CoreState) → IsQuiet slot k k
quiet_same slot k = record {
  stays = λ want is. refl;
  begins = λ want none is. absurd (grind arith);
  turn = refl;
  backs = λ line has. (has, refl);
  owned = λ line is. is;
}

begins_then : (slot : ℕ) (k j i : CoreState) (o : Option Want) → IsQuiet slot k j → IsQuiet slot j i → j.want ≡ o → (want : Want) → k.want ≡ None
    → i.want ≡ Some want → want.issue ≡ slot
begins_then slot k j i None first second is want none later = second.begins want is later
begins_then slot k j i (Some v) first second is want none later =
    let same : i ≡ j = second.stays v is in
    first.begins want none (sym (ap (λ (k : CoreState). k.want) same) ∙ later)

quiet_then : (slot : ℕ) (k j i : CoreState) → IsQuiet slot k j → IsQuiet slot j i → IsQuiet slot k i
quiet_then slot k j i first second = record {
  stays = λ want is. let e : j ≡ k = first.stays want is in second.stays want (ap (λ (k : CoreState). k.want) e ∙ is) ∙ e;
  begins = begins_then slot k j i j.want first second refl;
  turn = second.turn ∙ first.turn;
  backs = λ line has. let b = first.backs line has in let c = second.backs line b.0 in (c.0, c.1 ∙ b.1);
  owned = λ line is. first.owned line (second.owned line is);
}

-- a core that runs on
quiet_running : (slot : ℕ) (k j : CoreState) → k.want ≡ None → j.want ≡ k.want → j.turn ≡ k.turn → j.write_backs ≡ k.write_backs
    → ((line : ℕ) → mode_of line j.held ≡ Some Modified → mode_of line k.held ≡ Some Modified) → IsQuiet slot k j
quiet_running slot k j none want turn backs owned = record {
  stays = λ v is. absurd (grind arith);
  begins = λ v _ is. absurd (grind arith);
  turn = turn;
  backs = λ line has. (ap (has_line line) backs ∙ has, ap (place_of line) backs);
  owned = owned;
}

touched_owned : (line l : ℕ) (mode : Option Mode) (held : List (ℕ × Mode)) → mode_of line held ≡ mode
    → mode_of l (touched_line mode line held) ≡ Some Modified → mode_of l held ≡ Some Modified
touched_owned line l None held is owned = owned
touched_owned line l (Some mode) held is owned = grind (arith, mode_to_front l line mode held)

dropped_owned : (l : ℕ) (gone : Option (ℕ × Mode)) (held : List (ℕ × Mode)) → mode_of l (drop_shared gone held) ≡ Some Modified
    → mode_of l held ≡ Some Modified
dropped_owned l None held owned = owned
dropped_owned l (Some (gone, Shared)) held owned = grind (arith, mode_without l gone held)
dropped_owned l (Some (gone, Modified)) held owned = owned

victim_backs : (line : ℕ) (victim : Option ℕ) (lines : List ℕ) → has_line line lines ≡ true
    → (has_line line (append_victim victim lines) ≡ true) × (place_of line (append_victim victim lines) ≡ place_of line lines)
victim_backs line None lines has = (has, refl)
victim_backs line (Some victim) lines has = (grind (arith, line_append_once line victim lines), place_append_once line victim lines has)

quiet_missed : (shape : Geometry) (slot : ℕ) (access : Access) (k : CoreState) → k.want ≡ None → IsQuiet slot k (missed shape slot access k)
quiet_missed shape slot access k none = let gone = evicted shape (line_of shape access.address) k.held in record {
  stays = λ v is. absurd (grind arith);
  begins = λ v _ is. grind arith;
  turn = refl;
  backs = λ line has. victim_backs line (victim_of gone) k.write_backs has;
  owned = λ line is. dropped_owned line gone k.held is;
}

quiet_effect : (shape : Geometry) (slot : ℕ) (e : Effect) (x : Context) → x.core.want ≡ None → IsQuiet slot x.core (after_effect shape slot e x).core
quiet_effect shape slot (Next regs pc) x none = quiet_running slot x.core (after_effect shape slot (Next regs pc) x).core none refl refl refl (λ line is. is)
quiet_effect shape slot (Stop halt) x none = quiet_running slot x.core (after_effect shape slot (Stop halt) x).core none refl refl refl (λ line is. is)
quiet_effect shape slot (Memory access) x none =
    by_test (λ (y : Context). IsQuiet slot x.core y.core) (is_permitted shape access x.core) (accessed shape access x) (record x { core = missed shape slot access x.core })
    (λ granted. quiet_running slot x.core (accessed shape access x).core none refl refl refl
    (λ l is. touched_owned (line_of shape access.address) l (mode_of (line_of shape access.address) x.core.held) x.core.held refl is))
    (λ denied. quiet_missed shape slot access x.core none)

quiet_instruction : (shape : Geometry) (slot : ℕ) (text : List ℕ) (x : Context) → IsQuiet slot x.core (instruction shape slot text x).core
unfolding instruction
quiet_instruction shape slot text x =
    by_test (λ (y : Context). IsQuiet slot x.core y.core) (can_run x.core) (after_effect shape slot (effect_at shape text x.core) x) x
    (λ can. quiet_effect shape slot (effect_at shape text x.core) x (runs_wantless x.core can))
    (λ stays. quiet_same slot x.core)

quiet_instructions : (shape : Geometry) (slot : ℕ) (text : List ℕ) (count : ℕ) (x : Context)
    → IsQuiet slot x.core (instructions shape slot text count x).core
unfolding instructions
quiet_instructions shape slot text zero x = quiet_same slot x.core
quiet_instructions shape slot text (suc count) x =
    let y : Context = instructions shape slot text count x in
    quiet_then slot x.core y.core (instruction shape slot text y).core (quiet_instructions shape slot text count x) (quiet_instruction shape slot text y)

quiet_phase : (job : JobValue) (c : ℕ) (x : Machine) (d : ℕ) → IsQuiet x.slot (x.cores d) ((phase job c x).cores d)
unfolding phase
quiet_phase job c x = let k : CoreState = (instructions job.shape x.slot (text_of job c) job.shape.quantum (context_of x c)).core in
    at_core (λ d j. IsQuiet x.slot (x.cores d) j) c k x.cores
    (quiet_instructions job.shape x.slot (text_of job c) job.shape.quantum (context_of x c))
    (λ d other. quiet_same x.slot (x.cores d))

pub quiet_phases : (job : JobValue) (count : ℕ) (x : Machine) (d : ℕ) → IsQuiet x.slot (x.cores d) ((phases job count x).cores d)
unfolding phases
quiet_phases job zero x d = quiet_same x.slot (x.cores d)
quiet_phases job (suc count) x d =
    let y : Machine = phases job count x in
    let same : y.slot ≡ x.slot = phases-slot job count x in
    quiet_then x.slot (x.cores d) (y.cores d) ((phase job count y).cores d) (quiet_phases job count x d)
    (subst (λ (s : ℕ). IsQuiet s (y.cores d) ((phase job count y).cores d)) same (quiet_phase job count y d))
