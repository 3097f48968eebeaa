-- What a core wants: an access that is aligned and within memory, on the line and of the kind that the want names.
use Rattle.std.proofs.Common.{◌≡◌, ℕ, zero, suc, ◌%◌, Option, Some, None, Bool, List, refl, sym, subst}
use Rattle.std.specs.Option.{option_map}
use Rattle.pmsi_model.specs.declared.job.Geometry.{Geometry}
use Rattle.pmsi_model.specs.declared.Action.{Action}
use Rattle.pmsi_model.specs.declared.Action.TheVariants.{Idle, Post, Fill, PostFill, Back}
use Rattle.pmsi_model.specs.declared.Kind.{Kind}
use Rattle.pmsi_model.specs.declared.Want.{Want}
use Rattle.pmsi_model.specs.Geometry.{line_of}
use Rattle.pmsi_model.specs.Job.{JobValue, IsJob, text_of}
use Rattle.pmsi_model.specs.Access.{kind_of}
use Rattle.pmsi_model.specs.Effect.{Effect, Next, Memory, Stop}
use Rattle.pmsi_model.specs.Machine.{Machine, CoreState}
use Rattle.pmsi_model.specs.Phase.{Context, can_run, after_effect, effect_at, accessed, missed, is_permitted, instruction, instructions, context_of, phase, phases}
use Rattle.pmsi_model.specs.Bus.{is_core, post_at, noted_post, kind_of_name, post, fill, fill_for, clear_victim, write_back, action_of, after_action}
use Rattle.pmsi_model.specs.Run.{start_of, after_phases, slot_done, machine_at, slot_owner}
use Rattle.pmsi_model.proofs.Cases.{by_test, at_core}
use Rattle.pmsi_model.proofs.Changes.{posted_core, filled_core, written_core, noted-want}
use Rattle.pmsi_model.proofs.Accesses.{IsFit}
use Rattle.pmsi_model.proofs.Effects.{EffectFits, effect_fits, whole_words}

pub record IsAsked (shape : Geometry) (want : Want) : Type 0 where
  pub fit : IsFit shape.memory want.access
  pub line : want.line ≡ line_of shape want.access.address
  pub kind : want.kind ≡ kind_of want.access.op

abbrev IfAsked : Geometry → Option Want → Type 0
IfAsked shape None = Unit {0}
IfAsked shape (Some want) = IsAsked shape want

-- ---- the phases

effect_asked : (shape : Geometry) (slot : ℕ) (effect : Effect) (x : Context) → EffectFits shape.memory effect → IfAsked shape x.core.want → IfAsked shape (after_effect shape slot effect x).core.want
effect_asked shape slot (Next regs pc) x fit asked = asked
effect_asked shape slot (Stop halt) x fit asked = asked
effect_asked shape slot (Memory access) x fit asked =
    by_test (λ (y : Context). IfAsked shape y.core.want) (is_permitted shape access x.core) (accessed shape access x) (record x { core = missed shape slot access x.core })
    (λ granted. asked) (λ denied. record { fit = fit; line = refl; kind = refl })

instruction_asked : (shape : Geometry) (slot : ℕ) (text : List ℕ) (x : Context) → shape.memory % 4 ≡ 0 → IfAsked shape x.core.want → IfAsked shape (instruction shape slot text x).core.want
unfolding instruction
instruction_asked shape slot text x whole asked =
    by_test (λ (y : Context). IfAsked shape y.core.want) (can_run x.core) (after_effect shape slot (effect_at shape text x.core) x) x
    (λ can. effect_asked shape slot (effect_at shape text x.core) x (effect_fits shape text x.core whole) asked) (λ stays. asked)

instructions_asked : (shape : Geometry) (slot : ℕ) (text : List ℕ) (count : ℕ) (x : Context) → shape.memory % 4 ≡ 0 → IfAsked shape x.core.want → IfAsked shape (instructions shape slot text count x).core.want
unfolding instructions
instructions_asked shape slot text zero x whole asked = asked
instructions_asked shape slot text (suc count) x whole asked =
    instruction_asked shape slot text (instructions shape slot text count x) whole (instructions_asked shape slot text count x whole asked)

-- every core's want
abbrev AllAsked : Geometry → (ℕ → CoreState) → Type 0
AllAsked shape cores = (d : ℕ) → IfAsked shape (cores d).want

phase_asked : (job : JobValue) (c : ℕ) (x : Machine) → job.shape.memory % 4 ≡ 0 → AllAsked job.shape x.cores → AllAsked job.shape (phase job c x).cores
unfolding phase
phase_asked job c x whole asked =
    at_core (λ d k. IfAsked job.shape k.want) c (instructions job.shape x.slot (text_of job c) job.shape.quantum (context_of x c)).core x.cores
    (instructions_asked job.shape x.slot (text_of job c) job.shape.quantum (context_of x c) whole (asked c)) (λ d other. asked d)

phases_asked : (job : JobValue) (count : ℕ) (x : Machine) → job.shape.memory % 4 ≡ 0 → AllAsked job.shape x.cores → AllAsked job.shape (phases job count x).cores
unfolding phases
phases_asked job zero x whole asked = asked
phases_asked job (suc count) x whole asked = phase_asked job count (phases job count x) whole (phases_asked job count x whole asked)

-- ---- the action of a slot

posted_asked : (shape : Geometry) (slot : ℕ) (want : Option Want) → IfAsked shape want → IfAsked shape (option_map (post_at slot) want)
posted_asked shape slot None asked = asked
posted_asked shape slot (Some want) asked = record { fit = asked.fit; line = asked.line; kind = asked.kind }

post_asked : (shape : Geometry) (x : Machine) (c : ℕ) (kind : Kind) (line : ℕ) → AllAsked shape x.cores → AllAsked shape (post x c kind line).cores
unfolding post
post_asked shape x c kind line asked =
    at_core (λ d k. IfAsked shape k.want) c (posted_core x.slot (x.cores c)) (λ d. noted_post kind line (x.cores d))
    (posted_asked shape x.slot (x.cores c).want (asked c)) (λ d other. subst (IfAsked shape) (sym (noted-want kind line (x.cores d))) (asked d))

fill_for_asked : (shape : Geometry) (x : Machine) (c : ℕ) (want : Option Want) → AllAsked shape x.cores → AllAsked shape (fill_for x c want).cores
fill_for_asked shape x c None asked = asked
fill_for_asked shape x c (Some want) asked = at_core (λ d k. IfAsked shape k.want) c (filled_core x c want) x.cores tt (λ d other. asked d)

fill_asked : (shape : Geometry) (x : Machine) (c : ℕ) → AllAsked shape x.cores → AllAsked shape (fill x c).cores
unfolding fill
fill_asked shape x c asked = fill_for_asked shape x c (x.cores c).want asked

cleared_asked : (shape : Geometry) (line : ℕ) (want : Option Want) → IfAsked shape want → IfAsked shape (option_map (clear_victim line) want)
cleared_asked shape line None asked = asked
cleared_asked shape line (Some want) asked =
    by_test (IsAsked shape) (is_core line want.victim) (record want { victim = None }) want
    (λ yes. record { fit = asked.fit; line = asked.line; kind = asked.kind }) (λ no. asked)

back_asked : (shape : Geometry) (x : Machine) (c line : ℕ) (kept : Bool) → AllAsked shape x.cores → AllAsked shape (write_back x c line kept).cores
unfolding write_back
back_asked shape x c line kept asked =
    at_core (λ d k. IfAsked shape k.want) c (written_core line kept (x.cores c)) x.cores (cleared_asked shape line (x.cores c).want (asked c)) (λ d other. asked d)

action_asked : (shape : Geometry) (x : Machine) (c : ℕ) (action : Action) → AllAsked shape x.cores → AllAsked shape (after_action x c action).cores
unfolding after_action
action_asked shape x c Idle asked = asked
action_asked shape x c (Post name line) asked = post_asked shape x c (kind_of_name name) line asked
action_asked shape x c (Fill line) asked = fill_asked shape x c asked
action_asked shape x c (PostFill name line) asked = fill_asked shape (post x c (kind_of_name name) line) c (post_asked shape x c (kind_of_name name) line asked)
action_asked shape x c (Back line kept) asked = back_asked shape x c line kept asked

slot_asked : (job : JobValue) (x : Machine) → job.shape.memory % 4 ≡ 0 → AllAsked job.shape x.cores → AllAsked job.shape (slot_done job x).cores
unfolding slot_done
slot_asked job x whole asked = let y : Machine = after_phases job x in let c : ℕ = slot_owner job x in
    action_asked job.shape y c (action_of job y c) (phases_asked job job.shape.cores x whole asked)

machine_asked : (job : JobValue) → IsJob job → (slot : ℕ) → AllAsked job.shape (machine_at job slot).cores
unfolding machine_at start_of
machine_asked job is zero = λ d. tt
machine_asked job is (suc slot) = slot_asked job (machine_at job slot) (whole_words job.shape.memory job.shape.line_words is.shape.memory) (machine_asked job is slot)

-- ---- at each boundary, and between the phases of a slot

asked_of : (shape : Geometry) (o : Option Want) (want : Want) → o ≡ Some want → IfAsked shape o → IsAsked shape want
asked_of shape o want is asked = let P : Option Want → Type 0 = λ w. IfAsked shape w in let some : IfAsked shape (Some want) = subst P is asked in some

pub want_asked_between : (job : JobValue) → IsJob job → (slot count c : ℕ) (want : Want) → ((phases job count (machine_at job slot)).cores c).want ≡ Some want → IsAsked job.shape want
want_asked_between job is slot count c want wants = asked_of job.shape ((phases job count (machine_at job slot)).cores c).want want wants
    (phases_asked job count (machine_at job slot) (whole_words job.shape.memory job.shape.line_words is.shape.memory) (machine_asked job is slot) c)
