-- A command comes to one end.
use Rattle.std.proofs.Common.{◌≡◌, ◌∙◌, inl, inr, ap, sym, subst, ℕ, ◌+◌, List, [], ◌∷◌, ◌++◌, true, false, arith}
use Rattle.std.specs.Prelude.{Option, Some, None, IsSomeAnd}
use Rattle.pmsi_model.specs.declared.Keep.{Keep}
use Rattle.pmsi_model.specs.declared.job.Geometry.{Geometry}
use Rattle.pmsi_model.specs.Image.{ImageValue}
use Rattle.pmsi_model.specs.Job.{JobValue}
use Rattle.pmsi_model.specs.Listing.{listing_of, summary_of}
use Rattle.pmsi_outside.specs.Files.{Contents}
use Rattle.asm_print.specs.ListingText.{listing_text}
use Rattle.image_file.specs.Format.{image_bytes}
use Rattle.job_text.specs.declared.plan.JobPlan.{JobPlan}
use Rattle.job_text.specs.declared.plan.Program.{Program}
use Rattle.job_text.specs.declared.plan.Program.TheVariants.{Words, Asm, Image}
use Rattle.job_text.specs.Plans.{IsPlanOf, plan_text}
use Rattle.job_text.specs.Generating.{generated}
use Rattle.script_text.specs.declared.command.Command.{Command}
use Rattle.script_text.specs.Output.{output_of}
use Rattle.tool_words.specs.Meaning.{run, sim, trace, asm, dis, image, gen, debug}
use Rattle.tool_files.specs.declared.refusal.Place.{Place}
use Rattle.tool_files.specs.declared.refusal.Place.TheVariants.{Input, Core, Script}
use Rattle.tool_files.specs.declared.refusal.Detail.{Detail}
use Rattle.tool_files.specs.declared.refusal.Detail.TheVariants as detail
use Rattle.tool_files.specs.Parsed.{IsSource, SourceFails, IsImageFile, ImageFails, JobFails, image_of_words, IsMachine, MachineFails, IsScript, ScriptFails}
use Rattle.tool_files.specs.Course.{Course, Step, opens, refuses, ends, within, file, checked, source_file, image_file, program, programs, script_file, planned, job_file, keeps_nothing, keeps_actions, actions_text, IsEnd}
use Rattle.tool_files.specs.Laws.{OneEnd}
use Rattle.tool_files.proofs.Settled.{Settled, source_settled, image_settled, script_settled, plan_settled, machine_settled}

same_told : (told : Option (List ℕ)) (held other : List ℕ) → IsSomeAnd told (λ t. t ≡ held) → IsSomeAnd told (λ t. t ≡ other) → held ≡ other
same_told None held other h o = absurd h
same_told (Some told) held other h o = sym h ∙ o

module _ {V : Type 0} where
  abbrev pub OnlyEnd : Course V → Type 0
  OnlyEnd course = (step other : Step V) → IsEnd step → IsEnd other → course step → course other → step ≡ other

  no_opening : (step : Step V) (name : List ℕ) → IsEnd step → step ≡ opens name → ⊥
  no_opening step name end is = subst (λ (s : Step V). IsEnd s) is end

  pub end_ends : (value : V) → OnlyEnd (ends value)
  end_ends value step other e f is at = is ∙ sym at

  within_end : (place : Place) (then : List ℕ → Course V) (held : List ℕ) → OnlyEnd (then held) → OnlyEnd (within place then held)
  within_end place then held only step other e f (inl (large, is)) (inl (big, at)) = is ∙ sym at
  within_end place then held only step other e f (inl (large, is)) (inr (small, at)) = absurd (omega (arith, large, small))
  within_end place then held only step other e f (inr (small, is)) (inl (large, at)) = absurd (omega (arith, large, small))
  within_end place then held only step other e f (inr (small, is)) (inr (less, at)) = only step other e f is at

  file_end : (contents : Contents) (place : Place) (name : List ℕ) (then : List ℕ → Course V) → ((held : List ℕ) → OnlyEnd (then held)) → OnlyEnd (file (Some contents) place name then)
  file_end contents place name then only step other e f (inl is) at = absurd (no_opening step name e is)
  file_end contents place name then only step other e f (inr is) (inl at) = absurd (no_opening other name f at)
  file_end contents place name then only step other e f (inr (held, reads, is)) (inr (held', reads', at)) =
      let same : held' ≡ held = same_told (contents name) held' held reads' reads in
      within_end place then held (only held) step other e f is (subst (λ (h : List ℕ). within place then h other) same at)

  checked_end : {X : Type 0} (place : Place) (Is : X → Type 0) (Fails : Detail → Type 0) (then : X → Course V) → Settled Is Fails → ((value : X) → OnlyEnd (then value)) → OnlyEnd (checked place Is Fails then)
  checked_end place Is Fails then settled only step other e f (inl (d, fails, is)) (inl (d', fails', at)) = is ∙ ap (λ (x : Detail). refuses place x) (settled.one_detail d d' fails fails') ∙ sym at
  checked_end place Is Fails then settled only step other e f (inl (d, fails, is)) (inr (value, valid, at)) = absurd (settled.not_both value d valid fails)
  checked_end place Is Fails then settled only step other e f (inr (value, valid, is)) (inl (d, fails, at)) = absurd (settled.not_both value d valid fails)
  checked_end {X} place Is Fails then settled only step other e f (inr (value, valid, is)) (inr (value', valid', at)) =
      only value step other e f is (subst (λ (v : X). then v other) (settled.one_value value' value valid' valid) at)

  kind_end : {X : Type 0} (contents : Contents) (place : Place) (name : List ℕ) (Is : List ℕ → X → Type 0) (Fails : List ℕ → Detail → Type 0) (then : X → Course V)
      → ((held : List ℕ) → Settled (Is held) (Fails held)) → ((value : X) → OnlyEnd (then value)) → OnlyEnd (file (Some contents) place name (λ held. checked place (Is held) (Fails held) then))
  kind_end contents place name Is Fails then settled only =
      file_end contents place name (λ held. checked place (Is held) (Fails held) then) (λ held. checked_end place (Is held) (Fails held) then (settled held) only)

  source_end : (contents : Contents) (place : Place) (name : List ℕ) (then : ImageValue → Course V) → ((i : ImageValue) → OnlyEnd (then i)) → OnlyEnd (source_file (Some contents) place name then)
  source_end contents place name then = kind_end contents place name IsSource SourceFails then source_settled

  image_end : (contents : Contents) (place : Place) (name : List ℕ) (then : ImageValue → Course V) → ((i : ImageValue) → OnlyEnd (then i)) → OnlyEnd (image_file (Some contents) place name then)
  image_end contents place name then = kind_end contents place name IsImageFile ImageFails then image_settled

  script_end : (contents : Contents) (name : List ℕ) (shape : Geometry) (then : List Command → Course V) → ((c : List Command) → OnlyEnd (then c)) → OnlyEnd (script_file (Some contents) name shape then)
  script_end contents name shape then = kind_end contents Script name (IsScript shape) (ScriptFails shape) then (script_settled shape)

  program_end : (contents : Contents) (core : ℕ) (given : Program) (then : ImageValue → Course V) → ((i : ImageValue) → OnlyEnd (then i)) → OnlyEnd (program (Some contents) core given then)
  program_end contents core (Words words) then only = only (image_of_words words)
  program_end contents core (Asm name) then only = source_end contents (Core core) name then only
  program_end contents core (Image name) then only = image_end contents (Core core) name then only

  programs_end : (contents : Contents) (core : ℕ) (given : List Program) (images : List ImageValue) (then : List ImageValue → Course V) → ((all : List ImageValue) → OnlyEnd (then all)) → OnlyEnd (programs (Some contents) core given images then)
  programs_end contents core [] images then only = only images
  programs_end contents core (g ∷ given) images then only =
      program_end contents core g (λ i. programs (Some contents) (core + 1) given (images ++ i ∷ []) then) (λ i. programs_end contents (core + 1) given (images ++ i ∷ []) then only)

  planned_end : (contents : Contents) (keep : Keep) (plan : JobPlan) (then : JobValue → Course V) → ((j : JobValue) → OnlyEnd (then j)) → OnlyEnd (planned (Some contents) keep then plan)
  planned_end contents keep plan then only = programs_end contents 0 plan.programs [] (λ images. checked Input (IsMachine keep plan.shape images) (MachineFails keep plan.shape images) then)
      (λ images. checked_end Input (IsMachine keep plan.shape images) (MachineFails keep plan.shape images) then (machine_settled keep plan.shape images) only)

  job_end : (contents : Contents) (keep : Keep) (name : List ℕ) (then : JobValue → Course V) → ((j : JobValue) → OnlyEnd (then j)) → OnlyEnd (job_file (Some contents) keep name then)
  job_end contents keep name then only = kind_end contents Input name IsPlanOf JobFails (planned (Some contents) keep then) plan_settled (λ plan. planned_end contents keep plan then only)

-- a row a command
pub one_end : OneEnd
one_end contents (run keep name) = job_end contents keep name (λ j. ends (listing_of j keep)) (λ j. end_ends (listing_of j keep))
one_end contents (sim workers keep name) = job_end contents keep name (λ j. ends (listing_of j keep)) (λ j. end_ends (listing_of j keep))
one_end contents (trace name) = job_end contents keeps_actions name (λ j. ends (actions_text j)) (λ j. end_ends (actions_text j))
one_end contents (asm name) = source_end contents Input name (λ i. ends (image_bytes i)) (λ i. end_ends (image_bytes i))
one_end contents (dis name) = image_end contents Input name (λ i. ends (listing_text i)) (λ i. end_ends (listing_text i))
one_end contents (image name) = image_end contents Input name (λ i. ends (image_bytes i)) (λ i. end_ends (image_bytes i))
one_end contents (gen seed cores slots false) = end_ends (plan_text (generated seed cores slots))
one_end contents (gen seed cores slots true) = planned_end contents keeps_nothing (generated seed cores slots) (λ j. ends (summary_of j)) (λ j. end_ends (summary_of j))
one_end contents (debug job script) =
    job_end contents keeps_nothing job (λ j. script_file (Some contents) script j.shape (λ commands. ends (output_of j commands)))
    (λ j. script_end contents script j.shape (λ commands. ends (output_of j commands)) (λ commands. end_ends (output_of j commands)))
