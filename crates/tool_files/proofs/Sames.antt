-- A course is an order of some bytes.
use Rattle.std.proofs.Common.{inl, inr, refl, ℕ, ◌+◌, List, [], ◌∷◌, ◌++◌, true, false}
use Rattle.std.specs.Prelude.{Option}
use Rattle.pmsi_model.specs.declared.Keep.{Keep}
use Rattle.pmsi_model.specs.declared.job.Geometry.{Geometry}
use Rattle.pmsi_model.specs.Image.{ImageValue}
use Rattle.pmsi_model.specs.Job.{JobValue}
use Rattle.pmsi_model.specs.Listing.{listing_of, summary_of}
use Rattle.pmsi_outside.specs.Files.{Contents}
use Rattle.asm_print.specs.ListingText.{listing_text}
use Rattle.image_file.specs.Format.{image_bytes}
use Rattle.job_text.specs.declared.plan.JobPlan.{JobPlan}
use Rattle.job_text.specs.declared.plan.Program.{Program}
use Rattle.job_text.specs.declared.plan.Program.TheVariants.{Words, Asm, Image}
use Rattle.job_text.specs.Plans.{IsPlanOf, plan_text}
use Rattle.job_text.specs.Generating.{generated}
use Rattle.script_text.specs.declared.command.Command.{Command}
use Rattle.script_text.specs.Output.{output_of}
use Rattle.tool_words.specs.Meaning.{AskedValue, run, sim, trace, asm, dis, image, gen, debug}
use Rattle.tool_files.specs.declared.refusal.Place.{Place}
use Rattle.tool_files.specs.declared.refusal.Place.TheVariants.{Input, Core, Script}
use Rattle.tool_files.specs.declared.refusal.Detail.{Detail}
use Rattle.tool_files.specs.declared.refusal.Detail.TheVariants as detail
use Rattle.tool_files.specs.Parsed.{IsSource, SourceFails, IsImageFile, ImageFails, JobFails, image_of_words, IsMachine, MachineFails, IsScript, ScriptFails}
use Rattle.tool_files.specs.Course.{Course, Step, ends, file, checked, script_file, program, programs, planned, job_file, keeps_nothing, keeps_actions, actions_text, Comes}
use Rattle.tool_files.specs.Ordered.{Order, Helds, last, next_file, next_checked, next_program, next_programs, next_script, next_planned, next_job, IsNext}
use Rattle.tool_files.specs.Laws.{SameCourse}

module _ {V : Type 0} where
  record Same (course : Course V) (order : Order V) : Type 0 where
    there : (step : Step V) → course step → (helds : Helds) × order helds step
    back : (step : Step V) (helds : Helds) → order helds step → course step

  last_same : (value : V) → Same (ends value) (last value)
  last_same value = record { there = λ step is. ([], (refl, is)); back = λ step helds is. is.1 }

module _ {V : Type 0} (contents : Option Contents) where
  file_same : (place : Place) (name : List ℕ) (inner : List ℕ → Course V) (then : List ℕ → Order V) → ((held : List ℕ) → Same (inner held) (then held))
      → Same (file contents place name inner) (next_file contents place name then)
  file_same place name inner then same = record { there = there; back = back }
    where
      there : (step : Step V) → file contents place name inner step → (helds : Helds) × next_file contents place name then helds step
      there step (inl is) = ([], is)
      there step (inr (held, reads, inl (large, is))) = (held ∷ [], (reads, inl (large, refl, is)))
      there step (inr (held, reads, inr (small, is))) = let t = (same held).there step is in (held ∷ t.0, (reads, inr (small, t.1)))

      back : (step : Step V) (helds : Helds) → next_file contents place name then helds step → file contents place name inner step
      back step [] is = inl is
      back step (held ∷ helds) (reads, inl is) = inr (held, reads, inl (is.0, is.2))
      back step (held ∷ helds) (reads, inr is) = inr (held, reads, inr (is.0, (same held).back step helds is.1))

  checked_same : {X : Type 0} (place : Place) (Is : X → Type 0) (Fails : Detail → Type 0) (inner : X → Course V) (then : X → Order V) → ((value : X) → Same (inner value) (then value))
      → Same (checked place Is Fails inner) (next_checked place Is Fails then)
  checked_same place Is Fails inner then same = record { there = there; back = back }
    where
      there : (step : Step V) → checked place Is Fails inner step → (helds : Helds) × next_checked place Is Fails then helds step
      there step (inl (d, fails, is)) = ([], inl (d, fails, refl, is))
      there step (inr (value, valid, is)) = let t = (same value).there step is in (t.0, inr (value, valid, t.1))

      back : (step : Step V) (helds : Helds) → next_checked place Is Fails then helds step → checked place Is Fails inner step
      back step helds (inl (d, fails, none, is)) = inl (d, fails, is)
      back step helds (inr (value, valid, is)) = inr (value, valid, (same value).back step helds is)

  kind_same : {X : Type 0} (place : Place) (name : List ℕ) (Is : List ℕ → X → Type 0) (Fails : List ℕ → Detail → Type 0) (inner : X → Course V) (then : X → Order V) → ((value : X) → Same (inner value) (then value))
      → Same (file contents place name (λ held. checked place (Is held) (Fails held) inner)) (next_file contents place name (λ held. next_checked place (Is held) (Fails held) then))
  kind_same place name Is Fails inner then same =
      file_same place name (λ held. checked place (Is held) (Fails held) inner) (λ held. next_checked place (Is held) (Fails held) then) (λ held. checked_same place (Is held) (Fails held) inner then same)

  script_same : (name : List ℕ) (shape : Geometry) (inner : List Command → Course V) (then : List Command → Order V) → ((c : List Command) → Same (inner c) (then c)) → Same (script_file contents name shape inner) (next_script contents name shape then)
  script_same name shape inner then same = kind_same Script name (IsScript shape) (ScriptFails shape) inner then same

  program_same : (core : ℕ) (given : Program) (inner : ImageValue → Course V) (then : ImageValue → Order V) → ((i : ImageValue) → Same (inner i) (then i)) → Same (program contents core given inner) (next_program contents core given then)
  program_same core (Words words) inner then same = same (image_of_words words)
  program_same core (Asm name) inner then same = kind_same (Core core) name IsSource SourceFails inner then same
  program_same core (Image name) inner then same = kind_same (Core core) name IsImageFile ImageFails inner then same

  programs_same : (core : ℕ) (given : List Program) (images : List ImageValue) (inner : List ImageValue → Course V) (then : List ImageValue → Order V) → ((all : List ImageValue) → Same (inner all) (then all))
      → Same (programs contents core given images inner) (next_programs contents core given images then)
  programs_same core [] images inner then same = same images
  programs_same core (g ∷ given) images inner then same =
      program_same core g (λ i. programs contents (core + 1) given (images ++ i ∷ []) inner) (λ i. next_programs contents (core + 1) given (images ++ i ∷ []) then)
      (λ i. programs_same (core + 1) given (images ++ i ∷ []) inner then same)

  planned_same : (keep : Keep) (plan : JobPlan) (inner : JobValue → Course V) (then : JobValue → Order V) → ((j : JobValue) → Same (inner j) (then j)) → Same (planned contents keep inner plan) (next_planned contents keep then plan)
  planned_same keep plan inner then same = programs_same 0 plan.programs [] (λ images. checked Input (IsMachine keep plan.shape images) (MachineFails keep plan.shape images) inner)
      (λ images. next_checked Input (IsMachine keep plan.shape images) (MachineFails keep plan.shape images) then)
      (λ images. checked_same Input (IsMachine keep plan.shape images) (MachineFails keep plan.shape images) inner then same)

  job_same : (keep : Keep) (name : List ℕ) (inner : JobValue → Course V) (then : JobValue → Order V) → ((j : JobValue) → Same (inner j) (then j)) → Same (job_file contents keep name inner) (next_job contents keep name then)
  job_same keep name inner then same = kind_same Input name IsPlanOf JobFails (planned contents keep inner) (next_planned contents keep then) (λ plan. planned_same keep plan inner then same)

-- a row a command
same_for : (contents : Option Contents) (asked : AskedValue) → Same (Comes contents asked) (IsNext contents asked)
same_for contents (run keep name) = job_same contents keep name (λ j. ends (listing_of j keep)) (λ j. last (listing_of j keep)) (λ j. last_same (listing_of j keep))
same_for contents (sim workers keep name) = job_same contents keep name (λ j. ends (listing_of j keep)) (λ j. last (listing_of j keep)) (λ j. last_same (listing_of j keep))
same_for contents (trace name) = job_same contents keeps_actions name (λ j. ends (actions_text j)) (λ j. last (actions_text j)) (λ j. last_same (actions_text j))
same_for contents (asm name) = kind_same contents Input name IsSource SourceFails (λ i. ends (image_bytes i)) (λ i. last (image_bytes i)) (λ i. last_same (image_bytes i))
same_for contents (dis name) = kind_same contents Input name IsImageFile ImageFails (λ i. ends (listing_text i)) (λ i. last (listing_text i)) (λ i. last_same (listing_text i))
same_for contents (image name) = kind_same contents Input name IsImageFile ImageFails (λ i. ends (image_bytes i)) (λ i. last (image_bytes i)) (λ i. last_same (image_bytes i))
same_for contents (gen seed cores slots false) = last_same (plan_text (generated seed cores slots))
same_for contents (gen seed cores slots true) =
    planned_same contents keeps_nothing (generated seed cores slots) (λ j. ends (summary_of j)) (λ j. last (summary_of j)) (λ j. last_same (summary_of j))
same_for contents (debug job script) =
    job_same contents keeps_nothing job (λ j. script_file contents script j.shape (λ commands. ends (output_of j commands)))
    (λ j. next_script contents script j.shape (λ commands. last (output_of j commands)))
    (λ j. script_same contents script j.shape (λ commands. ends (output_of j commands)) (λ commands. last (output_of j commands)) (λ commands. last_same (output_of j commands)))

pub same_course : SameCourse
same_course contents asked step = ((same_for contents asked).there step, λ given. (same_for contents asked).back step given.0 given.1)
