-- What comes on the bytes of files in the order of opening: one thing, and always something.
use Rattle.std.proofs.Common.{◌≡◌, ◌∙◌, ◌⊎◌, inl, inr, ap, sym, refl, subst, ℕ, ◌+◌, ◌≤◌, ◌<◌, List, [], ◌∷◌, ◌++◌, length, true, false, arith}
use Rattle.std.proofs.lemmas.Bool.{cases_lt}
use Rattle.std.specs.Prelude.{Option, None}
use Rattle.std.specs.List.{All}
use Rattle.pmsi_model.specs.declared.limits.TheConstants.{MAX_FILE_BYTES}
use Rattle.pmsi_model.specs.declared.Keep.{Keep}
use Rattle.pmsi_model.specs.declared.job.Geometry.{Geometry}
use Rattle.pmsi_model.specs.Image.{ImageValue}
use Rattle.pmsi_model.specs.Job.{JobValue}
use Rattle.pmsi_model.specs.Listing.{listing_of, summary_of}
use Rattle.pmsi_outside.specs.Files.{Contents}
use Rattle.asm_print.specs.ListingText.{listing_text}
use Rattle.image_file.specs.Format.{image_bytes}
use Rattle.job_text.specs.declared.plan.JobPlan.{JobPlan}
use Rattle.job_text.specs.declared.plan.Program.{Program}
use Rattle.job_text.specs.declared.plan.Program.TheVariants.{Words, Asm, Image}
use Rattle.job_text.specs.Plans.{IsPlanOf, plan_text}
use Rattle.job_text.specs.Generating.{generated}
use Rattle.script_text.specs.declared.command.Command.{Command}
use Rattle.script_text.specs.Output.{output_of}
use Rattle.tool_words.specs.Meaning.{AskedValue, run, sim, trace, asm, dis, image, gen, debug}
use Rattle.tool_files.specs.declared.refusal.Place.{Place}
use Rattle.tool_files.specs.declared.refusal.Place.TheVariants.{Input, Core, Script}
use Rattle.tool_files.specs.declared.refusal.Detail.{Detail}
use Rattle.tool_files.specs.declared.refusal.Detail.TheVariants as detail
use Rattle.tool_files.specs.Parsed.{IsSource, SourceFails, IsImageFile, ImageFails, JobFails, image_of_words, IsMachine, MachineFails, IsScript, ScriptFails}
use Rattle.tool_files.specs.Course.{Step, opens, refuses, gives, keeps_nothing, keeps_actions, actions_text}
use Rattle.tool_files.specs.Ordered.{Order, Helds, last, next_file, next_checked, next_source, next_image, next_program, next_programs, next_script, next_planned, next_job, IsNext}
use Rattle.tool_files.specs.Laws.{OneNext, SomeFirst, SomeNext}
use Rattle.tool_files.proofs.Settled.{Settled, Decided, source_settled, image_settled, script_settled, plan_settled, machine_settled, source_decided, image_decided, script_decided, plan_decided, machine_decided}

-- ---- one thing comes

module _ {V : Type 0} where
  abbrev pub Only : Order V → Type 0
  Only order = (helds : Helds) (step other : Step V) → order helds step → order helds other → step ≡ other

  last_only : (value : V) → Only (last value)
  last_only value helds step other is at = is.1 ∙ sym at.1

  file_only : (contents : Option Contents) (place : Place) (name : List ℕ) (then : List ℕ → Order V) → ((held : List ℕ) → Only (then held)) → Only (next_file contents place name then)
  file_only contents place name then only [] step other is at = is ∙ sym at
  file_only contents place name then only (held ∷ helds) step other (reads, inl is) (reads', inl at) = is.2 ∙ sym at.2
  file_only contents place name then only (held ∷ helds) step other (reads, inl is) (reads', inr at) = absurd (omega (arith, is.0, at.0))
  file_only contents place name then only (held ∷ helds) step other (reads, inr is) (reads', inl at) = absurd (omega (arith, is.0, at.0))
  file_only contents place name then only (held ∷ helds) step other (reads, inr is) (reads', inr at) = only held helds step other is.1 at.1

  checked_only : {X : Type 0} (place : Place) (Is : X → Type 0) (Fails : Detail → Type 0) (then : X → Order V) → Settled Is Fails → ((value : X) → Only (then value)) → Only (next_checked place Is Fails then)
  checked_only place Is Fails then settled only helds step other (inl (d, fails, none, is)) (inl (d', fails', none', at)) = is ∙ ap (λ (x : Detail). refuses place x) (settled.one_detail d d' fails fails') ∙ sym at
  checked_only place Is Fails then settled only helds step other (inl (d, fails, none, is)) (inr (value, valid, at)) = absurd (settled.not_both value d valid fails)
  checked_only place Is Fails then settled only helds step other (inr (value, valid, is)) (inl (d, fails, none, at)) = absurd (settled.not_both value d valid fails)
  checked_only {X} place Is Fails then settled only helds step other (inr (value, valid, is)) (inr (value', valid', at)) =
      only value helds step other is (subst (λ (v : X). then v helds other) (settled.one_value value' value valid' valid) at)

  kind_only : {X : Type 0} (contents : Option Contents) (place : Place) (name : List ℕ) (Is : List ℕ → X → Type 0) (Fails : List ℕ → Detail → Type 0) (then : X → Order V)
      → ((held : List ℕ) → Settled (Is held) (Fails held)) → ((value : X) → Only (then value)) → Only (next_file contents place name (λ held. next_checked place (Is held) (Fails held) then))
  kind_only contents place name Is Fails then settled only =
      file_only contents place name (λ held. next_checked place (Is held) (Fails held) then) (λ held. checked_only place (Is held) (Fails held) then (settled held) only)

  source_only : (contents : Option Contents) (place : Place) (name : List ℕ) (then : ImageValue → Order V) → ((i : ImageValue) → Only (then i)) → Only (next_source contents place name then)
  source_only contents place name then = kind_only contents place name IsSource SourceFails then source_settled

  image_only : (contents : Option Contents) (place : Place) (name : List ℕ) (then : ImageValue → Order V) → ((i : ImageValue) → Only (then i)) → Only (next_image contents place name then)
  image_only contents place name then = kind_only contents place name IsImageFile ImageFails then image_settled

  script_only : (contents : Option Contents) (name : List ℕ) (shape : Geometry) (then : List Command → Order V) → ((c : List Command) → Only (then c)) → Only (next_script contents name shape then)
  script_only contents name shape then = kind_only contents Script name (IsScript shape) (ScriptFails shape) then (script_settled shape)

  program_only : (contents : Option Contents) (core : ℕ) (given : Program) (then : ImageValue → Order V) → ((i : ImageValue) → Only (then i)) → Only (next_program contents core given then)
  program_only contents core (Words words) then only = only (image_of_words words)
  program_only contents core (Asm name) then only = source_only contents (Core core) name then only
  program_only contents core (Image name) then only = image_only contents (Core core) name then only

  programs_only : (contents : Option Contents) (core : ℕ) (given : List Program) (images : List ImageValue) (then : List ImageValue → Order V) → ((all : List ImageValue) → Only (then all)) → Only (next_programs contents core given images then)
  programs_only contents core [] images then only = only images
  programs_only contents core (g ∷ given) images then only =
      program_only contents core g (λ i. next_programs contents (core + 1) given (images ++ i ∷ []) then) (λ i. programs_only contents (core + 1) given (images ++ i ∷ []) then only)

  planned_only : (contents : Option Contents) (keep : Keep) (plan : JobPlan) (then : JobValue → Order V) → ((j : JobValue) → Only (then j)) → Only (next_planned contents keep then plan)
  planned_only contents keep plan then only = programs_only contents 0 plan.programs [] (λ images. next_checked Input (IsMachine keep plan.shape images) (MachineFails keep plan.shape images) then)
      (λ images. checked_only Input (IsMachine keep plan.shape images) (MachineFails keep plan.shape images) then (machine_settled keep plan.shape images) only)

  job_only : (contents : Option Contents) (keep : Keep) (name : List ℕ) (then : JobValue → Order V) → ((j : JobValue) → Only (then j)) → Only (next_job contents keep name then)
  job_only contents keep name then only = kind_only contents Input name IsPlanOf JobFails (next_planned contents keep then) plan_settled (λ plan. planned_only contents keep plan then only)

-- a row a command
pub one_next : OneNext
one_next contents (run keep name) = job_only contents keep name (λ j. last (listing_of j keep)) (λ j. last_only (listing_of j keep))
one_next contents (sim workers keep name) = job_only contents keep name (λ j. last (listing_of j keep)) (λ j. last_only (listing_of j keep))
one_next contents (trace name) = job_only contents keeps_actions name (λ j. last (actions_text j)) (λ j. last_only (actions_text j))
one_next contents (asm name) = source_only contents Input name (λ i. last (image_bytes i)) (λ i. last_only (image_bytes i))
one_next contents (dis name) = image_only contents Input name (λ i. last (listing_text i)) (λ i. last_only (listing_text i))
one_next contents (image name) = image_only contents Input name (λ i. last (image_bytes i)) (λ i. last_only (image_bytes i))
one_next contents (gen seed cores slots false) = last_only (plan_text (generated seed cores slots))
one_next contents (gen seed cores slots true) = planned_only contents keeps_nothing (generated seed cores slots) (λ j. last (summary_of j)) (λ j. last_only (summary_of j))
one_next contents (debug job script) =
    job_only contents keeps_nothing job (λ j. next_script contents script j.shape (λ commands. last (output_of j commands)))
    (λ j. script_only contents script j.shape (λ commands. last (output_of j commands)) (λ commands. last_only (output_of j commands)))

-- ---- something comes

abbrev AreBytes : List ℕ → Type 0
AreBytes held = All (λ byte. byte < 256) held

module _ {V : Type 0} where
  abbrev Begins : Order V → Type 0
  Begins order = (step : Step V) × order [] step

  abbrev GoesOn : Order V → Type 0
  GoesOn order = (helds : Helds) (name held : List ℕ) → AreBytes held → order helds (opens name) → (step : Step V) × order (helds ++ held ∷ []) step

  -- something comes at first, and behind each file
  record Whole (order : Order V) : Type 0 where
    begins : Begins order
    goes_on : GoesOn order

  last_whole : (value : V) → Whole (last value)
  last_whole value = record { begins = (gives value, (refl, refl)); goes_on = λ helds name held bytes is. absurd (opens_no name value is.1) }
    where
      opens_no : (name : List ℕ) (value : V) → opens name ≡ gives value → ⊥
      opens_no name value e = cc

  file_whole : (place : Place) (name : List ℕ) (then : List ℕ → Order V) → ((held : List ℕ) → AreBytes held → Begins (then held)) → ((held : List ℕ) → GoesOn (then held)) → Whole (next_file None place name then)
  file_whole place name then begins goes = record { begins = (opens name, refl); goes_on = on }
    where
      first : (held : List ℕ) → AreBytes held → (MAX_FILE_BYTES < length held) ⊎ (length held ≤ MAX_FILE_BYTES) → (step : Step V) × next_file None place name then (held ∷ []) step
      first held bytes (inl large) = (refuses place detail.Large, (tt, inl (large, refl, refl)))
      first held bytes (inr small) = let b = begins held bytes in (b.0, (tt, inr (small, b.1)))

      size : (n : ℕ) → (MAX_FILE_BYTES < n) ⊎ (n ≤ MAX_FILE_BYTES)
      size n = elim (cases_lt MAX_FILE_BYTES n) [ inl below ↦ inl below | inr above ↦ inr (omega arith) ]

      on : GoesOn (next_file None place name then)
      on [] other held bytes is = first held bytes (size (length held))
      on (front ∷ helds) other held bytes (reads, inl is) = absurd (cc)
      on (front ∷ helds) other held bytes (reads, inr is) = let b = goes front helds other held bytes is.1 in (b.0, (tt, inr (is.0, b.1)))

  checked_begins : {X : Type 0} (place : Place) (Is : X → Type 0) (Fails : Detail → Type 0) (then : X → Order V) → Decided Is Fails → ((value : X) → Is value → Begins (then value)) → Begins (next_checked place Is Fails then)
  checked_begins place Is Fails then (inl (value, is)) begins = let b = begins value is in (b.0, inr (value, is, b.1))
  checked_begins place Is Fails then (inr (d, fails)) begins = (refuses place d, inl (d, fails, refl, refl))

  checked_on : {X : Type 0} (place : Place) (Is : X → Type 0) (Fails : Detail → Type 0) (then : X → Order V) → ((value : X) → Is value → GoesOn (then value)) → GoesOn (next_checked place Is Fails then)
  checked_on place Is Fails then goes helds name held bytes (inl (d, fails, none, is)) = absurd (cc)
  checked_on place Is Fails then goes helds name held bytes (inr (value, valid, is)) = let b = goes value valid helds name held bytes is in (b.0, inr (value, valid, b.1))

  kind_whole : {X : Type 0} (place : Place) (name : List ℕ) (Is : List ℕ → X → Type 0) (Fails : List ℕ → Detail → Type 0) (then : X → Order V) → ((held : List ℕ) → AreBytes held → Decided (Is held) (Fails held))
      → ((held : List ℕ) (value : X) → Is held value → Whole (then value)) → Whole (next_file None place name (λ held. next_checked place (Is held) (Fails held) then))
  kind_whole place name Is Fails then decided whole =
      file_whole place name (λ held. next_checked place (Is held) (Fails held) then)
      (λ held bytes. checked_begins place (Is held) (Fails held) then (decided held bytes) (λ value is. (whole held value is).begins))
      (λ held. checked_on place (Is held) (Fails held) then (λ value is. (whole held value is).goes_on))

  source_whole : (place : Place) (name : List ℕ) (then : ImageValue → Order V) → ((i : ImageValue) → Whole (then i)) → Whole (next_source None place name then)
  source_whole place name then whole = kind_whole place name IsSource SourceFails then (λ held bytes. source_decided held) (λ held i is. whole i)

  image_whole : (place : Place) (name : List ℕ) (then : ImageValue → Order V) → ((i : ImageValue) → Whole (then i)) → Whole (next_image None place name then)
  image_whole place name then whole = kind_whole place name IsImageFile ImageFails then image_decided (λ held i is. whole i)

  script_whole : (name : List ℕ) (shape : Geometry) (then : List Command → Order V) → ((c : List Command) → Whole (then c)) → Whole (next_script None name shape then)
  script_whole name shape then whole = kind_whole Script name (IsScript shape) (ScriptFails shape) then (λ held bytes. script_decided shape held) (λ held c is. whole c)

  program_whole : (core : ℕ) (given : Program) (then : ImageValue → Order V) → ((i : ImageValue) → Whole (then i)) → Whole (next_program None core given then)
  program_whole core (Words words) then whole = whole (image_of_words words)
  program_whole core (Asm name) then whole = source_whole (Core core) name then whole
  program_whole core (Image name) then whole = image_whole (Core core) name then whole

  programs_whole : (core : ℕ) (given : List Program) (images : List ImageValue) (then : List ImageValue → Order V) → ((all : List ImageValue) → Whole (then all)) → Whole (next_programs None core given images then)
  programs_whole core [] images then whole = whole images
  programs_whole core (g ∷ given) images then whole =
      program_whole core g (λ i. next_programs None (core + 1) given (images ++ i ∷ []) then) (λ i. programs_whole (core + 1) given (images ++ i ∷ []) then whole)

  machine_whole : (keep : Keep) (plan : JobPlan) (then : JobValue → Order V) → ((j : JobValue) → Whole (then j)) → (images : List ImageValue)
      → Whole (next_checked Input (IsMachine keep plan.shape images) (MachineFails keep plan.shape images) then)
  machine_whole keep plan then whole images = record {
    begins = checked_begins Input (IsMachine keep plan.shape images) (MachineFails keep plan.shape images) then (machine_decided keep plan.shape images) (λ j made. (whole j).begins);
    goes_on = checked_on Input (IsMachine keep plan.shape images) (MachineFails keep plan.shape images) then (λ j made. (whole j).goes_on);
  }

  planned_whole : (keep : Keep) (plan : JobPlan) (then : JobValue → Order V) → ((j : JobValue) → Whole (then j)) → Whole (next_planned None keep then plan)
  planned_whole keep plan then whole = programs_whole 0 plan.programs [] (λ images. next_checked Input (IsMachine keep plan.shape images) (MachineFails keep plan.shape images) then) (machine_whole keep plan then whole)

  job_whole : (keep : Keep) (name : List ℕ) (then : JobValue → Order V) → ((j : JobValue) → Whole (then j)) → Whole (next_job None keep name then)
  job_whole keep name then whole = kind_whole Input name IsPlanOf JobFails (next_planned None keep then) (λ held bytes. plan_decided held) (λ held plan is. planned_whole keep plan then whole)

-- a row a command
whole_for : (asked : AskedValue) → Whole (IsNext None asked)
whole_for (run keep name) = job_whole keep name (λ j. last (listing_of j keep)) (λ j. last_whole (listing_of j keep))
whole_for (sim workers keep name) = job_whole keep name (λ j. last (listing_of j keep)) (λ j. last_whole (listing_of j keep))
whole_for (trace name) = job_whole keeps_actions name (λ j. last (actions_text j)) (λ j. last_whole (actions_text j))
whole_for (asm name) = source_whole Input name (λ i. last (image_bytes i)) (λ i. last_whole (image_bytes i))
whole_for (dis name) = image_whole Input name (λ i. last (listing_text i)) (λ i. last_whole (listing_text i))
whole_for (image name) = image_whole Input name (λ i. last (image_bytes i)) (λ i. last_whole (image_bytes i))
whole_for (gen seed cores slots false) = last_whole (plan_text (generated seed cores slots))
whole_for (gen seed cores slots true) = planned_whole keeps_nothing (generated seed cores slots) (λ j. last (summary_of j)) (λ j. last_whole (summary_of j))
whole_for (debug job script) =
    job_whole keeps_nothing job (λ j. next_script None script j.shape (λ commands. last (output_of j commands)))
    (λ j. script_whole script j.shape (λ commands. last (output_of j commands)) (λ commands. last_whole (output_of j commands)))

pub some_first : SomeFirst
some_first asked = (whole_for asked).begins

pub some_next : SomeNext
some_next asked helds name held bytes is = (whole_for asked).goes_on helds name held bytes is
