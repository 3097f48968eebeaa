-- The same by the bytes of the files that were read, in the order of opening: which name is opened next, which result comes, or
-- which refusal.
use Rattle.std.specs.Prelude.{◌≡◌, ◌⊎◌, ℕ, ◌+◌, ◌<◌, ◌≤◌, List, [], ◌∷◌, ◌++◌, length, Bool, true, false, Option, None, ⊤}
use Rattle.pmsi_model.specs.declared.Keep.{Keep}
use Rattle.pmsi_model.specs.declared.limits.TheConstants.{MAX_FILE_BYTES}
use Rattle.pmsi_model.specs.declared.job.Geometry.{Geometry}
use Rattle.pmsi_model.specs.Image.{ImageValue}
use Rattle.pmsi_model.specs.Job.{JobValue}
use Rattle.pmsi_model.specs.Listing.{listing_of, summary_of}
use Rattle.pmsi_outside.specs.Files.{Contents}
use Rattle.asm_print.specs.ListingText.{listing_text}
use Rattle.image_file.specs.Format.{image_bytes}
use Rattle.job_text.specs.declared.plan.JobPlan.{JobPlan}
use Rattle.job_text.specs.declared.plan.Program.{Program}
use Rattle.job_text.specs.declared.plan.Program.TheVariants.{Words, Asm, Image}
use Rattle.job_text.specs.Plans.{IsPlanOf, plan_text}
use Rattle.job_text.specs.Generating.{generated}
use Rattle.script_text.specs.declared.command.Command.{Command}
use Rattle.script_text.specs.Output.{output_of}
use Rattle.tool_words.specs.Meaning.{AskedValue, run, sim, trace, asm, dis, image, gen, debug}
use Rattle.tool_files.specs.declared.refusal.Place.{Place}
use Rattle.tool_files.specs.declared.refusal.Place.TheVariants.{Input, Core, Script}
use Rattle.tool_files.specs.declared.refusal.Detail.{Detail}
use Rattle.tool_files.specs.declared.refusal.Detail.TheVariants.{Large}
use Rattle.tool_files.specs.Parsed.{IsSource, SourceFails, IsImageFile, ImageFails, JobFails, image_of_words, IsMachine, MachineFails, IsScript, ScriptFails}
use Rattle.tool_files.specs.Course.{Step, opens, refuses, gives, Reads, keeps_nothing, keeps_actions, actions_text}

-- the bytes of files, in the order in which these were opened
abbrev pub Helds : Type 0
Helds = List (List ℕ)

-- which steps can come behind files of these bytes
abbrev pub Order : Type 0 → Type 1
Order V = Helds → Step V → Type 0

-- ---- stages

abbrev pub last : {V : Type 0} → V → Order V
last value helds step = (helds ≡ []) × (step ≡ gives value)

abbrev pub next_file : {V : Type 0} → Option Contents → Place → List ℕ → (List ℕ → Order V) → Order V
next_file contents place name then [] step = step ≡ opens name
next_file contents place name then (held ∷ helds) step =
    Reads contents name held
    × (((MAX_FILE_BYTES < length held) × (helds ≡ []) × (step ≡ refuses place Large)) ⊎ ((length held ≤ MAX_FILE_BYTES) × then held helds step))

abbrev pub next_checked : {V W : Type 0} → Place → (V → Type 0) → (Detail → Type 0) → (V → Order W) → Order W
next_checked {V} place Is Fails then helds step =
    ((detail : Detail) × Fails detail × (helds ≡ []) × (step ≡ refuses place detail)) ⊎ ((value : V) × Is value × then value helds step)

-- ---- files of a kind

abbrev pub next_source : {V : Type 0} → Option Contents → Place → List ℕ → (ImageValue → Order V) → Order V
next_source contents place name then = next_file contents place name (λ held. next_checked place (IsSource held) (SourceFails held) then)

abbrev pub next_image : {V : Type 0} → Option Contents → Place → List ℕ → (ImageValue → Order V) → Order V
next_image contents place name then = next_file contents place name (λ held. next_checked place (IsImageFile held) (ImageFails held) then)

abbrev pub next_program : {V : Type 0} → Option Contents → ℕ → Program → (ImageValue → Order V) → Order V
next_program contents core (Words words) then = then (image_of_words words)
next_program contents core (Asm name) then = next_source contents (Core core) name then
next_program contents core (Image name) then = next_image contents (Core core) name then

abbrev pub next_programs : {V : Type 0} → Option Contents → ℕ → List Program → List ImageValue → (List ImageValue → Order V) → Order V
next_programs contents core [] images then = then images
next_programs contents core (p ∷ ps) images then = next_program contents core p (λ i. next_programs contents (core + 1) ps (images ++ i ∷ []) then)

abbrev pub next_planned : {V : Type 0} → Option Contents → Keep → (JobValue → Order V) → JobPlan → Order V
next_planned contents keep then plan =
    next_programs contents 0 plan.programs []
    (λ images. next_checked Input (IsMachine keep plan.shape images) (MachineFails keep plan.shape images) then)

abbrev pub next_job : {V : Type 0} → Option Contents → Keep → List ℕ → (JobValue → Order V) → Order V
next_job contents keep name then =
    next_file contents Input name (λ held. next_checked Input (IsPlanOf held) (JobFails held) (next_planned contents keep then))

abbrev pub next_script : {V : Type 0} → Option Contents → List ℕ → Geometry → (List Command → Order V) → Order V
next_script contents name shape then = next_file contents Script name (λ held. next_checked Script (IsScript shape held) (ScriptFails shape held) then)

abbrev pub next_made : Option Contents → Bool → JobPlan → Helds → Step (List ℕ) → Type 0
next_made contents false plan = last (plan_text plan)
next_made contents true plan = next_planned contents keeps_nothing (λ j. last (summary_of j)) plan

-- ---- commands, a row each

-- files of these contents, read in the order of opening, gave these bytes, and then this comes
abbrev pub IsNext : Option Contents → AskedValue → Helds → Step (List ℕ) → Type 0
IsNext contents (run keep name) = next_job contents keep name (λ j. last (listing_of j keep))
IsNext contents (sim workers keep name) = next_job contents keep name (λ j. last (listing_of j keep))
IsNext contents (trace name) = next_job contents keeps_actions name (λ j. last (actions_text j))
IsNext contents (asm name) = next_source contents Input name (λ i. last (image_bytes i))
IsNext contents (dis name) = next_image contents Input name (λ i. last (listing_text i))
IsNext contents (image name) = next_image contents Input name (λ i. last (image_bytes i))
IsNext contents (gen seed cores slots runs) = next_made contents runs (generated seed cores slots)
IsNext contents (debug job script) = next_job contents keeps_nothing job (λ j. next_script contents script j.shape (λ commands. last (output_of j commands)))

-- ---- by the bytes alone

-- what is asked for opens this name behind files of these bytes
abbrev pub Opens : AskedValue → Helds → List ℕ → Type 0
Opens asked helds name = IsNext None asked helds (opens name)

-- comes to this text
abbrev pub IsResultOf : AskedValue → Helds → List ℕ → Type 0
IsResultOf asked helds text = IsNext None asked helds (gives text)

-- is refused
abbrev pub IsRefused : AskedValue → Helds → Place → Detail → Type 0
IsRefused asked helds place detail = IsNext None asked helds (refuses place detail)

-- each of the bytes is that of the name which is opened behind those before it, where contents are told
abbrev pub Follows : Option Contents → AskedValue → Helds → Helds → Type 0
Follows contents asked before [] = ⊤
Follows contents asked before (held ∷ helds) =
    (name : List ℕ) × Opens asked before name × Reads contents name held × Follows contents asked (before ++ held ∷ []) helds
