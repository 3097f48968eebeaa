-- What a command comes to on files: the names that it opens, in order, and its end, which is a refusal or a result. A course
-- is a predicate on these, since a file that tells nothing may have any bytes.
use Rattle.std.specs.Prelude.{◌≡◌, ◌⊎◌, ℕ, ◌+◌, ◌<◌, ◌≤◌, List, [], ◌∷◌, ◌++◌, length, Bool, true, false, Option, ⊤}
use Rattle.pmsi_model.specs.declared.Keep.{Keep}
use Rattle.pmsi_model.specs.declared.limits.TheConstants.{MAX_FILE_BYTES}
use Rattle.pmsi_model.specs.declared.job.Geometry.{Geometry}
use Rattle.pmsi_model.specs.Image.{ImageValue}
use Rattle.pmsi_model.specs.Job.{JobValue}
use Rattle.pmsi_model.specs.Run.{records}
use Rattle.pmsi_model.specs.Listing.{listing_of, summary_of}
use Rattle.pmsi_outside.specs.Files.{Contents, Tells}
use Rattle.asm_print.specs.ListingText.{listing_text}
use Rattle.image_file.specs.Format.{image_bytes}
use Rattle.job_text.specs.declared.plan.JobPlan.{JobPlan}
use Rattle.job_text.specs.declared.plan.Program.{Program}
use Rattle.job_text.specs.declared.plan.Program.TheVariants.{Words, Asm, Image}
use Rattle.job_text.specs.Plans.{IsPlanOf, plan_text}
use Rattle.job_text.specs.Generating.{generated}
use Rattle.trace_text.specs.Text.{trace_of}
use Rattle.script_text.specs.declared.command.Command.{Command}
use Rattle.script_text.specs.Output.{output_of}
use Rattle.tool_words.specs.Meaning.{AskedValue, run, sim, trace, asm, dis, image, gen, debug}
use Rattle.tool_files.specs.declared.refusal.Place.{Place}
use Rattle.tool_files.specs.declared.refusal.Place.TheVariants.{Input, Core, Script}
use Rattle.tool_files.specs.declared.refusal.Detail.{Detail}
use Rattle.tool_files.specs.declared.refusal.Detail.TheVariants.{Large}
use Rattle.tool_files.specs.Parsed.{IsSource, SourceFails, IsImageFile, ImageFails, JobFails, image_of_words, IsMachine, MachineFails, IsScript, ScriptFails}

-- a name that is opened, a refusal with its place, or a result
pub data Step (V : Type 0) : Type 0 where
  opens : List ℕ → Step V
  refuses : Place → Detail → Step V
  gives : V → Step V

-- a course: which steps can come
abbrev pub Course : Type 0 → Type 1
Course V = Step V → Type 0

-- these are the contents of the name, where contents are told
abbrev pub Reads : Option Contents → List ℕ → List ℕ → Type 0
Reads contents name held = Tells contents name (λ told. told ≡ held)

-- ---- stages

-- nothing more is opened
abbrev pub ends : {V : Type 0} → V → Course V
ends value step = step ≡ gives value

-- a file that isn't too large, and then what follows on its bytes
abbrev pub within : {V : Type 0} → Place → (List ℕ → Course V) → List ℕ → Course V
within place then held step = ((MAX_FILE_BYTES < length held) × (step ≡ refuses place Large)) ⊎ ((length held ≤ MAX_FILE_BYTES) × then held step)

-- a file is opened and read, and then what follows on its bytes
abbrev pub file : {V : Type 0} → Option Contents → Place → List ℕ → (List ℕ → Course V) → Course V
file contents place name then step = (step ≡ opens name) ⊎ ((held : List ℕ) × Reads contents name held × within place then held step)

-- something is refused, or gives a value, and then what follows on it
abbrev pub checked : {V W : Type 0} → Place → (V → Type 0) → (Detail → Type 0) → (V → Course W) → Course W
checked {V} place Is Fails then step = ((detail : Detail) × Fails detail × (step ≡ refuses place detail)) ⊎ ((value : V) × Is value × then value step)

-- ---- files of a kind

abbrev pub source_file : {V : Type 0} → Option Contents → Place → List ℕ → (ImageValue → Course V) → Course V
source_file contents place name then = file contents place name (λ held. checked place (IsSource held) (SourceFails held) then)

abbrev pub image_file : {V : Type 0} → Option Contents → Place → List ℕ → (ImageValue → Course V) → Course V
image_file contents place name then = file contents place name (λ held. checked place (IsImageFile held) (ImageFails held) then)

-- the program of a core
abbrev pub program : {V : Type 0} → Option Contents → ℕ → Program → (ImageValue → Course V) → Course V
program contents core (Words words) then = then (image_of_words words)
program contents core (Asm name) then = source_file contents (Core core) name then
program contents core (Image name) then = image_file contents (Core core) name then

-- the programs of a plan, core by core, behind those before
abbrev pub programs : {V : Type 0} → Option Contents → ℕ → List Program → List ImageValue → (List ImageValue → Course V) → Course V
programs contents core [] images then = then images
programs contents core (p ∷ ps) images then = program contents core p (λ i. programs contents (core + 1) ps (images ++ i ∷ []) then)

-- what follows on a plan: its programs, and the job of which so much is to be kept
abbrev pub planned : {V : Type 0} → Option Contents → Keep → (JobValue → Course V) → JobPlan → Course V
planned contents keep then plan =
    programs contents 0 plan.programs [] (λ images. checked Input (IsMachine keep plan.shape images) (MachineFails keep plan.shape images) then)

-- a job's own file
abbrev pub plan_file : {V : Type 0} → Option Contents → List ℕ → (JobPlan → Course V) → Course V
plan_file contents name then = file contents Input name (λ held. checked Input (IsPlanOf held) (JobFails held) then)

-- a job's own file, and then those of its programs
abbrev pub job_file : {V : Type 0} → Option Contents → Keep → List ℕ → (JobValue → Course V) → Course V
job_file contents keep name then = plan_file contents name (planned contents keep then)

-- a script, for a machine of a shape
abbrev pub script_file : {V : Type 0} → Option Contents → List ℕ → Geometry → (List Command → Course V) → Course V
script_file contents name shape then = file contents Script name (λ held. checked Script (IsScript shape held) (ScriptFails shape held) then)

-- ---- made jobs

-- nothing is kept of a run, or its actions alone
abbrev pub keeps_nothing : Keep
keeps_nothing = record { trace = false; touches = false }

abbrev pub keeps_actions : Keep
keeps_actions = record { trace = true; touches = false }

-- a made plan is printed, or its job is run
abbrev pub made : Option Contents → Bool → JobPlan → Step (List ℕ) → Type 0
made contents false plan = ends (plan_text plan)
made contents true plan = planned contents keeps_nothing (λ j. ends (summary_of j)) plan

-- ---- commands, a row each

-- the text of the actions of a job's run
abbrev pub actions_text : JobValue → List ℕ
actions_text job = trace_of (record { cores = job.shape.cores; actions = records job job.shape.slots })

abbrev pub Comes : Option Contents → AskedValue → Step (List ℕ) → Type 0
Comes contents (run keep name) = job_file contents keep name (λ j. ends (listing_of j keep))
Comes contents (sim workers keep name) = job_file contents keep name (λ j. ends (listing_of j keep))
Comes contents (trace name) = job_file contents keeps_actions name (λ j. ends (actions_text j))
Comes contents (asm name) = source_file contents Input name (λ i. ends (image_bytes i))
Comes contents (dis name) = image_file contents Input name (λ i. ends (listing_text i))
Comes contents (image name) = image_file contents Input name (λ i. ends (image_bytes i))
Comes contents (gen seed cores slots runs) = made contents runs (generated seed cores slots)
Comes contents (debug job script) = job_file contents keeps_nothing job (λ j. script_file contents script j.shape (λ commands. ends (output_of j commands)))

-- a refusal or a result
abbrev pub IsEnd : {V : Type 0} → Step V → Type 0
IsEnd (opens name) = ⊥
IsEnd step = ⊤
