-- How one course goes on in another.
use Rattle.std.proofs.Common.{◌≡◌, inl, inr, subst, ℕ, ◌+◌, ◌≤◌, List, [], ◌∷◌, ◌++◌, arith}
use Rattle.std.specs.Prelude.{Option, ⊤}
use Rattle.pmsi_model.specs.declared.Keep.{Keep}
use Rattle.pmsi_model.specs.Image.{ImageValue}
use Rattle.pmsi_model.specs.Job.{JobValue}
use Rattle.pmsi_outside.specs.Causes.{Rose}
use Rattle.pmsi_outside.specs.Files.{Contents}
use Rattle.job_text.specs.declared.plan.JobPlan.{JobPlan}
use Rattle.job_text.specs.declared.plan.Program.{Program}
use Rattle.job_text.specs.declared.plan.Program.TheVariants.{Words, Asm, Image}
use Rattle.job_text.specs.Plans.{IsPlanOf}
use Rattle.tool_files.specs.declared.refusal.Place.{Place}
use Rattle.tool_files.specs.declared.refusal.Place.TheVariants.{Input, Core}
use Rattle.tool_files.specs.declared.refusal.Detail.{Detail}
use Rattle.tool_files.specs.declared.refusal.Stop.{Stop}
use Rattle.tool_files.specs.declared.refusal.Stop.TheVariants.{ReadFault, Refused, NoMemory}
use Rattle.tool_files.specs.Parsed.{IsSource, SourceFails, IsImageFile, ImageFails, JobFails, image_of_words, IsMachine, MachineFails}
use Rattle.tool_files.specs.Course.{Course, Step, opens, refuses, gives, ends, file, checked, program, programs, planned, job_file}
use Rattle.tool_files.specs.Stops.{FilesCall, Stops, files_call}

module _ {V W : Type 0} where
  -- a name that is opened and a refusal stay what they are
  abbrev pub Passes : Step V → Step W → Type 0
  Passes (opens name) step = step ≡ opens name
  Passes (refuses place detail) step = step ≡ refuses place detail
  Passes (gives value) step = ⊤

  -- and on a value something follows
  abbrev pub After : Step V → (V → Course W) → Course W
  After (opens name) then step = step ≡ opens name
  After (refuses place detail) then step = step ≡ refuses place detail
  After (gives value) then step = then value step

  passes : (first : Step V) (then : V → Course W) (step : Step W) → After first then step → Passes first step
  passes (opens name) then step after = after
  passes (refuses place detail) then step after = after
  passes (gives value) then step after = tt

  value_of : (first : Step V) (then : V → Course W) (step : Step W) (value : V) → After first then step → ends value first → then value step
  value_of first then step value after is = subst (λ (f : Step V). After f then step) is after

  pub file_map : (contents : Option Contents) (place : Place) (name : List ℕ) (inner : List ℕ → Course V) (other : List ℕ → Course W) (first : Step V) (step : Step W)
      → Passes first step → ((held : List ℕ) → inner held first → other held step) → file contents place name inner first → file contents place name other step
  file_map contents place name inner other first step p on (inl is) = inl (subst (λ (f : Step V). Passes f step) is p)
  file_map contents place name inner other first step p on (inr (held, reads, inl (large, is))) = inr (held, reads, inl (large, subst (λ (f : Step V). Passes f step) is p))
  file_map contents place name inner other first step p on (inr (held, reads, inr (small, is))) = inr (held, reads, inr (small, on held is))

  pub checked_map : {X : Type 0} (place : Place) (Is : X → Type 0) (Fails : Detail → Type 0) (inner : X → Course V) (other : X → Course W) (first : Step V) (step : Step W)
      → Passes first step → ((value : X) → inner value first → other value step) → checked place Is Fails inner first → checked place Is Fails other step
  checked_map place Is Fails inner other first step p on (inl (detail, fails, is)) = inl (detail, fails, subst (λ (f : Step V). Passes f step) is p)
  checked_map place Is Fails inner other first step p on (inr (value, is, goes)) = inr (value, is, on value goes)

  -- a file of a kind
  kind_map : {X : Type 0} (contents : Option Contents) (place : Place) (name : List ℕ) (Is : List ℕ → X → Type 0) (Fails : List ℕ → Detail → Type 0) (inner : X → Course V) (other : X → Course W) (first : Step V) (step : Step W)
      → Passes first step → ((value : X) → inner value first → other value step)
      → file contents place name (λ held. checked place (Is held) (Fails held) inner) first → file contents place name (λ held. checked place (Is held) (Fails held) other) step
  kind_map contents place name Is Fails inner other first step p on =
      file_map contents place name (λ held. checked place (Is held) (Fails held) inner) (λ held. checked place (Is held) (Fails held) other) first step p (λ held. checked_map place (Is held) (Fails held) inner other first step p on)

  program_map : (contents : Option Contents) (core : ℕ) (given : Program) (inner : ImageValue → Course V) (other : ImageValue → Course W) (first : Step V) (step : Step W)
      → Passes first step → ((image : ImageValue) → inner image first → other image step) → program contents core given inner first → program contents core given other step
  program_map contents core (Words words) inner other first step p on = on (image_of_words words)
  program_map contents core (Asm name) inner other first step p on = kind_map contents (Core core) name IsSource SourceFails inner other first step p on
  program_map contents core (Image name) inner other first step p on = kind_map contents (Core core) name IsImageFile ImageFails inner other first step p on

  programs_map : (contents : Option Contents) (core : ℕ) (given : List Program) (images : List ImageValue) (inner : List ImageValue → Course V) (other : List ImageValue → Course W) (first : Step V) (step : Step W)
      → Passes first step → ((all : List ImageValue) → inner all first → other all step) → programs contents core given images inner first → programs contents core given images other step
  programs_map contents core [] images inner other first step p on = on images
  programs_map contents core (g ∷ given) images inner other first step p on =
      program_map contents core g (λ i. programs contents (core + 1) given (images ++ i ∷ []) inner) (λ i. programs contents (core + 1) given (images ++ i ∷ []) other) first step p
      (λ i. programs_map contents (core + 1) given (images ++ i ∷ []) inner other first step p on)

  planned_map : (contents : Option Contents) (keep : Keep) (plan : JobPlan) (inner : JobValue → Course V) (other : JobValue → Course W) (first : Step V) (step : Step W)
      → Passes first step → ((job : JobValue) → inner job first → other job step) → planned contents keep inner plan first → planned contents keep other plan step
  planned_map contents keep plan inner other first step p on =
      programs_map contents 0 plan.programs [] (λ images. checked Input (IsMachine keep plan.shape images) (MachineFails keep plan.shape images) inner)
      (λ images. checked Input (IsMachine keep plan.shape images) (MachineFails keep plan.shape images) other) first step p
      (λ images. checked_map Input (IsMachine keep plan.shape images) (MachineFails keep plan.shape images) inner other first step p on)

  -- ---- what follows on a stage that gives a value

  pub kind_on : (contents : Option Contents) (place : Place) (name : List ℕ) (Is : List ℕ → V → Type 0) (Fails : List ℕ → Detail → Type 0) (then : V → Course W) (first : Step V) (step : Step W) → After first then step
      → file contents place name (λ held. checked place (Is held) (Fails held) ends) first → file contents place name (λ held. checked place (Is held) (Fails held) then) step
  kind_on contents place name Is Fails then first step after = kind_map contents place name Is Fails ends then first step (passes first then step after) (λ value. value_of first then step value after)

module _ {W : Type 0} where
  pub file_on : (contents : Option Contents) (place : Place) (name : List ℕ) (then : List ℕ → Course W) (first : Step (List ℕ)) (step : Step W) → After first then step
      → file contents place name ends first → file contents place name then step
  file_on contents place name then first step after = file_map contents place name ends then first step (passes first then step after) (λ held. value_of first then step held after)

  pub program_on : (contents : Option Contents) (core : ℕ) (given : Program) (then : ImageValue → Course W) (first : Step ImageValue) (step : Step W) → After first then step
      → program contents core given ends first → program contents core given then step
  program_on contents core given then first step after = program_map contents core given ends then first step (passes first then step after) (λ image. value_of first then step image after)

  pub programs_on : (contents : Option Contents) (given : List Program) (then : List ImageValue → Course W) (first : Step (List ImageValue)) (step : Step W) → After first then step
      → programs contents 0 given [] ends first → programs contents 0 given [] then step
  programs_on contents given then first step after = programs_map contents 0 given [] ends then first step (passes first then step after) (λ images. value_of first then step images after)

  pub planned_on : (contents : Option Contents) (keep : Keep) (plan : JobPlan) (then : JobValue → Course W) (first : Step JobValue) (step : Step W) → After first then step
      → planned contents keep ends plan first → planned contents keep then plan step
  planned_on contents keep plan then first step after = planned_map contents keep plan ends then first step (passes first then step after) (λ job. value_of first then step job after)

  pub job_on : (contents : Option Contents) (keep : Keep) (name : List ℕ) (then : JobValue → Course W) (first : Step JobValue) (step : Step W) → After first then step
      → job_file contents keep name ends first → job_file contents keep name then step
  job_on contents keep name then first step after =
      kind_map contents Input name IsPlanOf JobFails (planned contents keep ends) (planned contents keep then) first step (passes first then step after)
      (λ plan. planned_on contents keep plan then first step after)

-- ---- what stops a course stops the longer one too

module _ {V W : Type 0} where
  pub stops_on : (course : Course V) (longer : Course W) (earlier : ℕ) (files : FilesCall) (stop : Stop) → earlier ≤ files.before
      → ((name : List ℕ) → course (opens name) → longer (opens name)) → ((place : Place) (detail : Detail) → course (refuses place detail) → longer (refuses place detail))
      → Stops course files stop → Stops longer (files_call files.contents earlier files.now files.blamed) stop
  stops_on course longer earlier files ReadFault less named refused faults =
      record { rose = rose earlier files.before files.now less faults.rose; name = faults.name; opened = named faults.name faults.opened; blame = faults.blame }
    where
      rose : (earlier before now : ℕ) → earlier ≤ before → Rose before now → Rose earlier now
      rose earlier before now less h = omega (arith, less, h)
  stops_on course longer earlier files (Refused place detail) less named refused faults = refused place detail faults
  stops_on course longer earlier files NoMemory less named refused faults = tt
