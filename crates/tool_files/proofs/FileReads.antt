-- What the readers of files come to.
use Rattle.std.proofs.Common.{◌≡◌, ◌∙◌, inl, inr, refl, sym, subst, ap, ℕ, suc, ◌+◌, ◌≤◌, ◌<◌, List, [], ◌∷◌, ◌++◌, length, replicate, drop, get_or, add-one, arith}
use Rattle.std.proofs.Math.Seq.{drop-cons}
use Rattle.std.proofs.lemmas.List.{length-replicate}
use Rattle.std.specs.Prelude.{Option, Some, None, IsSomeAnd}
use Rattle.pmsi_model.specs.declared.Keep.{Keep}
use Rattle.pmsi_model.specs.Image.{ImageValue}
use Rattle.pmsi_model.specs.Job.{JobValue}
use Rattle.pmsi_outside.specs.Files.{Contents, Tells}
use Rattle.job_text.specs.declared.plan.JobPlan.{JobPlan}
use Rattle.job_text.specs.declared.plan.Program.{Program}
use Rattle.job_text.specs.Plans.{IsPlanOf}
use Rattle.tool_files.specs.declared.refusal.Place.{Place}
use Rattle.tool_files.specs.declared.refusal.Place.TheVariants.{Input}
use Rattle.tool_files.specs.declared.refusal.Detail.{Detail}
use Rattle.tool_files.specs.declared.refusal.Stop.{Stop}
use Rattle.tool_files.specs.declared.refusal.Stop.TheVariants.{ReadFault, Refused, NoMemory}
use Rattle.tool_files.specs.Parsed.{JobFails, IsMachine, MachineFails}
use Rattle.tool_files.specs.Course.{Step, opens, refuses, gives, Reads, ends, file, checked, program, programs, planned, plan_file, job_file}
use Rattle.tool_files.specs.Stops.{FilesCall, Stops, StopsAt, files_call}
use Rattle.tool_files.proofs.Courses.{After, file_on, kind_on, program_on, programs_on, stops_on}

-- ---- a file that is too large

large_told : (most : ℕ) (told : Option (List ℕ)) → IsSomeAnd told (λ held. most < length held) → (x : List ℕ) × IsSomeAnd told (λ t. t ≡ x) × most < length x
large_told most None large = absurd large
large_told most (Some held) large = (held, refl, large)

long : (most : ℕ) → most < length {A = ℕ} (replicate (most + 1) 0)
long most = rw (length-replicate {A = ℕ} (most + 1) 0) (omega arith)

-- where a file is too large, some bytes that it can have are
pub large_held : (most : ℕ) (contents : Option Contents) (name : List ℕ) → Tells contents name (λ held. most < length held) → (x : List ℕ) × Reads contents name x × most < length x
large_held most None name large = (replicate (most + 1) 0, tt, long most)
large_held most (Some contents) name large = large_told most (contents name) large

-- ---- a file of a kind

module _ {X : Type 0} (contents : Option Contents) (place : Place) (name held : List ℕ) (Is : List ℕ → X → Type 0) (Fails : List ℕ → Detail → Type 0) where
  -- the bytes are those of a value
  pub kind_value : (value : X) → file contents place name ends (gives held) → Is held value → file contents place name (λ h. checked place (Is h) (Fails h) ends) (gives value)
  kind_value value read valid = file_on contents place name (λ h. checked place (Is h) (Fails h) ends) (gives held) (gives value) (inr (value, valid, refl)) read

  -- the file can't be read
  pub kind_unread : (files : FilesCall) (stop : Stop) → Stops (file contents place name ends) files stop
      → Stops (file contents place name (λ h. checked place (Is h) (Fails h) (ends {V = X}))) (files_call files.contents files.before files.now files.blamed) stop
  kind_unread files stop = stops_on (file contents place name ends) (file contents place name (λ h. checked place (Is h) (Fails h) (ends {V = X}))) files.before files stop (omega arith)
      (λ n. file_on contents place name (λ h. checked place (Is h) (Fails h) (ends {V = X})) (opens n) (opens n) refl)
      (λ p d. file_on contents place name (λ h. checked place (Is h) (Fails h) (ends {V = X})) (refuses p d) (refuses p d) refl)

  -- the bytes are refused
  pub kind_refused : (files : FilesCall) (stop : Stop) → file contents place name ends (gives held) → StopsAt place (Fails held) stop
      → Stops (file contents place name (λ h. checked place (Is h) (Fails h) (ends {V = X}))) files stop
  kind_refused files ReadFault read stops = absurd stops
  kind_refused files (Refused at detail) read stops =
      subst (λ (p : Place). file contents place name (λ h. checked place (Is h) (Fails h) (ends {V = X})) (refuses p detail)) (sym stops.0)
      (file_on contents place name (λ h. checked place (Is h) (Fails h) (ends {V = X})) (gives held) (refuses place detail) (inl (detail, stops.1, refl)) read)
  kind_refused files NoMemory read stops = tt

-- ---- programs, one after another

pub given_dropped : (given : List Program) (index : ℕ) (g : Program) → index < length given → g ≡ get_or given index g → drop index given ≡ g ∷ drop (index + 1) given
given_dropped given index g below is = rw add-one (drop-cons given index g below ∙ ap (λ (p : Program). p ∷ drop (suc index) given) (sym is))

-- a core's program was read, and then those of the next cores
pub core_read : (contents : Option Contents) (given : List Program) (core index : ℕ) (g : Program) (image : ImageValue) (images : List ImageValue) (step : Step (List ImageValue)) → drop index given ≡ g ∷ drop (index + 1) given
    → program contents core g ends (gives image) → programs contents (core + 1) (drop (index + 1) given) (images ++ image ∷ []) ends step
    → programs contents core (drop index given) images ends step
core_read contents given core index g image images step is read goes =
    subst (λ (ps : List Program). programs contents core ps images ends step) (sym is)
    (program_on contents core g (λ i. programs contents (core + 1) (drop (index + 1) given) (images ++ i ∷ []) ends) (gives image) step goes read)

-- a core's program stops the run
pub core_stops : (contents : Option Contents) (given : List Program) (core index : ℕ) (g : Program) (images : List ImageValue) (earlier : ℕ) (files : FilesCall) (stop : Stop) → drop index given ≡ g ∷ drop (index + 1) given
    → earlier ≤ files.before → Stops (program contents core g ends) files stop
    → ((step : Step (List ImageValue)) → programs contents core (drop index given) images ends step → programs contents 0 given [] ends step)
    → Stops (programs contents 0 given [] ends) (files_call files.contents earlier files.now files.blamed) stop
core_stops contents given core index g images earlier files stop is less stops course =
    let on : (step : Step ImageValue) (end : Step (List ImageValue)) → After step (λ i. programs contents (core + 1) (drop (index + 1) given) (images ++ i ∷ []) ends) end → program contents core g ends step → programs contents 0 given [] ends end
    = λ step end after goes. course end (subst (λ (ps : List Program). programs contents core ps images ends end) (sym is)
    (program_on contents core g (λ i. programs contents (core + 1) (drop (index + 1) given) (images ++ i ∷ []) ends) step end after goes)) in
    stops_on (program contents core g ends) (programs contents 0 given [] ends) earlier files stop less
    (λ n. on (opens n) (opens n) refl) (λ p d. on (refuses p d) (refuses p d) refl) stops

-- ---- a plan

module _ (contents : Option Contents) (keep : Keep) where
  abbrev machine : JobPlan → List ImageValue → Step JobValue → Type 0
  machine plan images = checked Input (IsMachine keep plan.shape images) (MachineFails keep plan.shape images) ends

  programs_then : (plan : JobPlan) (first : Step (List ImageValue)) (step : Step JobValue) → After first (machine plan) step → programs contents 0 plan.programs [] ends first → planned contents keep ends plan step
  programs_then plan first step after goes = programs_on contents plan.programs (machine plan) first step after goes

  -- its programs were read, and their images give a job
  pub programs_read : (plan : JobPlan) (images : List ImageValue) (job : JobValue) → programs contents 0 plan.programs [] ends (gives images)
      → IsMachine keep plan.shape images job → planned contents keep ends plan (gives job)
  programs_read plan images job goes is = programs_then plan (gives images) (gives job) (inr (job, is, refl)) goes

  -- its programs can't be read
  pub programs_unread : (plan : JobPlan) (files : FilesCall) (stop : Stop)
      → Stops (programs contents 0 plan.programs [] ends) files stop → Stops (planned contents keep ends plan) (files_call files.contents files.before files.now files.blamed) stop
  programs_unread plan files stop = stops_on (programs contents 0 plan.programs [] ends) (planned contents keep ends plan) files.before files stop (omega arith)
      (λ n goes. programs_then plan (opens n) (opens n) refl goes)
      (λ p d goes. programs_then plan (refuses p d) (refuses p d) refl goes)

  -- their images give no job
  pub machine_refused : (plan : JobPlan) (images : List ImageValue) (files : FilesCall) (stop : Stop) → programs contents 0 plan.programs [] ends (gives images)
      → StopsAt Input (MachineFails keep plan.shape images) stop → Stops (planned contents keep ends plan) files stop
  machine_refused plan images files ReadFault goes stops = absurd stops
  machine_refused plan images files (Refused at detail) goes stops =
      subst (λ (p : Place). planned contents keep ends plan (refuses p detail)) (sym stops.0)
      (programs_then plan (gives images) (refuses Input detail) (inl (detail, stops.1, refl)) goes)
  machine_refused plan images files NoMemory goes stops = tt

-- ---- a job

module _ (contents : Option Contents) (keep : Keep) (name : List ℕ) where
  -- a plan was read, and then its programs
  pub plan_read : (plan : JobPlan) (step : Step JobValue) → plan_file contents name ends (gives plan) → planned contents keep ends plan step → job_file contents keep name ends step
  plan_read plan step read goes = kind_on contents Input name IsPlanOf JobFails (planned contents keep ends) (gives plan) step goes read

  -- the plan can't be read
  pub plan_unread : (files : FilesCall) (stop : Stop) → Stops (plan_file contents name ends) files stop → Stops (job_file contents keep name ends) (files_call files.contents files.before files.now files.blamed) stop
  plan_unread files stop = stops_on (plan_file contents name ends) (job_file contents keep name ends) files.before files stop (omega arith)
      (λ n. kind_on contents Input name IsPlanOf JobFails (planned contents keep ends) (opens n) (opens n) refl)
      (λ p d. kind_on contents Input name IsPlanOf JobFails (planned contents keep ends) (refuses p d) (refuses p d) refl)

  -- the plan was read, and its programs can't be read, or give no job
  pub planned_stops : (plan : JobPlan) (earlier : ℕ) (files : FilesCall) (stop : Stop) → earlier ≤ files.before → plan_file contents name ends (gives plan)
      → Stops (planned contents keep ends plan) files stop → Stops (job_file contents keep name ends) (files_call files.contents earlier files.now files.blamed) stop
  planned_stops plan earlier files stop less read = stops_on (planned contents keep ends plan) (job_file contents keep name ends) earlier files stop less
      (λ n goes. plan_read plan (opens n) read goes)
      (λ p d goes. plan_read plan (refuses p d) read goes)
