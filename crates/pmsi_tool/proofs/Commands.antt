-- What commands come to, by what their files are.
use Rattle.std.proofs.Common.{◌≡◌, ap, refl, ℕ, ◌≤◌, List, arith}
use Rattle.std.specs.Prelude.{Option}
use Rattle.pmsi_model.specs.declared.Keep.{Keep}
use Rattle.pmsi_model.specs.Image.{ImageValue}
use Rattle.pmsi_model.specs.Job.{JobValue, IsJob}
use Rattle.pmsi_model.specs.Listing.{listing_of, summary_of}
use Rattle.pmsi_outside.specs.Files.{Contents}
use Rattle.image_file.specs.Format.{image_bytes}
use Rattle.job_text.specs.declared.plan.JobPlan.{JobPlan}
use Rattle.script_text.specs.declared.command.Command.{Command}
use Rattle.script_text.specs.Output.{output_of}
use Rattle.tool_words.specs.Meaning.{run, sim, trace, image, debug}
use Rattle.tool_files.specs.declared.refusal.Place.TheVariants.{Input, Script}
use Rattle.tool_files.specs.declared.refusal.Stop.{Stop}
use Rattle.tool_files.specs.Course.{opens, refuses, gives, ends, job_file, image_file, script_file, planned, keeps_nothing, keeps_actions, actions_text}
use Rattle.tool_files.specs.Parsed.{IsImageFile, ImageFails, IsScript, ScriptFails}
use Rattle.tool_files.specs.Stops.{Stops, files_call}
use Rattle.tool_files.proofs.Exports.{job_on, kind_on, planned_on, stops_on}
use Rattle.pmsi_tool.specs.Answers.{GivesText, StopsOn}
use Rattle.pmsi_tool.proofs.Causes.{faithful}

module _ (contents : Option Contents) (before now : ℕ) (blamed : Option (List ℕ)) (stop : Stop) where
  -- what is made of a job, by its files or by its plan
  job_stops : (keep : Keep) (name : List ℕ) (text : JobValue → List ℕ) → Stops (job_file contents keep name ends) (files_call contents before now blamed) stop
      → Stops (job_file contents keep name (λ j. ends (text j))) (files_call contents before now blamed) stop
  job_stops keep name text = stops_on (job_file contents keep name ends) (job_file contents keep name (λ j. ends (text j))) before (files_call contents before now blamed) stop (omega arith)
      (λ n. job_on contents keep name (λ j. ends (text j)) (opens n) (opens n) refl) (λ p d. job_on contents keep name (λ j. ends (text j)) (refuses p d) (refuses p d) refl)

  pub summary_stops : (plan : JobPlan) → Stops (planned contents keeps_nothing ends plan) (files_call contents before now blamed) stop
      → Stops (planned contents keeps_nothing (λ j. ends (summary_of j)) plan) (files_call contents before now blamed) stop
  summary_stops plan = stops_on (planned contents keeps_nothing ends plan) (planned contents keeps_nothing (λ j. ends (summary_of j)) plan) before (files_call contents before now blamed) stop (omega arith)
      (λ n. planned_on contents keeps_nothing plan (λ j. ends (summary_of j)) (opens n) (opens n) refl)
      (λ p d. planned_on contents keeps_nothing plan (λ j. ends (summary_of j)) (refuses p d) (refuses p d) refl)

  pub run_stops : (keep : Keep) (name : List ℕ) → Stops (job_file contents keep name ends) (files_call contents before now blamed) stop → StopsOn (run keep name) (files_call contents before now blamed) stop
  run_stops keep name = job_stops keep name (λ j. listing_of j keep)

  pub sim_stops : (workers : ℕ) (keep : Keep) (name : List ℕ) → Stops (job_file contents keep name ends) (files_call contents before now blamed) stop → StopsOn (sim workers keep name) (files_call contents before now blamed) stop
  sim_stops workers keep name = run_stops keep name

  pub trace_stops : (name : List ℕ) → Stops (job_file contents keeps_actions name ends) (files_call contents before now blamed) stop → StopsOn (trace name) (files_call contents before now blamed) stop
  trace_stops name = job_stops keeps_actions name actions_text

  pub debug_stops : (job script : List ℕ) → Stops (job_file contents keeps_nothing job ends) (files_call contents before now blamed) stop → StopsOn (debug job script) (files_call contents before now blamed) stop
  debug_stops job script = stops_on (job_file contents keeps_nothing job ends) (job_file contents keeps_nothing job (λ j. script_file contents script j.shape (λ commands. ends (output_of j commands)))) before (files_call contents before now blamed) stop (omega arith)
      (λ n. job_on contents keeps_nothing job (λ j. script_file contents script j.shape (λ commands. ends (output_of j commands))) (opens n) (opens n) refl)
      (λ p d. job_on contents keeps_nothing job (λ j. script_file contents script j.shape (λ commands. ends (output_of j commands))) (refuses p d) (refuses p d) refl)

  pub script_stops : (job script : List ℕ) (j : JobValue) (earlier : ℕ) → earlier ≤ before → job_file contents keeps_nothing job ends (gives j)
      → Stops (script_file contents script j.shape ends) (files_call contents before now blamed) stop → StopsOn (debug job script) (files_call contents earlier now blamed) stop
  script_stops job script j earlier less read =
      stops_on (script_file contents script j.shape ends) (job_file contents keeps_nothing job (λ j. script_file contents script j.shape (λ commands. ends (output_of j commands)))) earlier (files_call contents before now blamed) stop less
      (λ n goes. job_on contents keeps_nothing job (λ j. script_file contents script j.shape (λ commands. ends (output_of j commands))) (gives j) (opens n)
      (kind_on contents Script script (IsScript j.shape) (ScriptFails j.shape) (λ commands. ends (output_of j commands)) (opens n) (opens n) refl goes) read)
      (λ p d goes. job_on contents keeps_nothing job (λ j. script_file contents script j.shape (λ commands. ends (output_of j commands))) (gives j) (refuses p d)
      (kind_on contents Script script (IsScript j.shape) (ScriptFails j.shape) (λ commands. ends (output_of j commands)) (refuses p d) (refuses p d) refl goes) read)

module _ (contents : Option Contents) (name text : List ℕ) where
  pub run_text : (keep : Keep) (job : JobValue) → IsJob job → job_file contents keep name ends (gives job) → text ≡ listing_of job keep → GivesText contents (run keep name) text
  run_text keep job valid read is = record {
    comes = job_on contents keep name (λ j. ends (listing_of j keep)) (gives job) (gives text) (ap gives is) read;
    faithful = record { job = job; read = read; listing = is; faithful = faithful job valid };
  }

  pub sim_text : (workers : ℕ) (keep : Keep) (job : JobValue) → IsJob job → job_file contents keep name ends (gives job) → text ≡ listing_of job keep → GivesText contents (sim workers keep name) text
  sim_text workers keep job valid read is = let ran = run_text keep job valid read is in record { comes = ran.comes; faithful = ran.faithful }

  pub trace_text : (job : JobValue) → job_file contents keeps_actions name ends (gives job) → text ≡ actions_text job → GivesText contents (trace name) text
  trace_text job read is = record { comes = job_on contents keeps_actions name (λ j. ends (actions_text j)) (gives job) (gives text) (ap gives is) read; faithful = tt }

  pub image_text : (i : ImageValue) → image_file contents Input name ends (gives i) → text ≡ image_bytes i → GivesText contents (image name) text
  image_text i read is = record { comes = kind_on contents Input name IsImageFile ImageFails (λ i. ends (image_bytes i)) (gives i) (gives text) (ap gives is) read; faithful = tt }

module _ (contents : Option Contents) (text : List ℕ) where
  -- a plan's job was run
  pub summary_text : (plan : JobPlan) (job : JobValue) → planned contents keeps_nothing ends plan (gives job) → text ≡ summary_of job
      → planned contents keeps_nothing (λ j. ends (summary_of j)) plan (gives text)
  summary_text plan job read is = planned_on contents keeps_nothing plan (λ j. ends (summary_of j)) (gives job) (gives text) (ap gives is) read

  pub debug_text : (job script : List ℕ) (j : JobValue) (commands : List Command) → job_file contents keeps_nothing job ends (gives j)
      → script_file contents script j.shape ends (gives commands) → text ≡ output_of j commands → GivesText contents (debug job script) text
  debug_text job script j commands read goes is = record {
    comes = job_on contents keeps_nothing job (λ k. script_file contents script k.shape (λ cs. ends (output_of k cs))) (gives j) (gives text)
        (kind_on contents Script script (IsScript j.shape) (ScriptFails j.shape) (λ cs. ends (output_of j cs)) (gives commands) (gives text) (ap gives is) goes) read;
    faithful = tt;
  }
