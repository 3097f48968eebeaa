-- Laws of job texts.
use Rattle.std.specs.Prelude.{◌≡◌, ◌⊎◌, ℕ, List}
use Rattle.job_text.specs.declared.job_fault.JobFault.{JobFault}
use Rattle.job_text.specs.declared.job_fault.JobFault.TheVariants as faults
use Rattle.job_text.specs.declared.plan.JobPlan.{JobPlan}
use Rattle.pmsi_model.specs.declared.job.Geometry.{Geometry}
use Rattle.pmsi_model.specs.Image.{ImageValue}
use Rattle.pmsi_model.specs.Job.{JobValue}
use Rattle.job_text.specs.Joining.{IsJoined, HasJoinFault}
use Rattle.job_text.specs.Plans.{IsPlanOf, HasJobFault, IsPlan, IsPrintable, plan_text}

-- bytes are a text of one plan at most
abbrev pub OnePlan : Type 0
OnePlan = (bytes : List ℕ) (plan other : JobPlan) → IsPlanOf bytes plan → IsPlanOf bytes other → plan ≡ other

-- they have one fault at most
abbrev pub OneFault : Type 0
OneFault = (bytes : List ℕ) (fault other : JobFault) → HasJobFault bytes fault → HasJobFault bytes other → fault ≡ other

-- not both
abbrev pub PlanOrFaultOnly : Type 0
PlanOrFaultOnly = (bytes : List ℕ) (plan : JobPlan) (fault : JobFault) → IsPlanOf bytes plan → HasJobFault bytes fault → ⊥

-- and one of them
abbrev pub PlanOrFault : Type 0
PlanOrFault = (bytes : List ℕ) → ((plan : JobPlan) × IsPlanOf bytes plan) ⊎ ((fault : JobFault) × HasJobFault bytes fault)

-- a text's plan is within the limits
abbrev pub PlansFit : Type 0
PlansFit = (bytes : List ℕ) (plan : JobPlan) → IsPlanOf bytes plan → IsPlan plan

-- want of memory is never what a text has
abbrev pub NeverMemory : Type 0
NeverMemory = (bytes : List ℕ) → HasJobFault bytes faults.NoMemory → ⊥

-- the text of a plan that can be printed means that plan
abbrev pub PrintedMeans : Type 0
PrintedMeans = (plan : JobPlan) → IsPrintable plan → IsPlanOf (plan_text plan) plan

-- ---- joining

-- images give one job at most
abbrev pub OneJob : Type 0
OneJob = (shape : Geometry) (images : List ImageValue) (job other : JobValue) → IsJoined shape images job → IsJoined shape images other → job ≡ other

-- they have one fault at most
abbrev pub OneJoinFault : Type 0
OneJoinFault =
    (shape : Geometry) (images : List ImageValue) (fault other : JobFault) → HasJoinFault shape images fault → HasJoinFault shape images other → fault ≡ other

-- not both
abbrev pub JobOrFaultOnly : Type 0
JobOrFaultOnly =
    (shape : Geometry) (images : List ImageValue) (job : JobValue) (fault : JobFault) → IsJoined shape images job → HasJoinFault shape images fault → ⊥

-- and one of them
abbrev pub JobOrFault : Type 0
JobOrFault =
    (shape : Geometry) (images : List ImageValue) → ((job : JobValue) × IsJoined shape images job) ⊎ ((fault : JobFault) × HasJoinFault shape images fault)

-- want of memory is never what images have
abbrev pub JoinNeverMemory : Type 0
JoinNeverMemory = (shape : Geometry) (images : List ImageValue) → HasJoinFault shape images faults.NoMemory → ⊥
