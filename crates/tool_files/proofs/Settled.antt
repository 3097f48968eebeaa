-- What bytes are taken for is settled: it is one value, or one refusal.
use Rattle.std.proofs.Common.{◌≡◌, ◌∙◌, ◌⊎◌, inl, inr, ap, sym, refl, ℕ, ◌≤◌, ◌<◌, List, arith, Bool, true, false}
use Rattle.std.proofs.lemmas.Bool.{cases_lt}
use Rattle.std.proofs.lemmas.Str.{IsUtf8-from_is_utf8, is_utf8-from_IsUtf8}
use Rattle.std.specs.List.{All}
use Rattle.std.specs.Prelude.{Option, Some, Result, Ok, Err, unwrap_or}
use Rattle.std.specs.Str.{IsUtf8, is_utf8}
use Rattle.pmsi_model.specs.declared.job.Geometry.{Geometry}
use Rattle.pmsi_model.specs.declared.limits.TheConstants.{MAX_TOUCHES}
use Rattle.pmsi_model.specs.Geometry.{CanKeep, most_touches}
use Rattle.asm_parse.specs.declared.fault.AsmFault.{AsmFault}
use Rattle.asm_parse.specs.declared.fault.AsmFault.TheVariants.{At, NoMemory}
use Rattle.asm_parse.specs.Assembly.{IsAssembled, HasAsmFault}
use Rattle.asm_link.proofs.Exports.{one_image as one_assembled, no_fault, image_or_fault as assembled_or_not, never_memory as never_asm_memory}
use Rattle.image_file.proofs.Exports.{either as image_or_not, not_both as not_both_images, one_image}
use Rattle.image_file.specs.declared.fault.ImageFault.{ImageFault}
use Rattle.image_file.specs.Checks.{HasFault}
use Rattle.job_text.proofs.Exports.{plan_or_not, join_or_not, one_plan, one_fault, not_both_plans, one_job, one_join_fault, not_both_joins}
use Rattle.job_text.specs.declared.job_fault.JobFault.{JobFault}
use Rattle.pmsi_model.specs.declared.Keep.{Keep}
use Rattle.pmsi_model.specs.Image.{ImageValue}
use Rattle.pmsi_model.specs.Job.{JobValue}
use Rattle.job_text.specs.declared.plan.JobPlan.{JobPlan}
use Rattle.job_text.specs.declared.plan.Program.TheVariants.{Image}
use Rattle.job_text.specs.Plans.{IsPlanOf, HasJobFault}
use Rattle.job_text.specs.Joining.{IsJoined, HasJoinFault}
use Rattle.tool_files.specs.declared.refusal.Detail.{Detail}
use Rattle.tool_files.specs.declared.refusal.Detail.TheVariants as detail
use Rattle.script_text.specs.declared.command.Command.{Command}
use Rattle.script_text.specs.declared.fault.ScriptFault.{ScriptFault}
use Rattle.script_text.specs.Script.{script_of}
use Rattle.tool_files.specs.Parsed.{IsSource, SourceFails, IsImageFile, ImageFails, JobFails, IsMachine, MachineFails, IsScript, ScriptFails}

no_both : (b : Bool) → b ≡ true → b ≡ false → ⊥
no_both true yes_ no_ = absurd (cc)
no_both false yes_ no_ = absurd (cc)

same_some : {A : Type 0} (x y : A) → ◌≡◌ {A = Option A} (Some x) (Some y) → x ≡ y
same_some x y e = ap (λ o. unwrap_or o x) e

-- a value and its refusals exclude each other, and each is one
pub record Settled {X : Type 0} (Is : X → Type 0) (Fails : Detail → Type 0) : Type 0 where
  pub one_value : (value other : X) → Is value → Is other → value ≡ other
  pub one_detail : (d e : Detail) → Fails d → Fails e → d ≡ e
  pub not_both : (value : X) (d : Detail) → Is value → Fails d → ⊥

-- there is a value, or a refusal
abbrev pub Decided : {X : Type 0} (Is : X → Type 0) (Fails : Detail → Type 0) → Type 0
Decided {X} Is Fails = ((value : X) × Is value) ⊎ ((d : Detail) × Fails d)

-- ---- a source

source_detail : (held : List ℕ) (d e : Detail) → SourceFails held d → SourceFails held e → d ≡ e
source_detail held detail.NotText detail.NotText f g = refl
source_detail held detail.NotText (detail.Source line cause) f g = absurd (f g.0)
source_detail held (detail.Source line cause) detail.NotText f g = absurd (g f.0)
source_detail held (detail.Source line cause) (detail.Source other reason) f g = ap said (sym f.1 ∙ g.1)
  where
    said : Option AsmFault → Detail
    said (Some (At l c)) = detail.Source l c
    said other = detail.NotText
source_detail held detail.NotText e f g = absurd g
source_detail held (detail.Source line cause) e f g = absurd g
source_detail held d e f g = absurd f

source_apart : (held : List ℕ) (i : ImageValue) (d : Detail) → IsSource held i → SourceFails held d → ⊥
source_apart held i detail.NotText is f = f is.utf8
source_apart held i (detail.Source line cause) is f = no_fault held i (At line cause) is.assembled f.1
source_apart held i d is f = f

pub source_settled : (held : List ℕ) → Settled (IsSource held) (SourceFails held)
source_settled held = record {
  one_value = λ i j a b. one_assembled held i j a.assembled b.assembled;
  one_detail = source_detail held;
  not_both = source_apart held;
}

pub source_decided : (held : List ℕ) → Decided (IsSource held) (SourceFails held)
source_decided held = by_text (is_utf8 held) refl
  where
    by_image : IsUtf8 held → ((i : ImageValue) × IsAssembled held i) ⊎ ((fault : AsmFault) × HasAsmFault held fault) → Decided (IsSource held) (SourceFails held)
    by_image utf8 (inl (i, is)) = inl (i, record { utf8 = utf8; assembled = is })
    by_image utf8 (inr (At line cause, fails)) = inr (detail.Source line cause, (utf8, fails))
    by_image utf8 (inr (NoMemory, fails)) = absurd (never_asm_memory held fails)

    by_text : (b : Bool) → is_utf8 held ≡ b → Decided (IsSource held) (SourceFails held)
    by_text true e = by_image (IsUtf8-from_is_utf8 held e) (assembled_or_not held)
    by_text false e = inr (detail.NotText, λ utf8. absurd (no_both (is_utf8 held) (is_utf8-from_IsUtf8 held utf8) e))

-- ---- an image

image_detail : (held : List ℕ) (d e : Detail) → ImageFails held d → ImageFails held e → d ≡ e
image_detail held (detail.Image fault) (detail.Image other) f g = ap detail.Image (same_some fault other (sym f ∙ g))
image_detail held (detail.Image fault) e f g = absurd g
image_detail held d e f g = absurd f

image_apart : (held : List ℕ) (i : ImageValue) (d : Detail) → IsImageFile held i → ImageFails held d → ⊥
image_apart held i (detail.Image fault) is f = not_both_images i fault held is f
image_apart held i d is f = f

pub image_settled : (held : List ℕ) → Settled (IsImageFile held) (ImageFails held)
image_settled held = record {
  one_value = λ i j a b. one_image i j held a b;
  one_detail = image_detail held;
  not_both = image_apart held;
}

pub image_decided : (held : List ℕ) → All (λ byte. byte < 256) held → Decided (IsImageFile held) (ImageFails held)
image_decided held bytes = go (image_or_not held bytes)
  where
    go : ((i : ImageValue) × IsImageFile held i) ⊎ ((fault : ImageFault) × HasFault held fault) → Decided (IsImageFile held) (ImageFails held)
    go (inl is) = inl is
    go (inr (fault, fails)) = inr (detail.Image fault, fails)

-- ---- a script

module _ (shape : Geometry) (held : List ℕ) where
  script_detail : (d e : Detail) → ScriptFails shape held d → ScriptFails shape held e → d ≡ e
  script_detail (detail.Script fault) (detail.Script other) f g = cc
  script_detail (detail.Script fault) e f g = absurd g
  script_detail d e f g = absurd f

  script_apart : (commands : List Command) (d : Detail) → IsScript shape held commands → ScriptFails shape held d → ⊥
  script_apart commands (detail.Script fault) is f = absurd (cc)
  script_apart commands d is f = f

  pub script_settled : Settled (IsScript shape held) (ScriptFails shape held)
  script_settled = record { one_value = λ commands other a b. cc; one_detail = script_detail; not_both = script_apart }

  pub script_decided : Decided (IsScript shape held) (ScriptFails shape held)
  script_decided = go (script_of shape held) refl
    where
      go : (r : Result (List Command) ScriptFault) → script_of shape held ≡ r → Decided (IsScript shape held) (ScriptFails shape held)
      go (Ok commands) is = inl (commands, is)
      go (Err fault) is = inr (detail.Script fault, is)

-- ---- a plan

plan_detail : (held : List ℕ) (d e : Detail) → JobFails held d → JobFails held e → d ≡ e
plan_detail held (detail.Job fault) (detail.Job other) f g = ap detail.Job (one_fault held fault other f g)
plan_detail held (detail.Job fault) e f g = absurd g
plan_detail held d e f g = absurd f

plan_apart : (held : List ℕ) (plan : JobPlan) (d : Detail) → IsPlanOf held plan → JobFails held d → ⊥
plan_apart held plan (detail.Job fault) is f = not_both_plans held plan fault is f
plan_apart held plan d is f = f

pub plan_settled : (held : List ℕ) → Settled (IsPlanOf held) (JobFails held)
plan_settled held = record {
  one_value = λ plan other a b. one_plan held plan other a b;
  one_detail = plan_detail held;
  not_both = plan_apart held;
}

pub plan_decided : (held : List ℕ) → Decided (IsPlanOf held) (JobFails held)
plan_decided held = go (plan_or_not held)
  where
    go : ((plan : JobPlan) × IsPlanOf held plan) ⊎ ((fault : JobFault) × HasJobFault held fault) → Decided (IsPlanOf held) (JobFails held)
    go (inl is) = inl is
    go (inr (fault, fails)) = inr (detail.Job fault, fails)

-- ---- a machine

module _ (keep : Keep) (shape : Geometry) (images : List ImageValue) where
  machine_detail : (d e : Detail) → MachineFails keep shape images d → MachineFails keep shape images e → d ≡ e
  machine_detail (detail.Job fault) (detail.Job other) f g = ap detail.Job (one_join_fault shape images fault other f g)
  machine_detail (detail.Job fault) (detail.Touches count) f g = absurd (not_both_joins shape images g.0.0 fault g.0.1 f)
  machine_detail (detail.Touches count) (detail.Job fault) f g = absurd (not_both_joins shape images f.0.0 fault f.0.1 g)
  machine_detail (detail.Touches count) (detail.Touches other) f g = ap detail.Touches (f.2 ∙ sym g.2)
  machine_detail (detail.Job fault) e f g = absurd g
  machine_detail (detail.Touches count) e f g = absurd g
  machine_detail d e f g = absurd f

  machine_apart : (job : JobValue) (d : Detail) → IsMachine keep shape images job → MachineFails keep shape images d → ⊥
  machine_apart job (detail.Job fault) is f = not_both_joins shape images job fault is.joined f
  machine_apart job (detail.Touches count) is f = f.1 is.kept
  machine_apart job d is f = f

  pub machine_settled : Settled (IsMachine keep shape images) (MachineFails keep shape images)
  machine_settled = record {
    one_value = λ job other a b. one_job shape images job other a.joined b.joined;
    one_detail = machine_detail;
    not_both = machine_apart;
  }

  can_keep : (CanKeep keep shape) ⊎ (CanKeep keep shape → ⊥)
  can_keep = go keep.touches refl (cases_lt MAX_TOUCHES (most_touches shape))
    where
      go : (b : Bool) → keep.touches ≡ b → (MAX_TOUCHES < most_touches shape) ⊎ (most_touches shape ≤ MAX_TOUCHES) → (CanKeep keep shape) ⊎ (CanKeep keep shape → ⊥)
      go false e size = inl (λ yes_. absurd (no_both keep.touches yes_ e))
      go true e (inl many) = inr (λ can. absurd (omega (arith, many, can e)))
      go true e (inr few) = inl (λ yes_. few)

  pub machine_decided : Decided (IsMachine keep shape images) (MachineFails keep shape images)
  machine_decided = go (join_or_not shape images) can_keep
    where
      go : ((job : JobValue) × IsJoined shape images job) ⊎ ((fault : JobFault) × HasJoinFault shape images fault) → (CanKeep keep shape) ⊎ (CanKeep keep shape → ⊥) → Decided (IsMachine keep shape images) (MachineFails keep shape images)
      go (inl (job, is)) (inl can) = inl (job, record { joined = is; kept = can })
      go (inl (job, is)) (inr cannot) = inr (detail.Touches (most_touches shape), ((job, is), cannot, refl))
      go (inr (fault, fails)) kept = inr (detail.Job fault, fails)
