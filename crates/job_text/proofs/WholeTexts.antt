-- The steps of a whole text, in their order.
use Rattle.std.proofs.Common.{◌≡◌, ℕ, Bool, true, false, List, [], Some, None, refl, sym, ◌∙◌, ap, subst}
use Rattle.std.specs.Str.{IsUtf8, is_utf8}
use Rattle.std.proofs.lemmas.Str.{IsUtf8-from_is_utf8, is_utf8-from_IsUtf8}
use Rattle.job_text.specs.declared.job_fault.JobFault.{JobFault}
use Rattle.job_text.specs.declared.job_fault.JobFault.TheVariants.{NotText}
use Rattle.job_text.specs.declared.plan.JobPlan.{JobPlan}
use Rattle.job_text.specs.Cutting.{rows_of}
use Rattle.job_text.specs.Faults.{fault_of, first_of, rows_fault, said_fault, said_in, sayings_of}
use Rattle.job_text.specs.Plans.{HasJobFault, IsPlanOf, SaysPrograms, SaysShape}

no_text_by : (bytes : List ℕ) (text : Bool) → is_utf8 bytes ≡ text → (IsUtf8 bytes → ⊥) → fault_of bytes ≡ Some NotText
unfolding fault_of first_of
no_text_by bytes true e other = absurd (other (IsUtf8-from_is_utf8 bytes e))
no_text_by bytes false e other = rw e refl

pub no_text : (bytes : List ℕ) → (IsUtf8 bytes → ⊥) → HasJobFault bytes NotText
no_text bytes other = no_text_by bytes (is_utf8 bytes) refl other

pub rows_wrong : (bytes text : List ℕ) (fault : JobFault) → text ≡ bytes → IsUtf8 bytes → rows_fault [] (rows_of text) ≡ Some fault → HasJobFault bytes fault
unfolding fault_of first_of
rows_wrong bytes text fault same fits e =
    let is : rows_fault [] (rows_of bytes) ≡ Some fault = ap (λ t. rows_fault [] (rows_of t)) (sym same) ∙ e in
    rw (is_utf8-from_IsUtf8 bytes fits, is) refl

pub said_wrong : (bytes text : List ℕ) (fault : JobFault) → text ≡ bytes → IsUtf8 bytes → rows_fault [] (rows_of text) ≡ None → said_fault (sayings_of (rows_of text)) ≡ Some fault → HasJobFault bytes fault
unfolding fault_of first_of
said_wrong bytes text fault same fits none e =
    let rows : rows_fault [] (rows_of bytes) ≡ None = ap (λ t. rows_fault [] (rows_of t)) (sym same) ∙ none in
    let said : said_fault (said_in bytes) ≡ Some fault = ap (λ t. said_fault (sayings_of (rows_of t))) (sym same) ∙ e in
    rw (is_utf8-from_IsUtf8 bytes fits, rows, said) refl

none_wrong : (bytes : List ℕ) → IsUtf8 bytes → rows_fault [] (rows_of bytes) ≡ None → said_fault (said_in bytes) ≡ None → fault_of bytes ≡ None
unfolding fault_of first_of
none_wrong bytes fits rows said = rw (is_utf8-from_IsUtf8 bytes fits, rows, said) refl

pub plan_is : (bytes text : List ℕ) (plan : JobPlan) → text ≡ bytes → IsUtf8 bytes → rows_fault [] (rows_of text) ≡ None → said_fault (sayings_of (rows_of text)) ≡ None
    → SaysShape (sayings_of (rows_of text)) plan.shape → SaysPrograms (sayings_of (rows_of text)) plan.shape.cores plan.programs → IsPlanOf bytes plan
plan_is bytes text plan same fits rows said shape programs = record {
  faultless = none_wrong bytes fits (ap (λ t. rows_fault [] (rows_of t)) (sym same) ∙ rows) (ap (λ t. said_fault (sayings_of (rows_of t))) (sym same) ∙ said);
  shape = subst (λ t. SaysShape (sayings_of (rows_of t)) plan.shape) same shape;
  programs = subst (λ t. SaysPrograms (sayings_of (rows_of t)) plan.shape.cores plan.programs) same programs;
}
