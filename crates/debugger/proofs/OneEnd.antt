-- A script comes to one end.
use Rattle.std.proofs.Common.{◌≡◌, ◌≢◌, ◌⊎◌, inl, inr, ℕ, List, Result, Ok, Err, refl, sym, ap, ◌∙◌}
use Rattle.pmsi_model.specs.declared.job.Geometry.{Geometry}
use Rattle.pmsi_model.specs.Job.{JobValue}
use Rattle.script_text.specs.declared.command.Command.{Command}
use Rattle.script_text.specs.declared.fault.ScriptFault.{ScriptFault}
use Rattle.script_text.specs.declared.fault.ScriptFault.TheVariants.{NotText, Line, NoMemory}
use Rattle.script_text.specs.Output.{HasScriptFault, IsOutput, debugged, output_if, output_of}
use Rattle.script_text.specs.Script.{script_of}

abbrev Is : {T : Type 0} → Result T ScriptFault → Result T ScriptFault → Type 0
Is a b = a ≡ b

clash : (job : JobValue) (script text : List ℕ) (fault : ScriptFault) → IsOutput job script text → HasScriptFault job script fault → ⊥
clash job script text fault is has = let both : Is (Ok text) (Err fault) = sym is ∙ has in absurd cc

pub faultless : {T : Type 0} (job : JobValue) (script text : List ℕ) (fault : ScriptFault) (result : T) → IsOutput job script text → HasScriptFault job script fault → Is (Ok result) (Err fault) ⊎ Is (Ok result) (Err NoMemory)
faultless job script text fault result is has = absurd (clash job script text fault is has)

pub out_of_memory : (job : JobValue) (script text : List ℕ) (fault : ScriptFault) → (fault ≢ NoMemory → HasScriptFault job script fault) → IsOutput job script text → fault ≡ NoMemory
out_of_memory job script text NotText has is = absurd (clash job script text NotText is (has (λ e. cc)))
out_of_memory job script text (Line n why) has is = absurd (clash job script text (Line n why) is (has (λ e. cc)))
out_of_memory job script text NoMemory has is = refl

one : (job : JobValue) (script : List ℕ) (fault first : ScriptFault) → HasScriptFault job script fault → HasScriptFault job script first → Is {T = List ℕ} (Err fault) (Err first)
one job script fault first is has = sym is ∙ has

pub refused : {T : Type 0} (job : JobValue) (script : List ℕ) (fault first : ScriptFault) → (fault ≢ NoMemory → HasScriptFault job script fault) → HasScriptFault job script first
    → Is {T = T} (Err fault) (Err first) ⊎ Is {T = T} (Err fault) (Err NoMemory)
refused job script NotText first is has = let same = one job script NotText first (is (λ e. cc)) has in inl (cc)
refused job script (Line n why) first is has = let same = one job script (Line n why) first (is (λ e. cc)) has in inl (cc)
refused job script NoMemory first is has = inr refl

-- ---- the end that it comes to

pub outputs : (job : JobValue) (shape : Geometry) (script text : List ℕ) (commands : List Command) → shape ≡ job.shape → script_of shape script ≡ Ok commands → text ≡ output_of job commands → IsOutput job script text
unfolding debugged
outputs job shape script text commands same is printed = ap (output_if job) (ap (λ g. script_of g script) (sym same) ∙ is) ∙ ap Ok (sym printed)

pub has_fault : (job : JobValue) (shape : Geometry) (script : List ℕ) (fault : ScriptFault) → shape ≡ job.shape → script_of shape script ≡ Err fault → HasScriptFault job script fault
unfolding debugged
has_fault job shape script fault same is = ap (output_if job) (ap (λ g. script_of g script) (sym same) ∙ is)
