-- What the bytes of a file are taken for, and why they are refused.
use Rattle.std.specs.Prelude.{◌≡◌, ℕ, List, [], Ok, Err}
use Rattle.std.specs.Str.{IsUtf8}
use Rattle.pmsi_model.specs.declared.job.Geometry.{Geometry}
use Rattle.pmsi_model.specs.declared.Keep.{Keep}
use Rattle.pmsi_model.specs.Geometry.{CanKeep, most_touches}
use Rattle.pmsi_model.specs.Image.{ImageValue}
use Rattle.pmsi_model.specs.Job.{JobValue}
use Rattle.asm_parse.specs.declared.fault.AsmFault.TheVariants.{At}
use Rattle.asm_parse.specs.Assembly.{IsAssembled, HasAsmFault}
use Rattle.image_file.specs.Format.{IsBytesOf}
use Rattle.image_file.specs.Checks.{HasFault}
use Rattle.job_text.specs.Plans.{HasJobFault}
use Rattle.job_text.specs.Joining.{IsJoined, HasJoinFault}
use Rattle.script_text.specs.declared.command.Command.{Command}
use Rattle.script_text.specs.Script.{script_of}
use Rattle.tool_files.specs.declared.refusal.Detail.{Detail}
use Rattle.tool_files.specs.declared.refusal.Detail.TheVariants as detail

-- ---- a source

-- the bytes are a source of this image, in UTF-8
pub record IsSource (held : List ℕ) (image : ImageValue) : Type 0 where
  pub utf8 : IsUtf8 held
  pub assembled : IsAssembled held image

abbrev pub SourceFails : List ℕ → Detail → Type 0
SourceFails held detail.NotText = IsUtf8 held → ⊥
SourceFails held (detail.Source line cause) = IsUtf8 held × HasAsmFault held (At line cause)
SourceFails held other = ⊥

-- ---- an image

abbrev pub IsImageFile : List ℕ → ImageValue → Type 0
IsImageFile held image = IsBytesOf image held

abbrev pub ImageFails : List ℕ → Detail → Type 0
ImageFails held (detail.Image fault) = HasFault held fault
ImageFails held other = ⊥

-- ---- a script

-- the bytes are a script of these commands, for a machine of the shape
abbrev pub IsScript : Geometry → List ℕ → List Command → Type 0
IsScript shape held commands = script_of shape held ≡ Ok commands

abbrev pub ScriptFails : Geometry → List ℕ → Detail → Type 0
ScriptFails shape held (detail.Script fault) = script_of shape held ≡ Err fault
ScriptFails shape held other = ⊥

-- ---- a job

abbrev pub JobFails : List ℕ → Detail → Type 0
JobFails held (detail.Job fault) = HasJobFault held fault
JobFails held other = ⊥

-- the program of a core that is given as words
abbrev pub image_of_words : List ℕ → ImageValue
image_of_words words = record { text = words; pieces = [] }

-- the images of the cores give this job, and what is to be kept of its run isn't too much
pub record IsMachine (keep : Keep) (shape : Geometry) (images : List ImageValue) (job : JobValue) : Type 0 where
  pub joined : IsJoined shape images job
  pub kept : CanKeep keep shape

-- they give no job; or they give one of which too many accesses are to be kept, and their number is told
abbrev pub MachineFails : Keep → Geometry → List ImageValue → Detail → Type 0
MachineFails keep shape images (detail.Job fault) = HasJoinFault shape images fault
MachineFails keep shape images (detail.Touches count) =
    ((job : JobValue) × IsJoined shape images job) × (CanKeep keep shape → ⊥) × (count ≡ most_touches shape)
MachineFails keep shape images other = ⊥
