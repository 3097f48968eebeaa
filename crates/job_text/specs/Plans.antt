-- What a job text means: a plan, or a fault.
use Rattle.std.specs.Prelude.{◌≡◌, ℕ, ◌+◌, ◌^◌, ◌<◌, ◌≤◌, ◌≢◌, true, false, List, [], ◌∷◌, ◌++◌, length, codes, decimal, slice_get, Some, None}
use Rattle.std.specs.List.{All, flat_map}
use Rattle.std.specs.Str.{is_utf8}
use Rattle.pmsi_model.specs.declared.job.Geometry.{Geometry}
use Rattle.pmsi_model.specs.declared.limits.TheConstants.{MAX_TEXT_WORDS}
use Rattle.pmsi_model.specs.Geometry.{IsGeometry}
use Rattle.pmsi_model.specs.Lines.{hex_digits}
use Rattle.job_text.specs.declared.job_fault.HeadWord.TheVariants as head
use Rattle.job_text.specs.declared.job_fault.JobFault.{JobFault}
use Rattle.job_text.specs.declared.plan.JobPlan.{JobPlan}
use Rattle.job_text.specs.declared.plan.Program.{Program}
use Rattle.job_text.specs.declared.plan.Program.TheVariants.{Words, Asm, Image}
use Rattle.job_text.specs.declared.saying.Saying.{Saying}
use Rattle.job_text.specs.Cutting.{is_blank, is_hash}
use Rattle.job_text.specs.Faults.{fault_of, number_of, program_of, said_in}

-- the numbers of a shape are those that are said
pub record SaysShape (said : List Saying) (shape : Geometry) : Type 0 where
  pub cores : number_of head.Cores said ≡ Some shape.cores
  pub quantum : number_of head.Quantum said ≡ Some shape.quantum
  pub line_words : number_of head.Line said ≡ Some shape.line_words
  pub sets : number_of head.Sets said ≡ Some shape.sets
  pub ways : number_of head.Ways said ≡ Some shape.ways
  pub memory : number_of head.Memory said ≡ Some shape.memory
  pub slots : number_of head.Slots said ≡ Some shape.slots

-- programs are those that are said for the cores, by their numbers
pub record SaysPrograms (said : List Saying) (cores : ℕ) (programs : List Program) : Type 0 where
  pub count : length programs ≡ cores
  pub each : (core : ℕ) → core < cores → slice_get programs core ≡ program_of core said

-- Bytes are a text of a plan: nothing is wrong with them, and the plan is what their lines say. As no head and no core is given
-- twice, the order of the lines doesn't matter.
pub record IsPlanOf (bytes : List ℕ) (plan : JobPlan) : Type 0 where
  pub faultless : fault_of bytes ≡ None
  pub shape : SaysShape (said_in bytes) plan.shape
  pub programs : SaysPrograms (said_in bytes) plan.shape.cores plan.programs

-- bytes have this fault: the first of the order
abbrev pub HasJobFault : List ℕ → JobFault → Type 0
HasJobFault bytes fault = fault_of bytes ≡ Some fault

-- ---- plans

abbrev pub HasFewWords : Program → Type 0
HasFewWords (Words words) = length words ≤ MAX_TEXT_WORDS
HasFewWords (Asm name) = Unit {0}
HasFewWords (Image name) = Unit {0}

-- a plan is within the limits, with a program for each core
pub record IsPlan (plan : JobPlan) : Type 0 where
  pub shape : IsGeometry plan.shape
  pub count : length plan.programs ≡ plan.shape.cores
  pub words : All HasFewWords plan.programs

-- ---- the text of a plan

-- `NAME N` on a line
abbrev pub number_line : List ℕ → ℕ → List ℕ
number_line name number = name ++ codes " " ++ decimal number ++ codes "\n"

unfoldable pub shape_lines : Geometry → List ℕ
shape_lines shape =
    number_line (codes "cores") shape.cores
    ++ number_line (codes "quantum") shape.quantum
    ++ number_line (codes "line") shape.line_words
    ++ number_line (codes "sets") shape.sets
    ++ number_line (codes "ways") shape.ways
    ++ number_line (codes "memory") shape.memory
    ++ number_line (codes "slots") shape.slots

-- a word behind a blank, in eight lower-case digits
abbrev pub word_field : ℕ → List ℕ
word_field word = codes " " ++ hex_digits 8 word

-- ` hex W W ..`, ` asm NAME` or ` image NAME`
unfoldable pub program_fields : Program → List ℕ
program_fields (Words words) = codes " hex" ++ flat_map word_field words
program_fields (Asm name) = codes " asm " ++ name
program_fields (Image name) = codes " image " ++ name

-- `core C` and the core's program
abbrev pub core_line : ℕ → Program → List ℕ
core_line core program = codes "core " ++ decimal core ++ program_fields program ++ codes "\n"

-- the lines of the cores, from a number on
unfoldable pub core_lines : ℕ → List Program → List ℕ
core_lines core [] = []
core_lines core (program ∷ programs) = core_line core program ++ core_lines (core + 1) programs

unfoldable pub plan_text : JobPlan → List ℕ
plan_text plan = codes "pmsi 1\n" ++ shape_lines plan.shape ++ core_lines 0 plan.programs

-- a name that can be printed and read again: text that is one field of a line, without a byte 13
pub record IsName (name : List ℕ) : Type 0 where
  pub text : is_utf8 name ≡ true
  pub some : 0 < length name
  pub plain : All (λ byte. (is_blank byte ≡ false) × (is_hash byte ≡ false) × (byte ≢ 10) × (byte ≢ 13)) name

abbrev pub CanPrint : Program → Type 0
CanPrint (Words words) = All (λ word. word < 2 ^ 32) words
CanPrint (Asm name) = IsName name
CanPrint (Image name) = IsName name

-- a plan whose text means it
pub record IsPrintable (plan : JobPlan) : Type 0 where
  pub within : IsPlan plan
  pub programs : All CanPrint plan.programs
