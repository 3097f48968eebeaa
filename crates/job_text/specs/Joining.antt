-- A job of a shape and the images of its cores: each text is that of its core's image, and a byte of memory starts as an image
-- names it, else as 0.
use Rattle.std.specs.Prelude.{◌≡◌, ◌≢◌, ◌⊎◌, ℕ, ◌-◌, ◌<◌, ◌≤◌, ◌&&◌, nat_le, nat_lt, if◌then◌else◌, List, [], ◌∷◌, map, length, slice_get, slice_index, Option, Some, None}
use Rattle.pmsi_model.specs.declared.image.Piece.{Piece}
use Rattle.pmsi_model.specs.declared.job.Geometry.{Geometry}
use Rattle.pmsi_model.specs.Image.{ImageValue, end_of}
use Rattle.pmsi_model.specs.Job.{JobValue}
use Rattle.job_text.specs.declared.job_fault.JobFault.{JobFault}
use Rattle.job_text.specs.declared.job_fault.JobFault.TheVariants as fault

-- ---- the bytes that images name

-- the byte that pieces name at an address, if they do; no two pieces of an image name one address
unfoldable pub byte_in : List Piece → ℕ → Option ℕ
byte_in [] address = None
byte_in (piece ∷ pieces) address =
    if nat_le piece.address address && nat_lt address (end_of piece) then Some (slice_index piece.bytes (address - piece.address)) else byte_in pieces address

abbrev pub pieces_byte : Option ImageValue → ℕ → Option ℕ
pieces_byte None address = None
pieces_byte (Some image) address = byte_in image.pieces address

-- the byte that a core's image names at an address, if it does
unfoldable pub byte_of : List ImageValue → ℕ → ℕ → Option ℕ
byte_of images core address = pieces_byte (slice_get images core) address

-- ---- faults

-- a core's image names a byte past the memory
pub record IsPast (shape : Geometry) (images : List ImageValue) (core address : ℕ) : Type 0 where
  pub byte : byte_of images core address ≢ None
  pub past : shape.memory ≤ address

-- of two pairs of numbers, the first is not behind the second
abbrev pub IsPairUpTo : ℕ × ℕ → ℕ × ℕ → Type 0
IsPairUpTo a b = (a.0 < b.0) ⊎ ((a.0 ≡ b.0) × (a.1 ≤ b.1))

-- the least core with a byte past the memory, and its least such address
pub record IsFirstPast (shape : Geometry) (images : List ImageValue) (core address : ℕ) : Type 0 where
  pub is : IsPast shape images core address
  pub first : (other place : ℕ) → IsPast shape images other place → IsPairUpTo (core, address) (other, place)

-- two cores, the lower first, give an address different bytes
pub record DoDiffer (images : List ImageValue) (core other address : ℕ) : Type 0 where
  pub order : core < other
  pub one : byte_of images core address ≢ None
  pub two : byte_of images other address ≢ None
  pub apart : byte_of images core address ≢ byte_of images other address

-- the least address to which two cores give different bytes, with the least such pair
pub record IsFirstDifference (images : List ImageValue) (core other address : ℕ) : Type 0 where
  pub is : DoDiffer images core other address
  pub least : (c d place : ℕ) → DoDiffer images c d place → address ≤ place
  pub first : (c d : ℕ) → DoDiffer images c d address → IsPairUpTo (core, other) (c, d)

-- no image has a byte past the memory
abbrev pub AreWithin : Geometry → List ImageValue → Type 0
AreWithin shape images = (core address : ℕ) → IsPast shape images core address → ⊥

-- images have this fault: a byte past the memory, or where none is, a difference
abbrev pub HasJoinFault : Geometry → List ImageValue → JobFault → Type 0
HasJoinFault shape images (fault.Beyond core address) = IsFirstPast shape images core address
HasJoinFault shape images (fault.Overlap core other address) = AreWithin shape images × IsFirstDifference images core other address
HasJoinFault shape images fault.NotText = ⊥
HasJoinFault shape images (fault.Line number why) = ⊥
HasJoinFault shape images (fault.Twice word) = ⊥
HasJoinFault shape images (fault.Missing word) = ⊥
HasJoinFault shape images (fault.Limit word value) = ⊥
HasJoinFault shape images fault.NoMemory = ⊥

-- ---- jobs

-- images that have no fault give a job
pub record IsJoined (shape : Geometry) (images : List ImageValue) (job : JobValue) : Type 0 where
  pub within : AreWithin shape images
  pub agree : (core other address : ℕ) → DoDiffer images core other address → ⊥
  pub same_shape : job.shape ≡ shape
  pub texts : job.texts ≡ map (λ image. image.text) images
  pub memory : length job.start ≡ shape.memory
  pub named : (core address byte : ℕ) → byte_of images core address ≡ Some byte → slice_get job.start address ≡ Some byte
  pub zeros : (address : ℕ) → address < shape.memory → ((core : ℕ) → byte_of images core address ≡ None) → slice_get job.start address ≡ Some 0
