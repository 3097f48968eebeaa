-- Every read takes the latest write in bus order. This speaks of the list of accesses alone, not of the machine's state.
use Rattle.std.specs.Prelude.{◌≡◌, ℕ, ◌+◌, ◌-◌, ◌/◌, ◌%◌, ◌^◌, ◌<◌, List, [], ◌∷◌, ◌++◌, Bool, ◌&&◌, nat_le, nat_lt, if◌then◌else◌, slice_index}
use Rattle.pmsi_model.specs.declared.Kind.TheVariants.{Read}
use Rattle.pmsi_model.specs.declared.Touch.{Touch}
use Rattle.pmsi_model.specs.Job.{JobValue}
use Rattle.pmsi_model.specs.Machine.{is_write}
use Rattle.pmsi_model.specs.Run.{touches_of}

-- an access covers the byte at an address
abbrev pub covers : Touch → ℕ → Bool
covers touch address = nat_le touch.address address && nat_lt address (touch.address + touch.width)

-- byte `place` of a number, the lowest at place 0
abbrev pub byte_of : ℕ → ℕ → ℕ
byte_of n place = n / 256 ^ place % 256

-- the byte at an address after accesses: that of the last write that covers it, else the byte before them
abbrev pub byte_after : ℕ → ℕ → List Touch → ℕ
byte_after address byte [] = byte
byte_after address byte (touch ∷ touches) =
    byte_after address (if is_write touch.kind && covers touch address then byte_of touch.new (address - touch.address) else byte) touches

-- what an access found is what the accesses before it left, and a read changes nothing
pub record TakesLatest (start : List ℕ) (earlier : List Touch) (touch : Touch) : Type 0 where
  pub old : (place : ℕ) → place < touch.width →
      byte_of touch.old place ≡ byte_after (touch.address + place) (slice_index start (touch.address + place)) earlier
  pub same : touch.kind ≡ Read → touch.new ≡ touch.old

-- each access of the run takes the latest write before it
abbrev pub ReadsLatestWrite : JobValue → Type 0
ReadsLatestWrite job =
    (earlier later : List Touch) (touch : Touch) → touches_of job job.shape.slots ≡ earlier ++ touch ∷ later → TakesLatest job.start earlier touch
