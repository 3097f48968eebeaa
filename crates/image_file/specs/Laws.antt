-- Laws of images and faults.
use Rattle.std.specs.Prelude.{◌≡◌, ◌⊎◌, ◌^◌, ◌<◌, ◌≤◌, ℕ, List, length}
use Rattle.std.specs.List.{All}
use Rattle.pmsi_model.specs.declared.limits.TheConstants.{MAX_FILE_BYTES}
use Rattle.pmsi_model.specs.Image.{ImageValue}
use Rattle.image_file.specs.declared.fault.ImageFault.{ImageFault}
use Rattle.image_file.specs.declared.fault.ImageFault.TheVariants.{NoMemory}
use Rattle.image_file.specs.Format.{number_bytes, IsBytesOf}
use Rattle.image_file.specs.Checks.{number_at, HasFault}

-- four bytes are those of the number that they read as, and the bytes of a number are read as it
abbrev pub NumbersAgree : Type 0
NumbersAgree =
    ((bytes : List ℕ) → All (λ byte. byte < 256) bytes → length bytes ≡ 4 → number_bytes (number_at bytes 0) ≡ bytes)
    × ((number : ℕ) → number < 2 ^ 32 → number_at (number_bytes number) 0 ≡ number)

-- all bytes are those of an image, or have a fault
abbrev pub ImageOrFault : Type 0
ImageOrFault =
    (bytes : List ℕ) → All (λ byte. byte < 256) bytes
    → ((image : ImageValue) × IsBytesOf image bytes) ⊎ ((fault : ImageFault) × HasFault bytes fault)

-- and not both
abbrev pub NotBoth : Type 0
NotBoth = (image : ImageValue) (fault : ImageFault) (bytes : List ℕ) → IsBytesOf image bytes → HasFault bytes fault → ⊥

-- bytes are those of one image at most
abbrev pub OneImage : Type 0
OneImage = (image other : ImageValue) (bytes : List ℕ) → IsBytesOf image bytes → IsBytesOf other bytes → image ≡ other

-- the bytes of an image are no more than a file may have
abbrev pub FitsFile : Type 0
FitsFile = (image : ImageValue) (bytes : List ℕ) → IsBytesOf image bytes → length bytes ≤ MAX_FILE_BYTES

-- want of memory is never what the bytes have
abbrev pub NeverMemory : Type 0
NeverMemory = (bytes : List ℕ) → HasFault bytes NoMemory → ⊥
