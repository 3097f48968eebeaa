-- Laws of sources and their images.
use Rattle.std.specs.Prelude.{◌≡◌, ◌⊎◌, ℕ, List, Result, Ok, Err}
use Rattle.pmsi_model.specs.Image.{ImageValue}
use Rattle.pmsi_model.specs.declared.image.Image.{Image}
use Rattle.asm_parse.specs.declared.fault.AsmFault.{AsmFault}
use Rattle.asm_parse.specs.declared.fault.AsmFault.TheVariants.{NoMemory}
use Rattle.asm_parse.specs.Assembly.{IsAssembled, HasAsmFault}

-- a source has one image at most
abbrev pub AssemblesOnce : Type 0
AssemblesOnce = (source : List ℕ) (image other : ImageValue) → IsAssembled source image → IsAssembled source other → image ≡ other

-- and has no fault then
abbrev pub ImagesHaveNoFault : Type 0
ImagesHaveNoFault = (source : List ℕ) (image : ImageValue) (fault : AsmFault) → IsAssembled source image → HasAsmFault source fault → ⊥

-- a source has an image, or a fault
abbrev pub ImageOrFault : Type 0
ImageOrFault = (source : List ℕ) → ((image : ImageValue) × IsAssembled source image) ⊎ ((fault : AsmFault) × HasAsmFault source fault)

-- want of memory is never a source's fault
abbrev pub FaultsAreNotMemory : Type 0
FaultsAreNotMemory = (source : List ℕ) → HasAsmFault source NoMemory → ⊥

-- an answer is this image, or memory ran out
abbrev pub GivesOnly : ImageValue → Result Image AsmFault → Type 0
GivesOnly image (Ok other) = other ≡ image
GivesOnly image (Err fault) = fault ≡ NoMemory
