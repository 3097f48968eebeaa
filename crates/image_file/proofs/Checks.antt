-- The first check that fails, of lists of checks that are joined.
use Rattle.std.proofs.Common.{◌≡◌, List, [], ◌∷◌, ◌++◌, Some, None, refl, arith}
use Rattle.image_file.specs.declared.fault.ImageFault.{ImageFault}
use Rattle.image_file.specs.Checks.{Check, first_failing}

pub passes_front : (front back : List Check) → first_failing front ≡ None → first_failing (front ++ back) ≡ first_failing back
passes_front [] back none = refl
passes_front (check ∷ front) back none = grind (arith, passes_front front back)

pub fails_front : (front back : List Check) (fault : ImageFault) → first_failing front ≡ Some fault → first_failing (front ++ back) ≡ Some fault
fails_front [] back fault some = cc
fails_front (check ∷ front) back fault some = grind (arith, fails_front front back fault)

-- of checks that all pass, those of each part pass
pub front_passes : (front back : List Check) → first_failing (front ++ back) ≡ None → first_failing front ≡ None
front_passes [] back none = refl
front_passes (check ∷ front) back none = grind (arith, front_passes front back)
