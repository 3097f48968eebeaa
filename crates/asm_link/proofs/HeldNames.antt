-- Names with their values.
use Rattle.std.proofs.Common.{[], ◌∷◌, refl, arith}
use Rattle.asm_operands.specs.NameTable.{NamesValue, named, HasNames}
use Rattle.asm_link.specs.Values.{held}

pub holds_names : (names : NamesValue) → HasNames names (held names)
unfolding named held
holds_names [] name = refl
holds_names (n ∷ names) name = grind (arith, holds_names names name)
