use Rattle.std.proofs.Common.{◌≡◌, ◌+◌, ◌≤◌, ◌⊎◌, drop, Some}
use Rattle.asm_operands.specs.Numbers.{weights_behind, fence_set}
use Rattle.asm_operands.proofs.spelling.fence_set.Given as goal

abbrev pub invariant-loop-letter : goal.invariant-loop-letter
invariant-loop-letter l =
    (weights_behind (Some (l.least, l.set)) (drop l.letter-index l.letter-items) ≡ fence_set l.fn.text)
    × (l.set + l.least ≤ 16)
    × ((l.least ≡ 16) ⊎ ((l.least ≡ 8) ⊎ ((l.least ≡ 4) ⊎ ((l.least ≡ 2) ⊎ (l.least ≡ 1)))))
