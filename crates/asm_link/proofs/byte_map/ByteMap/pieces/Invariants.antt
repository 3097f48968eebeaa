use Rattle.std.proofs.Common.{◌-◌, length}
use Rattle.asm_link.proofs.MemoryPieces.{IsSoFar}
use Rattle.asm_link.proofs.byte_map.ByteMap.pieces.Given as goal

abbrev pub invariant-loop-address : goal.invariant-loop-address
invariant-loop-address l = IsSoFar l.fn.self l.from l.pieces.items

abbrev pub decreases-loop-address : goal.decreases-loop-address
decreases-loop-address l = length l.self - l.from
