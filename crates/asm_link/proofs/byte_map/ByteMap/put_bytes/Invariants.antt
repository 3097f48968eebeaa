use Rattle.asm_link.proofs.NamedBytes.{IsPut}
use Rattle.asm_link.proofs.byte_map.ByteMap.put_bytes.Given as goal

abbrev pub invariant-loop-offset : goal.invariant-loop-offset
invariant-loop-offset l = IsPut l.fn.self l.self-inside.bytes.items l.at l.bytes l.offset
