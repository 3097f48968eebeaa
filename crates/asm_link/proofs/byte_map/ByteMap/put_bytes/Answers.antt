use Rattle.std.proofs.Common.{arith, sym}
use Rattle.asm_link.proofs.NamedBytes.{puts_none, put_within, puts_next}
use Rattle.asm_link.proofs.byte_map.ByteMap.put_bytes.Goals as goal

pub loop-offset-init : goal.loop-offset-init
loop-offset-init c = puts_none _ _ c.args.at c.args.bytes.now (sym c.self.view_is)

pub index_mut-requires : goal.index_mut-requires
index_mut-requires c = omega (arith, put_within _ _ _ _ _ c.loop-offset.invariant (c.requires c.loop-offset.offset (omega arith)))

pub loop-offset-preserved : goal.loop-offset-preserved
loop-offset-preserved c = puts_next _ _ _ _ _ c.loop-offset.invariant (c.requires c.loop-offset.offset (omega arith)) (omega arith)
