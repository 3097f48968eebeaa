use Rattle.std.proofs.Common.{◌+◌, arith, rules}
use Rattle.asm_link.proofs.NamedBytes.{byte_named}
use Rattle.asm_link.proofs.byte_map.ByteMap.name.Goals as goal

pub returns : goal.returns
returns c = λ address.
    rw (← c.self.view_is)
    (byte_named c.self.inside.bytes.items _ _ _ c.args.from (c.args.from + c.args.count) _ _ _ address (search rules) c.in_ok-resize.ensures.items (omega arith) (search rules) (omega arith) c.deref_mut.ensures.value
    (c.fill.ensures.after (search rules)))
