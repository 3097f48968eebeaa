use Rattle.asm_parse.proofs.mnemonic.amo_op_named.Goals as goal

pub returns : goal.returns
returns c = c.value_in.ensures
