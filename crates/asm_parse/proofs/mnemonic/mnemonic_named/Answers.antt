use Rattle.asm_parse.specs.Forms.{forms_of}
use Rattle.asm_parse.proofs.MnemonicTables.{in_first, in_second, in_third}
use Rattle.asm_parse.proofs.mnemonic.mnemonic_named.Goals as goal

pub returns-in-Some : goal.returns-in-Some
returns-in-Some c = in_first c.args.name.now (forms_of c.in-Some.mnemonic) c.in-Some.ensures

pub returns-in-Some-amo_named : goal.returns-in-Some-amo_named
returns-in-Some-amo_named c = in_second c.args.name.now (forms_of c.in-Some-amo_named.mnemonic) c.in_default.ensures c.in-Some-amo_named.ensures

pub returns : goal.returns
returns c = in_third c.args.name.now _ c.in_default.ensures c.in_default-amo_named.ensures c.pseudo_instruction_named.ensures
