use Rattle.std.proofs.Common.{◌∙◌, ap, map, option_map}
use Rattle.asm_parse.specs.declared.mnemonic.TheConstants.{INSTRUCTIONS}
use Rattle.asm_parse.specs.Forms.{forms_of}
use Rattle.asm_parse.proofs.MnemonicTables.{named_in}
use Rattle.asm_parse.proofs.mnemonic.instruction_named.Goals as goal

pub returns : goal.returns
returns c = ap (option_map forms_of) c.value_in.ensures ∙ named_in forms_of (map (λ row. (row.0.now, row.1)) INSTRUCTIONS) c.args.name.now
