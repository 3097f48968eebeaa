use Rattle.std.proofs.Common.{◌∙◌, ap, map, option_map}
use Rattle.asm_parse.specs.declared.directive.TheConstants.{DIRECTIVES}
use Rattle.asm_parse.specs.Assembly.{directives, directive_named}
use Rattle.asm_parse.specs.Readings.{directive_meaning}
use Rattle.asm_parse.proofs.MnemonicTables.{named_in}
use Rattle.asm_parse.proofs.directive.directive_named.Goals as goal

pub returns : goal.returns
unfolding directive_named directives
returns c = ap (option_map directive_meaning) c.value_in.ensures ∙ named_in directive_meaning (map (λ row. (row.0.now, row.1)) DIRECTIVES) c.args.name.now
