use Rattle.std.proofs.Common.{◌∙◌, sym, ap, option_map}
use Rattle.asm_parse.specs.Mnemonics.{amo_forms}
use Rattle.asm_parse.proofs.AmoNames.{amo_value}
use Rattle.asm_parse.proofs.mnemonic.amo_named.Goals as goal

pub returns : goal.returns
returns c =
    let cut = c.cut_ordering-aq.result in
    ap (option_map (λ op. amo_forms op (cut.1, cut.2))) c.in_ok-op.ensures
    ∙ sym (amo_value c.args.name.now cut.0.now cut.1 cut.2 c.cut_ordering-aq.ensures)
