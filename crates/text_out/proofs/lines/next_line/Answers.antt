use Rattle.std.proofs.Common.{◌<◌, ◌∷◌, length, lit<, subst, sym, ap, ◌∙◌, arith}
use Rattle.std.proofs.lemmas.Bool.{eqb-true, eqb-false}
use Rattle.std.proofs.lemmas.Str.Pattern.{split_once_first}
use Rattle.text_out.proofs.LineCuts.{IsCut, none, empty, cut_into, cut_last}
use Rattle.text_out.proofs.lines.next_line.Goals as goal

pub returns-then-is_empty-clause-end : goal.returns-then-is_empty-clause-end
returns-then-is_empty-clause-end c = empty c.args.text.now (eqb-true (length c.args.text.now) 0 (sym c.if-is_empty.ensures))

pub returns-in-Some-clause-line : goal.returns-in-Some-clause-line
returns-in-Some-clause-line c =
    let cut = subst (IsCut c.args.text.now) c.in-Some.is (split_once_first 10 c.args.text.now c.split_once.result c.split_once.ensures.cases (lit< tt)) in
    cut_into c.args.text.now c.in-Some.line.now c.without_return.result.now c.in-Some.rest.now cut.0 cut.1 cut.2 c.without_return.ensures

pub returns-in-None-clause-line : goal.returns-in-None-clause-line
returns-in-None-clause-line c =
    let end = subst (IsCut c.args.text.now) c.in-None.is (split_once_first 10 c.args.text.now c.split_once.result c.split_once.ensures.cases (lit< tt)) in
    let some : 0 < length c.args.text.now = omega (arith, eqb-false (length c.args.text.now) 0 (sym c.if-is_empty.ensures)) in
    cut_last c.args.text.now some end ∙ ap (λ rest. c.args.text.now ∷ rest) (sym none)
