use Rattle.std.proofs.Common.{refl, arith}
use Rattle.std.proofs.lemmas.Result.{err_from_is_err_and}
use Rattle.asm_parse.specs.Assembly.{Nothing}
use Rattle.asm_link.proofs.NameLaws.{defines_none, defines_next, defines_all, refuses_next}
use Rattle.asm_link.proofs.definitions.define_labels.Goals as goal

pub loop-label-init : goal.loop-label-init
loop-label-init c = defines_none c.args.names.now Nothing refl refl

pub returns-in_err-define-clause-twice : goal.returns-in_err-define-clause-twice
returns-in_err-define-clause-twice c =
    let p = err_from_is_err_and c.from_residual.result c.from_residual.ensures.1 in
    rw (p.1, p.2) (λ free. refuses_next _ _ c.args.number c.args.labels.now c.loop-label.label-index _ c.args.address c.in_err-define.field-0.0
    (omega (arith, c.loop-label-test.true, c.loop-label.auto.label-index-end)) c.loop-label.invariant (c.in_err-define.ensures.twice free))

pub loop-label-preserved : goal.loop-label-preserved
loop-label-preserved c =
    defines_next _ _ _ c.args.labels.now c.loop-label.label-index _ c.args.address c.new.result (grind (arith, c.new.ensures, c.from.ensures))
    (omega (arith, c.loop-label-test.true, c.loop-label.auto.label-index-end)) c.loop-label.invariant c.in_ok-define.ensures.ok

pub returns-clause-ok : goal.returns-clause-ok
returns-clause-ok c = defines_all _ _ c.args.labels.now c.loop-label.label-index c.args.address (omega (arith, c.loop-label-test.false, c.loop-label.auto.label-index-end)) c.loop-label.invariant
