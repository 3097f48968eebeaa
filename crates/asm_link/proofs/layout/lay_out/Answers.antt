use Rattle.std.proofs.Common.{arith, rules}
use Rattle.std.proofs.lemmas.Result.{err_from_is_err_and}
use Rattle.std.proofs.lemmas.List.Elements.{All-nil}
use Rattle.asm_link.specs.Filled.{HasRoom, IsKept}
use Rattle.asm_link.proofs.Rounds.{begins, goes_on, ends, stops}
use Rattle.asm_link.proofs.layout.lay_out.Goals as goal

pub loop-line-init : goal.loop-line-init
loop-line-init c = (
  c.utf8.source,
  begins c.args.source.now c.new-layout.result c.new-layout.ensures.layout,
  c.new-layout.ensures.within,
  omega (arith, c.new-layout.ensures.number),
  rw c.new-layout.ensures.empty (All-nil IsKept),
  λ names. rw c.new-layout.ensures.empty (All-nil (HasRoom names c.new-layout.result.memory)),
)

pub add_line-requires-clause-line : goal.add_line-requires-clause-line
add_line-requires-clause-line c = omega (arith, c.requires, c.loop-line.invariant.3, c.loop-line.invariant.1.laid.number, c.in-Some.ensures.shorter.0)

pub returns-in_err-add_line-clause-fault : goal.returns-in_err-add_line-clause-fault
returns-in_err-add_line-clause-fault c =
    let p = err_from_is_err_and c.from_residual.result c.from_residual.ensures.1 in
    rw (p.1, p.2) (λ free. stops c.args.source.now c.loop-line.layout c.loop-line.rest.now c.in-Some.line.now c.in-Some.after.now c.in_err-add_line.field-0.0 c.in-Some.ensures.line c.loop-line.invariant.1 (c.in_err-add_line.ensures.fault free))

pub loop-line-preserved : goal.loop-line-preserved
loop-line-preserved c = (
  search rules,
  goes_on c.args.source.now c.loop-line.layout c.add_line.new.self c.loop-line.rest.now c.in-Some.line.now c.in-Some.after.now c.in-Some.ensures.line c.loop-line.invariant.1 c.in_ok-add_line.ensures.line,
  c.in_ok-add_line.ensures.within,
  omega (arith, c.loop-line.invariant.3, c.in_ok-add_line.ensures.number, c.in-Some.ensures.shorter.1),
  c.in_ok-add_line.ensures.kept c.loop-line.invariant.4,
  c.in_ok-add_line.ensures.room c.loop-line.invariant.5,
)

pub returns-clause-layout : goal.returns-clause-layout
returns-clause-layout c = ends c.args.source.now c.loop-line.layout c.loop-line.rest.now c.in_default.ensures.end c.loop-line.invariant.1
