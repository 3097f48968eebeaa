use Rattle.std.proofs.Common.{◌≡◌, ◌<◌, [], ◌∷◌, ◌++◌, length, sym, map, arith}
use Rattle.std.proofs.lemmas.Grind.{common_steps}
use Rattle.std.proofs.lemmas.Bool.Decides.{nat_tests}
use Rattle.asm_operands.specs.Meanings.{expr, lexemes}
use Rattle.asm_operands.proofs.ExprLists.{begins, misfits, fewer, goes, goes_wrong, is_done}
use Rattle.asm_operands.proofs.lists.take_exprs.Goals as goal

pub returns-in-Err-clause-misfit : goal.returns-in-Err-clause-misfit
returns-in-Err-clause-misfit c =
    rw (c.from.ensures) (misfits (lexemes c.args.tokens.now) (lexemes c.in-Err.left.now) (sym c.in-Err.ensures))

pub loop-left-init : goal.loop-left-init
loop-left-init c =
    let found : c.keep.new.found.items ≡ c.in-Ok.taken.0 ∷ [] = grind (arith, common_steps) in
    rw found (begins (lexemes c.args.tokens.now) (expr c.in-Ok.taken.0) (lexemes c.in-Ok.taken.1.now) (sym c.in-Ok.ensures))

pub returns-in-Err-take_next_expr-clause-misfit : goal.returns-in-Err-take_next_expr-clause-misfit
returns-in-Err-take_next_expr-clause-misfit c =
    let some : 0 < length (lexemes c.loop-left.left.now) = grind (arith, common_steps, nat_tests) in
    rw (c.from-in-Err-take_next_expr.ensures) (goes_wrong (lexemes c.args.tokens.now) (lexemes c.loop-left.left.now) (lexemes c.in-Err-take_next_expr.left.now) (map expr c.loop-left.found.items) c.loop-left.invariant some (sym c.in-Err-take_next_expr.ensures))

pub loop-left-smaller : goal.loop-left-smaller
loop-left-smaller c = fewer (lexemes c.loop-left.left.now) (lexemes c.in-Ok-take_next_expr.taken.1.now) (expr c.in-Ok-take_next_expr.taken.0) (sym c.in-Ok-take_next_expr.ensures)

pub loop-left-preserved : goal.loop-left-preserved
loop-left-preserved c =
    let some : 0 < length (lexemes c.loop-left.left.now) = grind (arith, common_steps, nat_tests) in
    let found : map expr c.keep-in-loop-left.new.found.items ≡ map expr c.loop-left.found.items ++ expr c.in-Ok-take_next_expr.taken.0 ∷ [] = grind (arith, common_steps) in
    rw found (goes (lexemes c.args.tokens.now) (lexemes c.loop-left.left.now) (lexemes c.in-Ok-take_next_expr.taken.1.now) (map expr c.loop-left.found.items) (expr c.in-Ok-take_next_expr.taken.0) c.loop-left.invariant some (sym c.in-Ok-take_next_expr.ensures))

pub returns-clause-all : goal.returns-clause-all
returns-clause-all c =
    let none : length (lexemes c.loop-left.left.now) ≡ 0 = grind (arith, common_steps, nat_tests) in
    is_done (lexemes c.args.tokens.now) (lexemes c.loop-left.left.now) (map expr c.loop-left.found.items) c.loop-left.invariant none
