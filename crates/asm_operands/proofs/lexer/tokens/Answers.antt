use Rattle.std.proofs.Common.{subst, sym, ◌∙◌, ap, arith}
use Rattle.asm_operands.specs.Tokens.{code_of}
use Rattle.asm_operands.proofs.Places.{Reached, starts, takes, skips, ends, strays}
use Rattle.asm_operands.proofs.lexer.tokens.Goals as goal

pub loop-place-init : goal.loop-place-init
loop-place-init c = subst (λ t. Reached c.code_of-code.result.now 0 t) (sym c.new-tokens.ensures.items) (starts c.code_of-code.result.now)

pub loop-place-preserved-in_ok-push : goal.loop-place-preserved-in_ok-push
loop-place-preserved-in_ok-push c = subst (λ t. Reached c.code_of-code.result.now c.end_at-end.result t) (sym c.in_ok-push.ensures.items)
    (takes c.code_of-code.result.now c.loop-place.place c.end_at-end.result c.loop-place.tokens.items c.in-Some.kind c.loop-place.invariant (omega arith) c.end_at-end.ensures.end (sym c.in-Some.ensures))

pub loop-place-preserved : goal.loop-place-preserved
loop-place-preserved c =
    skips c.code_of-code.result.now c.loop-place.place c.end_at-end.result c.loop-place.tokens.items c.loop-place.invariant (omega arith) c.end_at-end.ensures.end (sym c.in_default.ensures) (sym c.if-not-is_blank.ensures)

pub returns-clause-tokens : goal.returns-clause-tokens
returns-clause-tokens c =
    ends c.args.line.now c.code_of-code.result.now c.loop-place.place c.loop-place.tokens.items (c.code_of-code.ensures.code ∙ ap code_of c.as_bytes.ensures.value) c.loop-place.invariant c.loop-place-test.false

pub returns-then-not-is_blank-clause-fault : goal.returns-then-not-is_blank-clause-fault
returns-then-not-is_blank-clause-fault c = λ _.
    strays c.args.line.now c.code_of-code.result.now c.loop-place.place c.loop-place.tokens.items (c.code_of-code.ensures.code ∙ ap code_of c.as_bytes.ensures.value) c.loop-place.invariant (omega arith)
    (sym c.in_default.ensures) (sym c.if-not-is_blank.ensures)
