use Rattle.std.proofs.Common.{refl, sym, ap, ◌∙◌, arith, length, ◌≤◌}
use Rattle.job_text.specs.Faults.{head_limit, heads_limit, shape_heads}
use Rattle.job_text.proofs.Judgings.{limit_next, limit_here}
use Rattle.job_text.proofs.Searches.{first_end}
use Rattle.job_text.proofs.judging.heads_limit.Goals as goal

pub loop-word-init : goal.loop-word-init
unfolding heads_limit
loop-word-init c said has = refl

pub returns-then-not-is_within : goal.returns-then-not-is_within
returns-then-not-is_within c said has =
    sym (c.loop-word.invariant said has ∙ limit_here said c.shape_heads-word-items.result.now c.loop-word.word-index c.value-line_words.result c.value-number.result _ c.is_within.result
    c.shape_heads-word-items.ensures c.loop-word-test.true (c.value-line_words.ensures said has) (c.value-number.ensures said has) c.is_within.ensures c.if-not-is_within.true)

pub loop-word-preserved : goal.loop-word-preserved
loop-word-preserved c said has =
    c.loop-word.invariant said has ∙ limit_next said c.shape_heads-word-items.result.now c.loop-word.word-index c.value-line_words.result c.value-number.result _ c.is_within.result
    c.shape_heads-word-items.ensures c.loop-word-test.true (c.value-line_words.ensures said has) (c.value-number.ensures said has) c.is_within.ensures c.if-not-is_within.false

pub returns : goal.returns
returns c said has =
    let end : length shape_heads ≤ c.loop-word.word-index = omega (arith, ap length c.shape_heads-word-items.ensures) in
    sym (c.loop-word.invariant said has ∙ first_end (head_limit said) shape_heads c.loop-word.word-index end)
