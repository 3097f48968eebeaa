use Rattle.std.proofs.Common.{◌≡◌, ◌<◌, ◌^◌, None, refl}
use Rattle.std.proofs.lemmas.Result.{err_from_is_err_and}
use Rattle.std.proofs.lemmas.List.Elements.{All-nil}
use Rattle.asm_link.specs.Values.{held}
use Rattle.asm_link.specs.Filled.{last_byte, step_fault, text_codes}
use Rattle.asm_link.proofs.Filling.{all_more, words_more, bytes_more, fault_at}
use Rattle.asm_link.proofs.fill.fill.Goals as goal

pub loop-step-init : goal.loop-step-init
unfolding last_byte
loop-step-init c = (All-nil (λ step. step_fault (held c.args.names.now) step ≡ None), rw c.new-words.ensures.items tt, (λ address. refl), rw c.new-words.ensures.items (All-nil (λ word. word < 2 ^ 32)))

pub returns-in_err-add_step-clause-fault : goal.returns-in_err-add_step-clause-fault
returns-in_err-add_step-clause-fault c =
    let p = err_from_is_err_and c.from_residual.result c.from_residual.ensures.1 in
    rw (p.1, p.2) (λ free. fault_at (step_fault (held c.args.names.now)) c.args.steps.now c.loop-step.step-index c.step-item.result c.in_err-add_step.field-0.0 c.loop-step-test.true c.step-item.is
    c.loop-step.invariant.0 (c.in_err-add_step.ensures.fault free))

pub loop-step-preserved : goal.loop-step-preserved
loop-step-preserved c = (
  all_more (λ step. step_fault (held c.args.names.now) step ≡ None) c.args.steps.now c.loop-step.step-index c.step-item.result c.loop-step-test.true c.step-item.is c.loop-step.invariant.0 c.in_ok-add_step.ensures.faultless,
  words_more (text_codes (held c.args.names.now)) c.args.steps.now c.loop-step.step-index c.step-item.result _ _ c.loop-step-test.true c.step-item.is c.loop-step.invariant.1 c.in_ok-add_step.ensures.words,
  bytes_more (held c.args.names.now) c.args.steps.now c.loop-step.step-index c.step-item.result c.args.memory.now c.loop-step.memory c.add_step.new.memory c.loop-step-test.true c.step-item.is c.loop-step.invariant.2
      c.in_ok-add_step.ensures.bytes,
  c.in_ok-add_step.ensures.small,
)
