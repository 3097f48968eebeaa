use Rattle.std.proofs.Common.{refl}
use Rattle.trace_text.proofs.ActionLines.{no_actions, actions_further}
use Rattle.trace_text.proofs.writing.push_action_lines.Goals as goal

pub loop-place-init : goal.loop-place-init
loop-place-init c = no_actions c.args.table.now c.args.out.now.items

pub loop-place-preserved : goal.loop-place-preserved
loop-place-preserved c = actions_further c.args.table.now c.args.actions.now c.loop-place.place c.owner.result _ _ c.args.out.now.items c.loop-place.out.items
    c.push_action_line.new.out.items c.loop-place-test.true c.owner.ensures.owner refl c.loop-place.invariant c.in_ok-push_action_line.ensures
