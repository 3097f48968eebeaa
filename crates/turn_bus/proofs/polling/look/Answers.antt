use Rattle.std.proofs.Common.{rules, ap, ◌∙◌}
use Rattle.pmsi_model.specs.Slots.{SlotPlan}
use Rattle.turn_bus.specs.Rule.{word_of_slot}
use Rattle.turn_bus.proofs.TurnLooks.{looks, notes, passed_on}
use Rattle.turn_bus.proofs.polling.look.Goals as goal

pub load-turn-requires : goal.load-turn-requires
load-turn-requires c = (search rules, search rules, looks _ _ _ _ c.requires.rests)

pub load-number-requires : goal.load-number-requires
load-number-requires c = let place = c.word_of-word.ensures.word ∙ (ap (word_of_slot c.args.plan.now) c.requires.at ∙ ap (λ (p : SlotPlan). word_of_slot p c.args.chair.now.me.0.count) c.requires.plan) in
    let p = passed_on c.args.chair.now.me c.load-turn.new.seat.me c.load-turn.result c.word_of-word.result c.load-turn.ensures.2.0 c.requires.rests place (search rules) in
    (search rules, search rules, notes _ _ _ _ _ p.0 p.1 p.2)
