use Rattle.std.proofs.Common.{◌≡◌, Bool, true, refl, sym, ◌∙◌, subst}
use Rattle.pmsi_model.specs.declared.Keep.{Keep}
use Rattle.listing.specs.Rests.{rest_at}
use Rattle.listing.proofs.Slots.{with_touches, without_touches}
use Rattle.listing.proofs.merge.rest_of.Goals as goal

pub returns-then-with_touches : goal.returns-then-with_touches
returns-then-with_touches c = λ job slot at kept.
    let keep : Keep = record { trace = c.args.sim.now.bus.keeps; touches = true } in
    let keeps = c.core-core.ensures.keeps keep (record { trace = refl; touches = kept c.if-with_touches.true }) in
    subst (λ (b : Bool). c.new.result ≡ rest_at job b 0 slot c.args.c) (sym c.if-with_touches.true)
    (with_touches job slot c.args.c c.rows.result.now c.touches.result.now c.new.result c.new.ensures (c.rows.ensures ∙ c.core-core.ensures.rows job slot at)
    (c.touches.ensures ∙ c.core-core.ensures.touches job slot at keeps))

pub returns-else-with_touches : goal.returns-else-with_touches
returns-else-with_touches c = λ job slot at kept.
    subst (λ (b : Bool). c.new-else-with_touches.result ≡ rest_at job b 0 slot c.args.c) (sym c.if-with_touches.false)
    (without_touches job slot c.args.c c.rows-else-with_touches.result.now c.new-else-with_touches.result c.new-else-with_touches.ensures
    (c.rows-else-with_touches.ensures ∙ c.core-core.ensures.rows job slot at))
