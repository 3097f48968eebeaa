-- The place of the line, and the core's turn.
use Rattle.std.proofs.Common.{◌≡◌, Some, refl, sym, ap, ◌∙◌}
use Rattle.pmsi_model.specs.Run.{machine_at}
use Rattle.pmsi_model.specs.Machine.{CoreState}
use Rattle.pmsi_model.specs.Slots.{distance as distance_to_own, gap_of, plan_of}
use Rattle.pmsi_model.specs.Waiting.{back_delay, place_of}
use Rattle.pend_buffers.specs.Pending.{PendingValue, place_in}
use Rattle.latency.proofs.Queued.{place_is}
use Rattle.latency.proofs.waits.back_slots.Goals as goal

pub returns-clause-value : goal.returns-clause-value
returns-clause-value c = λ job slot at. let k : CoreState = (machine_at job slot).cores c.args.c in let line = c.args.line in
    let machine = c.core.ensures.machine job slot at in
    let listed : c.pending-pending.result.now.write_backs ≡ k.write_backs = ap (λ (p : PendingValue). p.write_backs) c.pending-pending.ensures ∙ ap (λ (j : CoreState). j.write_backs) machine in
    let found : Some c.in-Some.place ≡ Some (place_of line k.write_backs) =
    sym c.in-Some.is ∙ c.place.ensures.place ∙ ap (place_in line) listed ∙ place_is line k.write_backs (c.requires.waits job slot at) in
    let place : c.from.result ≡ place_of line k.write_backs = cc in
    let turn : c.turn.result ≡ k.turn = c.turn.ensures ∙ ap (λ (p : PendingValue). p.turn) c.pending-pending.ensures ∙ ap (λ (j : CoreState). j.turn) machine in
    let delay : c.back_delay.result ≡ back_delay k.turn = c.back_delay.ensures ∙ ap back_delay turn in
    let own : c.own_slots.result ≡ distance_to_own (plan_of job) c.args.c (machine_at job slot).slot = c.own_slots.ensures.value job slot at in
    let gap : c.gap_slots.result ≡ gap_of (plan_of job) = c.gap_slots.ensures.value job slot at in
    rw (own, gap, place, delay) refl
