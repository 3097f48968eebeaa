-- A victim has to be written back.
use Rattle.std.proofs.Common.{◌≡◌, Some, sym, ap, ◌∙◌}
use Rattle.pmsi_model.specs.Machine.{CoreState}
use Rattle.pmsi_model.specs.Run.{machine_at}
use Rattle.coherence_laws.proofs.Exports.{stays_coherent}
use Rattle.pend_buffers.specs.Pending.{PendingValue}
use Rattle.latency.specs.Waits.{HasToWriteBack}
use Rattle.latency.proofs.Queued.{if_some}
use Rattle.latency.proofs.remaining.Goals as goal

pub unposted_left-requires-clause-victim : goal.unposted_left-requires-clause-victim
unposted_left-requires-clause-victim c = let want = c.in_ok-want.want in
    if_some want.victim (λ line. HasToWriteBack c.args.c line c.args.sim.now) (λ victim is job slot at.
    let wanted : ((machine_at job slot).cores c.args.c).want ≡ Some want =
    ap (λ (k : CoreState). k.want) (sym (c.core.ensures.machine job slot at)) ∙ ap (λ (p : PendingValue). p.want) (sym c.pending.ensures) ∙ sym c.want.ensures ∙ c.in_ok-want.was in
    (stays_coherent job at.parts.within slot).victim_waits c.args.c want victim wanted is)
