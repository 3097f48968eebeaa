-- The owner, or the first of the queue, is one of the cores, and the owner has the line to write back.
use Rattle.std.proofs.Common.{◌≡◌, ◌<◌, ℕ, Option, Some, sym, ap, ◌∙◌, subst}
use Rattle.std.specs.Option.{unwrap_or}
use Rattle.pmsi_model.specs.Machine.{first_of}
use Rattle.pmsi_model.specs.Run.{machine_at}
use Rattle.pmsi_model.specs.Shared.{BusSide, IsShared, SharedValue, owner_in}
use Rattle.coherence_laws.proofs.Exports.{stays_coherent}
use Rattle.sim_serial.specs.Sims.{shape_of}
use Rattle.sim_serial.proofs.Exports.{owner_within}
use Rattle.latency.proofs.Queued.{first_below, owner_waits}
use Rattle.latency.proofs.waits.posted_left.Goals as goal

pub back_slots-requires-clause-core : goal.back_slots-requires-clause-core
back_slots-requires-clause-core c = let sim = c.bus.ensures.sim in let m : SharedValue = c.args.sim.now.bus.memory in
    let here : c.memory-memory.result.now ≡ m = c.memory-memory.ensures.memory ∙ ap (λ (b : BusSide). b.memory) c.bus.ensures.value in
    let owned : owner_in m c.args.line ≡ Some c.in-Some-owner.owner = ap (λ (s : SharedValue). owner_in s c.args.line) (sym here) ∙ sym c.owner.ensures ∙ c.in-Some-owner.is in
    owner_within sim.job c.args.sim.now.bus.slot c.args.sim.now sim.at c.args.line c.in-Some-owner.owner owned

pub back_slots-requires-clause-waits : goal.back_slots-requires-clause-waits
back_slots-requires-clause-waits c = λ job slot at. let m : SharedValue = c.args.sim.now.bus.memory in
    let here : c.memory-memory.result.now ≡ m = c.memory-memory.ensures.memory ∙ ap (λ (b : BusSide). b.memory) c.bus.ensures.value in
    let owned : owner_in m c.args.line ≡ Some c.in-Some-owner.owner = ap (λ (s : SharedValue). owner_in s c.args.line) (sym here) ∙ sym c.owner.ensures ∙ c.in-Some-owner.is in
    owner_waits job.shape (machine_at job slot) job.shape.cores c.args.c c.args.line c.in-Some-owner.owner (stays_coherent job at.parts.within slot)
    (sym (at.side.memory.owners c.args.line) ∙ owned) (c.requires.posted job slot at)

pub request_slots-first-requires : goal.request_slots-first-requires
request_slots-first-requires c = let m : SharedValue = c.args.sim.now.bus.memory in
    let here : c.memory-memory.result.now ≡ m = c.memory-memory.ensures.memory ∙ ap (λ (b : BusSide). b.memory) c.bus.ensures.value in
    let shared : IsShared m = subst IsShared (ap (λ (b : BusSide). b.memory) c.bus.ensures.value) c.memory-memory.ensures.bus.shared in
    let first : c.unwrap_or.result ≡ unwrap_or (first_of c.args.line m.posted) c.args.c =
    c.unwrap_or.ensures ∙ ap (λ (o : Option ℕ). unwrap_or o c.args.c) (c.first.ensures ∙ ap (λ (s : SharedValue). first_of c.args.line s.posted) here) in
    subst (λ (n : ℕ). n < (shape_of c.args.sim.now).cores) (sym first) (first_below m c.args.line c.args.c shared c.requires.core)
