use Rattle.std.proofs.Common.{◌≡◌, ◌+◌, ◌≤◌, ℕ, ap, ◌∙◌, sym, subst, arith}
use Rattle.pmsi_model.specs.declared.job.Geometry.{Geometry}
use Rattle.sim_serial.specs.Sims.{IsSimOf, shape_of}
use Rattle.sim_serial.proofs.sim.Sim.run.Goals as goal

pub loop-slot-preserved : goal.loop-slot-preserved
loop-slot-preserved c = let before = c.loop-slot.invariant in record {
  now = c.step.ensures.slot ∙ ap (λ (n : ℕ). n + 1) before.now;
  shape = c.step.ensures.shape ∙ before.shape;
  machine = λ job slot at. c.step.ensures.machine job c.loop-slot._slot (before.machine job slot at);
  keeps = λ keep is. c.step.ensures.keeps keep (before.keeps keep is);
}

pub returns-clause-machine : goal.returns-clause-machine
returns-clause-machine c = λ job slot at.
    let start : c.slot-slot.result ≡ slot = c.slot-slot.ensures.machine job slot at in
    let stop : c.shape-slot-end.result.slots ≡ job.shape.slots = ap (λ (g : Geometry). g.slots) (c.shape-slot-end.ensures.machine job slot at) in
    let within = at.side.within in
    let low : c.slot-slot.result ≤ c.shape-slot-end.result.slots = omega arith in
    let most : c.loop-slot._slot ≤ c.shape-slot-end.result.slots = c.loop-slot.auto._slot-end low in
    let least = c.loop-slot-test.false in
    let last : c.loop-slot._slot ≡ job.shape.slots = omega arith in
    subst (λ (n : ℕ). IsSimOf job n c.loop-slot.self) last (c.loop-slot.invariant.machine job slot at)

pub returns-clause-slot : goal.returns-clause-slot
returns-clause-slot c =
    let low = c.slot-slot.ensures.within in
    let stop : c.shape-slot-end.result ≡ shape_of c.args.self.now = c.shape-slot-end.ensures.value in
    let same : c.shape-slot-end.result.slots ≡ (shape_of c.args.self.now).slots = ap (λ (g : Geometry). g.slots) stop in
    let begin : c.slot-slot.result ≤ c.shape-slot-end.result.slots = subst (λ (n : ℕ). c.slot-slot.result ≤ n) (sym same) low in
    let most : c.loop-slot._slot ≤ c.shape-slot-end.result.slots = c.loop-slot.auto._slot-end begin in
    let least = c.loop-slot-test.false in
    let last : c.loop-slot._slot ≡ c.shape-slot-end.result.slots = omega arith in
    c.loop-slot.invariant.now ∙ last ∙ ap (λ (g : Geometry). g.slots) (stop ∙ sym c.loop-slot.invariant.shape)
