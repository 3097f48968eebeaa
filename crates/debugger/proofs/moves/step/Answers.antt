use Rattle.std.proofs.Common.{◌≡◌, ◌+◌, ◌≤◌, ℕ, min, ap, ◌∙◌, sym, subst, arith}
use Rattle.std.proofs.Math.Nat.{min_comm}
use Rattle.pmsi_model.specs.declared.job.Geometry.{Geometry}
use Rattle.sim_serial.specs.Sims.{IsSimOf}
use Rattle.debugger.proofs.Goes.{least_of}
use Rattle.debugger.proofs.moves.step.Goals as goal

pub returns-clause-machine : goal.returns-clause-machine
returns-clause-machine c = λ job slot at.
    let start : c.slot-start.result ≡ slot = c.slot-start.ensures.machine job slot at in
    let stop : c.shape.result.slots ≡ job.shape.slots = ap (λ (g : Geometry). g.slots) (c.shape.ensures.machine job slot at) in
    let end : c.min-end.result ≡ min c.shape.result.slots (c.slot-start.result + c.args.slots) = c.min-end.ensures in
    let within = at.side.within in
    let low : c.slot-start.result ≤ c.min-end.result = subst (λ (n : ℕ). c.slot-start.result ≤ n) (sym end) (least_of c.slot-start.result c.shape.result.slots (c.slot-start.result + c.args.slots) (omega arith) (omega arith)) in
    let most : c.loop-slot._slot ≤ c.min-end.result = c.loop-slot.auto._slot-end low in
    let least = c.loop-slot-test.false in
    let last : c.loop-slot._slot ≡ c.min-end.result = omega arith in
    let same : min c.shape.result.slots (c.slot-start.result + c.args.slots) ≡ min (slot + c.args.slots) job.shape.slots =
    ap (λ (n : ℕ). min n (c.slot-start.result + c.args.slots)) stop ∙ ap (λ (n : ℕ). min job.shape.slots (n + c.args.slots)) start ∙ min_comm job.shape.slots (slot + c.args.slots) in
    subst (λ (n : ℕ). IsSimOf job n c.loop-slot.sim) (last ∙ end ∙ same) (c.loop-slot.invariant.machine job slot at)
