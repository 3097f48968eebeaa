use Rattle.std.proofs.Common.{◌≡◌, ◌∙◌, ◌+◌, ◌≤◌, ℕ, ap, sym, subst, arith, true, false}
use Rattle.pmsi_model.specs.declared.job.Geometry.{Geometry}
use Rattle.pmsi_model.specs.Run.{machine_at}
use Rattle.sim_serial.specs.Sims.{IsSimOf}
use Rattle.script_text.specs.Output.{go_end, holds_any}
use Rattle.debugger.proofs.Goes.{go_stops, go_passes, go_from}
use Rattle.debugger.proofs.moves.go.Goals as goal

pub loop-slot-preserved : goal.loop-slot-preserved
loop-slot-preserved c = let before = c.loop-slot.invariant in record {
  now = c.step.ensures.slot ∙ ap (λ (n : ℕ). n + 1) before.now;
  shape = c.step.ensures.shape ∙ before.shape;
  machine = λ job slot at. c.step.ensures.machine job c.loop-slot._slot (before.machine job slot at);
  ends = λ job slot at.
      let now = c.step.ensures.machine job c.loop-slot._slot (before.machine job slot at) in
      let other : holds_any (machine_at job (c.loop-slot._slot + 1)) c.args.breaks.now ≡ false = sym (c.holds_any.ensures job (c.loop-slot._slot + 1) now) ∙ c.if-holds_any.false in
      before.ends job slot at ∙ go_passes job c.args.breaks.now c.loop-slot._slot (omega (arith, now.side.within)) other;
}

pub returns-then-holds_any-clause-machine : goal.returns-then-holds_any-clause-machine
returns-then-holds_any-clause-machine c = λ job slot at.
    let before = c.loop-slot.invariant in
    let now = c.step.ensures.machine job c.loop-slot._slot (before.machine job slot at) in
    let here : holds_any (machine_at job (c.loop-slot._slot + 1)) c.args.breaks.now ≡ true = sym (c.holds_any.ensures job (c.loop-slot._slot + 1) now) ∙ c.if-holds_any.true in
    let end : go_end job c.args.breaks.now slot ≡ c.loop-slot._slot + 1 = before.ends job slot at ∙ go_stops job c.args.breaks.now c.loop-slot._slot (omega (arith, now.side.within)) here in
    subst (λ (n : ℕ). IsSimOf job n c.step.new.self) (sym end) now

pub returns-clause-machine : goal.returns-clause-machine
returns-clause-machine c = λ job slot at.
    let start : c.slot-slot.result ≡ slot = c.slot-slot.ensures.machine job slot at in
    let stop : c.shape-slot-end.result.slots ≡ job.shape.slots = ap (λ (g : Geometry). g.slots) (c.shape-slot-end.ensures.machine job slot at) in
    let within = at.side.within in
    let low : c.slot-slot.result ≤ c.shape-slot-end.result.slots = omega arith in
    let most : c.loop-slot._slot ≤ c.shape-slot-end.result.slots = c.loop-slot.auto._slot-end low in
    let least = c.loop-slot-test.false in
    let last : c.loop-slot._slot ≡ job.shape.slots = omega arith in
    let end : go_end job c.args.breaks.now slot ≡ c.loop-slot._slot = c.loop-slot.invariant.ends job slot at ∙ go_from job c.args.breaks.now c.loop-slot._slot last in
    subst (λ (n : ℕ). IsSimOf job n c.loop-slot.sim) (sym end) (c.loop-slot.invariant.machine job slot at)
