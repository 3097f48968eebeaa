use Rattle.std.proofs.Common.{subst, sym, Some, None, arith}
use Rattle.job_text.specs.Joining.{IsFirstPast, byte_in}
use Rattle.job_text.specs.Joins.{IsBeyond, IsLeast}
use Rattle.job_text.proofs.ImageBytes.{past_here, within_all, within_next}
use Rattle.job_text.proofs.joining.first_past.Goals as goal

pub loop-image-init : goal.loop-image-init
loop-image-init c = record { at = omega arith; within = record { to = λ other address low past. omega arith } }

pub loop-image-preserved : goal.loop-image-preserved
loop-image-preserved c =
    let none = subst (λ pieces. IsLeast (λ address. IsBeyond c.args.shape.memory address (byte_in pieces address)) None) c.pieces.ensures.pieces c.in_default.ensures in
    record {
      at = omega (arith, c.loop-image.invariant.at);
      within = record { to = within_next c.args.shape c.args.images.now c.loop-image.image-index c.loop-image.invariant.within c.image-item.result c.loop-image-test.true c.image-item.is none };
    }

pub returns-in-Some : goal.returns-in-Some
returns-in-Some c =
    let least = subst (λ pieces. IsLeast (λ address. IsBeyond c.args.shape.memory address (byte_in pieces address)) (Some c.in-Some.address)) c.pieces.ensures.pieces c.in-Some.ensures in
    subst (λ core. IsFirstPast c.args.shape c.args.images.now core c.in-Some.address) (sym c.loop-image.invariant.at)
    (past_here c.args.shape c.args.images.now c.loop-image.image-index c.loop-image.invariant.within c.image-item.result c.in-Some.address c.loop-image-test.true c.image-item.is least)

pub returns : goal.returns
returns c = within_all c.args.shape c.args.images.now c.loop-image.image-index c.loop-image-test.false c.loop-image.invariant.within
