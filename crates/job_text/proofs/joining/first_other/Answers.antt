use Rattle.std.proofs.Common.{◌≡◌, ◌∙◌, ap, refl, subst, sym, Some, arith}
use Rattle.job_text.specs.Joining.{byte_in, byte_of}
use Rattle.job_text.specs.Joins.{IsLeast, IsOther}
use Rattle.job_text.proofs.FirstDifferences.{core_here, core_none, none_next}
use Rattle.job_text.proofs.joining.first_other.Goals as goal

pub loop-image-init : goal.loop-image-init
loop-image-init c = record { at = omega arith; none = λ core low other. omega arith }

pub loop-image-preserved : goal.loop-image-preserved
loop-image-preserved c =
    let byte : c.byte_in.result ≡ byte_in c.image-item.result.pieces c.args.address = c.byte_in.ensures ∙ ap (λ pieces. byte_in pieces c.args.address) c.pieces.ensures.pieces in
    record {
      at = omega (arith, c.loop-image.invariant.at);
      none = none_next c.args.images.now c.args.address c.args.cell c.loop-image.image-index c.image-item.result c.loop-image-test.true c.image-item.is c.loop-image.invariant.none
          (λ other. let no = c.if-is_other.ensures.1 (subst (λ b. IsOther b c.args.cell) (sym byte) other) in absurd cc);
    }

pub returns-then-is_other : goal.returns-then-is_other
returns-then-is_other c =
    let byte : c.byte_in.result ≡ byte_in c.image-item.result.pieces c.args.address = c.byte_in.ensures ∙ ap (λ pieces. byte_in pieces c.args.address) c.pieces.ensures.pieces in
    subst (λ core. IsLeast (λ core. IsOther (byte_of c.args.images.now core c.args.address) c.args.cell) (Some core)) (sym c.loop-image.invariant.at)
    (core_here c.args.images.now c.args.address c.args.cell c.loop-image.image-index c.image-item.result c.loop-image-test.true c.image-item.is c.loop-image.invariant.none
    (subst (λ b. IsOther b c.args.cell) byte (c.if-is_other.ensures.0 refl)))

pub returns : goal.returns
returns c = core_none c.args.images.now c.args.address c.args.cell c.loop-image.image-index c.loop-image-test.false c.loop-image.invariant.none
