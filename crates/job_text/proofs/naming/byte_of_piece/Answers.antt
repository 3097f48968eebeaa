use Rattle.std.proofs.Common.{◌∙◌, ◌-◌, sym, ap, inl, [], arith, length, get_or}
use Rattle.std.specs.Prelude.{nat_lt}
use Rattle.job_text.proofs.PieceBytes.{empty, got, outside}
use Rattle.job_text.proofs.naming.byte_of_piece.Goals as goal

pub returns-in_err-index : goal.returns-in_err-index
returns-in_err-index c = c.from_residual.ensures ∙ sym (outside c.args.piece.now [] c.args.address (inl (omega (arith, c.in_err-index.ensures))) ∙ empty c.args.address)

pub returns : goal.returns
returns c =
    let is = c.in_ok-index.ensures in
    let some = c.get.ensures.lookup.0 ∙ ap (λ k. nat_lt k (length c.as_slice.result.now)) is.1 ∙ ap (λ bytes. nat_lt (c.args.address - c.args.piece.now.address) (length bytes)) c.as_slice.ensures in
    let value = c.get.ensures.lookup.4 (omega arith) 0 ∙ ap (λ k. get_or c.as_slice.result.now k 0) is.1 ∙ ap (λ bytes. get_or bytes (c.args.address - c.args.piece.now.address) 0) c.as_slice.ensures in
    c.copied.ensures ∙ got c.args.piece.now c.args.address c.get.result is.0 some value
