use Rattle.std.proofs.Common.{ap, sym, subst, Err, Ok, inl, inr, arith}
use Rattle.std.proofs.lemmas.Result.{err_from_is_err_and}
use Rattle.image_file.specs.Format.{IsBytesOf}
use Rattle.image_file.proofs.Images.{read_is, one_image, only_memory}
use Rattle.image_file.proofs.reading.read_image.Goals as goal

pub returns-in_err-text-clause-reads : goal.returns-in_err-text-clause-reads
returns-in_err-text-clause-reads c = λ image is.
    let p = err_from_is_err_and c.from_residual.result c.from_residual.ensures.1 in
    let memory = only_memory image c.args.bytes.now c.in_err-text.field-0.0 is c.in_err-text.ensures.err in
    inr (rw (p.1, p.2) (ap Err memory))

pub new-requires : goal.new-requires
new-requires c =
    let parts = c.in_ok-text.ensures.ok in
    (read_is c.args.bytes.now c.in_ok-text.text c.in_ok-text.pieces (λ i. omega (arith, c.type_inv.bytes i)) parts.0 parts.1 parts.2).within

pub returns-clause-image : goal.returns-clause-image
returns-clause-image c =
    let parts = c.in_ok-text.ensures.ok in
    subst (λ image. IsBytesOf image c.args.bytes.now) (sym c.new.ensures)
    (read_is c.args.bytes.now c.in_ok-text.text c.in_ok-text.pieces (λ i. omega (arith, c.type_inv.bytes i)) parts.0 parts.1 parts.2)

pub returns-clause-reads : goal.returns-clause-reads
returns-clause-reads c = λ image is. inl (ap Ok (one_image c.new.result image c.args.bytes.now (returns-clause-image c) is))
