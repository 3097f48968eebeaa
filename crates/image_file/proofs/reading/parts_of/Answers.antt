use Rattle.std.proofs.Common.{◌∙◌}
use Rattle.std.proofs.lemmas.Result.{err_from_is_err_and}
use Rattle.std.specs.Prelude.{Some, None}
use Rattle.image_file.proofs.Images.{header_fault, pieces_fault}
use Rattle.image_file.proofs.reading.parts_of.Goals as goal

pub returns-in_err-header-clause-err : goal.returns-in_err-header-clause-err
returns-in_err-header-clause-err c =
    let p = err_from_is_err_and c.from_residual.result c.from_residual.ensures.1 in
    rw (p.1, p.2) (λ _. header_fault c.args.bytes.now c.in_err-header.field-0.0 c.in_err-header.ensures.err)

pub returns-in_err-pieces-clause-err : goal.returns-in_err-pieces-clause-err
returns-in_err-pieces-clause-err c =
    let p = err_from_is_err_and c.from_residual-in_err-pieces.result c.from_residual-in_err-pieces.ensures.1 in
    rw (p.1, p.2) (λ free. pieces_fault c.args.bytes.now (Some c.in_err-pieces.field-0.0) c.in_ok-header.ensures.ok.0 (c.in_err-pieces.ensures.err free))

pub returns-clause-ok : goal.returns-clause-ok
returns-clause-ok c = (
  pieces_fault c.args.bytes.now None c.in_ok-header.ensures.ok.0 c.in_ok-pieces.ensures.ok.0,
  c.from_vec.ensures ∙ c.in_ok-words.ensures,
  c.from_vec-2.ensures ∙ c.in_ok-pieces.ensures.ok.1,
)
