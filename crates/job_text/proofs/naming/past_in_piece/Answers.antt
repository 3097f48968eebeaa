use Rattle.std.proofs.Common.{◌≡◌, ap, length, subst, sym, Some, arith, ◌∷◌, []}
use Rattle.job_text.specs.Joining.{byte_in}
use Rattle.job_text.specs.Joins.{IsLeast, IsBeyond}
use Rattle.job_text.proofs.NamedCells.{past_none, past_some}
use Rattle.job_text.proofs.naming.past_in_piece.Goals as goal

pub returns-then-end-memory : goal.returns-then-end-memory
returns-then-end-memory c =
    let count : length c.as_slice.result.now ≡ length c.args.piece.now.bytes = ap length c.as_slice.ensures in
    subst (λ n. IsLeast (λ address. IsBeyond c.args.memory address (byte_in (c.args.piece.now ∷ []) address)) (Some n)) (sym c.max.ensures) (past_some c.args.piece.now c.args.memory c.requires.some (omega (arith, count)))

pub returns-else-end-memory : goal.returns-else-end-memory
returns-else-end-memory c =
    let count : length c.as_slice.result.now ≡ length c.args.piece.now.bytes = ap length c.as_slice.ensures in
    past_none c.args.piece.now c.args.memory (omega (arith, count))
