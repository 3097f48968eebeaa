use Rattle.std.proofs.Common.{sym, subst, arith}
use Rattle.std.proofs.lemmas.Result.{err_from_is_err_and}
use Rattle.image_file.proofs.PieceLoop.{IsSoFar, starts, goes_on, stops, finds_extra, is_done}
use Rattle.image_file.proofs.pieces.pieces_of.Goals as goal

pub loop-init : goal.loop-init
loop-init c = subst (λ pieces. IsSoFar c.args.bytes.now 0 (record { index = 0; place = c.args.place; least = 0 }) pieces) (sym c.new-pieces.ensures.items) (starts c.args.bytes.now c.args.place c.requires.place.0 c.requires.place.1)

pub returns-in_err-piece-clause-err : goal.returns-in_err-piece-clause-err
returns-in_err-piece-clause-err c =
    let p = err_from_is_err_and c.from_residual.result c.from_residual.ensures.1 in
    rw (p.1, p.2) (λ free. stops c.args.bytes.now c.loop.counter c.loop.cursor c.loop.pieces.items c.in_err-piece.field-0.0 c.loop.invariant (omega arith) (c.in_err-piece.ensures.err free))

pub loop-preserved : goal.loop-preserved
loop-preserved c =
    let piece = c.in_ok-piece.ensures in
    rw c.in_ok-push.ensures.items
    (goes_on c.args.bytes.now c.loop.counter c.loop.cursor c.piece.new.self c.loop.pieces.items c.in_ok-piece.field-0 c.loop.invariant (omega arith) piece.at.0 piece.at.1 piece.ok.0 piece.ok.1)

pub returns-then-cursor-bytes-clause-err : goal.returns-then-cursor-bytes-clause-err
returns-then-cursor-bytes-clause-err c = λ _. finds_extra c.args.bytes.now c.loop.counter c.loop.cursor c.loop.pieces.items c.loop.invariant (omega arith) c.if-cursor-bytes.true

pub returns-clause-ok : goal.returns-clause-ok
returns-clause-ok c = is_done c.args.bytes.now c.loop.counter c.loop.cursor c.loop.pieces.items c.loop.invariant (omega arith) c.if-cursor-bytes.false
