use Rattle.std.proofs.Common.{◌-◌, length, arith, ap}
use Rattle.asm_link.proofs.MemoryPieces.{IsRun, starts, goes_on, moves_on, next_within, ends}
use Rattle.asm_link.proofs.byte_map.ByteMap.pieces.Goals as goal

pub loop-address-init : goal.loop-address-init
loop-address-init c = rw c.new-pieces.ensures.items (starts c.args.self.now)

pub run_at-requires : goal.run_at-requires
run_at-requires c = omega (arith, next_within _ _ _ _ c.in-Some.ensures, ap length c.self.view_is)

is_run : (c : goal.In_ok-push) → IsRun c.args.self.now c.in-Some.address c.in_ok-run.run'.items
is_run c = record { within = c.in_ok-run.ensures.within; bytes = c.in_ok-run.ensures.bytes; stops = c.in_ok-run.ensures.stops; fit = rw c.piece_of.ensures.piece at c.piece_of.ensures.bytes }

pub loop-address-smaller : goal.loop-address-smaller
loop-address-smaller c = omega (arith, moves_on _ _ _ _ _ c.in-Some.ensures (is_run c), c.in_ok-run.ensures.within, c.len.ensures)

pub loop-address-preserved : goal.loop-address-preserved
loop-address-preserved c =
    rw (c.in_ok-push.ensures.items, c.piece_of.ensures.piece)
    (goes_on _ _ _ _ _ _ _ (omega (arith, ap length c.self.view_is, c.self.invariant)) (omega (arith, c.len.ensures)) c.loop-address.invariant c.in-Some.ensures (is_run c))

pub returns-clause-memory : goal.returns-clause-memory
returns-clause-memory c =
    ends _ _ (c.len-count.result - c.loop-address.from) _ (omega (arith, ap length c.self.view_is, c.loop-address.invariant.within)) c.loop-address.invariant c.in_default.ensures
