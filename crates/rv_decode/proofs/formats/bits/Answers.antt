use Rattle.std.proofs.Common.{w32, SFits}
use Rattle.std.proofs.lemmas.Int.{to_z-of_z}
use Rattle.std.proofs.lemmas.Nat.{and_mask, one_shl}
use Rattle.rv_decode.proofs.formats.bits.Goals as goal

pub returns : goal.returns
returns c =
    let fits : SFits w32 c.args.imm = c.ranges.imm in
    let word = simp to_z-of_z at c.cast_unsigned.ensures in
    rw (one_shl c.args.count 32 c.requires.count, and_mask, word)
