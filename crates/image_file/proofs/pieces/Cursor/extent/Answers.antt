use Rattle.std.proofs.Common.{arith}
use Rattle.std.proofs.lemmas.Bool.Decides.{nat_tests}
use Rattle.image_file.specs.Checks.{piece_checks, piece_place}
use Rattle.image_file.proofs.Places.{whole_piece}
use Rattle.image_file.proofs.pieces.Cursor.extent.Goals as goal

pub returns-clause-whole : goal.returns-clause-whole
unfolding piece_checks piece_place
returns-clause-whole c = whole_piece c.args.bytes.now c.args.self.now.index (grind (arith, nat_tests))
