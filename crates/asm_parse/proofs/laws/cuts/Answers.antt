use Rattle.asm_parse.proofs.LineCuts.{none, last, first}
use Rattle.asm_parse.proofs.laws.cuts.Goals as goal

pub returns : goal.returns
returns c = record { none = none; last = last; first = first }
