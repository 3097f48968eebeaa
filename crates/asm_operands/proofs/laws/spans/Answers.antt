use Rattle.asm_operands.proofs.Spans.{apart, starts}
use Rattle.asm_operands.proofs.laws.spans.Goals as goal

pub returns : goal.returns
returns c = record { apart = apart; starts = starts }
