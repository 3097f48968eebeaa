use Rattle.std.proofs.Common.{arith}
use Rattle.std.specs.Prelude.{◌==◌}
use Rattle.trace_text.proofs.Cuts.{no_mark, at_mark}
use Rattle.trace_text.proofs.parts.cut.Goals as goal

pub returns-then-end-bytes : goal.returns-then-end-bytes
returns-then-end-bytes c = at_mark (λ byte. byte == c.args.mark) c.args.bytes.now c.part_len-end.result c.part_len-end.ensures (omega arith)

pub returns-else-end-bytes : goal.returns-else-end-bytes
returns-else-end-bytes c = no_mark (λ byte. byte == c.args.mark) c.args.bytes.now c.part_len-end.result c.part_len-end.ensures (omega arith)
