use Rattle.std.proofs.Common.{◌≡◌, ◌++◌, length}
use Rattle.asm_parse.specs.Assembly.{behind_labels, labels_of}
use Rattle.asm_operands.specs.Meanings.{lexemes}
use Rattle.asm_parse.proofs.reader.take_labels.Given as goal

abbrev pub invariant-loop-rest : goal.invariant-loop-rest
invariant-loop-rest l = record {
  labels : lexemes l.labels.items ++ labels_of (lexemes l.rest) ≡ labels_of (lexemes l.fn.tokens);
  behind : behind_labels (lexemes l.rest) ≡ behind_labels (lexemes l.fn.tokens);
}

abbrev pub decreases-loop-rest : goal.decreases-loop-rest
decreases-loop-rest l = length l.rest
