use Rattle.std.proofs.Common.{[]}
use Rattle.std.specs.Prelude.{take}
use Rattle.asm_operands.specs.Meanings.{lexemes}
use Rattle.asm_link.specs.Defined.{Defines, labelled}
use Rattle.asm_link.proofs.definitions.define_labels.Given as goal

abbrev pub invariant-loop-label : goal.invariant-loop-label
invariant-loop-label l = Defines l.fn.names l.names (lexemes (take l.label-index l.labels)) (labelled (lexemes (take l.label-index l.labels)) l.address) []
