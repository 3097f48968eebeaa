use Rattle.std.proofs.Common.{◌≡◌, ◌++◌, map, take}
use Rattle.asm_link.specs.Values.{held}
use Rattle.asm_link.specs.Placed.{number_word}
use Rattle.asm_link.proofs.emit.push_numbers.Given as goal

abbrev pub invariant-loop-number : goal.invariant-loop-number
invariant-loop-number l = l.words.items ≡ l.fn.words.items ++ map (number_word (held l.names)) (take l.number-index l.numbers)
