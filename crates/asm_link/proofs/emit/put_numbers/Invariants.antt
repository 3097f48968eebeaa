use Rattle.std.proofs.Common.{◌≡◌, ◌+◌, length, take}
use Rattle.std.specs.List.{flat_map}
use Rattle.asm_link.specs.Bytes.{Overwrites}
use Rattle.asm_link.specs.Values.{held}
use Rattle.asm_link.specs.Placed.{number_bytes}
use Rattle.asm_link.proofs.emit.put_numbers.Given as goal

abbrev pub invariant-loop-number : goal.invariant-loop-number
invariant-loop-number l =
    Overwrites l.fn.memory l.memory l.address (flat_map (number_bytes (held l.names) l.width) (take l.number-index l.numbers))
    × (l.at ≡ l.address + length (flat_map (number_bytes (held l.names) l.width) (take l.number-index l.numbers)))
