use Rattle.std.proofs.Common.{◌≡◌, drop, map}
use Rattle.asm_operands.specs.Numbers.{value_in}
use Rattle.asm_operands.proofs.table.value_in.Given as goal

abbrev pub invariant-loop-row : goal.invariant-loop-row
invariant-loop-row g l = value_in (map (λ row. (row.0.now, row.1)) (drop l.row-index l.table)) l.name ≡ value_in (map (λ row. (row.0.now, row.1)) l.table) l.name
