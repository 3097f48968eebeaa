use Rattle.std.proofs.Common.{rules}
use Rattle.asm_link.proofs.Ready.{ready_has_row}
use Rattle.asm_link.specs.Resolved.{AreRegs}
use Rattle.asm_link.proofs.resolve.word_of_instr.Goals as goal

pub encode-requires : goal.encode-requires
encode-requires c =
    let regs : AreRegs c.args.instr = search rules in
    ready_has_row c.args.instr regs c.requires
