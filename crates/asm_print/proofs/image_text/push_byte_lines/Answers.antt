use Rattle.std.proofs.Common.{◌<◌, length, arith}
use Rattle.asm_print.proofs.GrownTexts.{byte_lines_further}
use Rattle.asm_print.proofs.image_text.push_byte_lines.Goals as goal

pub loop-rest-preserved : goal.loop-rest-preserved
loop-rest-preserved c =
    let some : 0 < length c.loop-rest.rest.now = grind arith in
    byte_lines_further _ _ _ c.loop-rest.rest.now _ _ c.min.result some c.min.ensures c.split_at.ensures.front c.split_at.ensures.back c.loop-rest.invariant c.in_ok-push_byte_line.ensures
