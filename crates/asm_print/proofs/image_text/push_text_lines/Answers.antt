use Rattle.asm_print.proofs.GrownTexts.{lines_further}
use Rattle.asm_print.proofs.image_text.push_text_lines.Goals as goal

pub loop-place-preserved : goal.loop-place-preserved
loop-place-preserved c = lines_further _ _ _ c.args.words.now c.loop-place.place c.loop-place-test.true c.loop-place.invariant c.in_ok-push_text_line.ensures
