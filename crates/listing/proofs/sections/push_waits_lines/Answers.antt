use Rattle.pmsi_model.specs.Rows.{rows_of}
use Rattle.listing.proofs.WaitLines.{waits_more}
use Rattle.listing.proofs.sections.push_waits_lines.Goals as goal

pub loop-c-preserved : goal.loop-c-preserved
loop-c-preserved c = λ job slot at.
    waits_more (rows_of job slot) c.rows.result.now c.loop-c.c c.args.out.now.items c.loop-c.out.items c.push_waits_line.new.out.items (c.rows.ensures.own job slot at) (c.loop-c.invariant job slot at) c.in_ok-push_waits_line.ensures
