use Rattle.std.proofs.Common.{rules, ◌≡◌}
use Rattle.pmsi_model.specs.Listing.{summary_of}
use Rattle.tool_files.specs.Course.{ends, keeps_nothing, planned}
use Rattle.tool_files.specs.Stops.{Stops, files_call}
use Rattle.pmsi_tool.proofs.Commands.{summary_stops, summary_text}
use Rattle.pmsi_tool.proofs.made.run_summary.Goals as goal

pub returns-in_err-job-clause-stop : goal.returns-in_err-job-clause-stop
returns-in_err-job-clause-stop g c =
    let stops : Stops (planned (g.F.Files.contents c.args.files.now) keeps_nothing (λ j. ends (summary_of j)) c.args.plan.now)
    (files_call (g.F.Files.contents c.args.files.now) (g.F.Files.faults c.args.files.now) (g.F.Files.faults c.read_planned.new.files) (g.F.Files.blamed c.read_planned.new.files)) c.in_err-job.field-0.0 =
    summary_stops (g.F.Files.contents c.args.files.now) (g.F.Files.faults c.args.files.now) (g.F.Files.faults c.read_planned.new.files) (g.F.Files.blamed c.read_planned.new.files) c.in_err-job.field-0.0
    c.args.plan.now c.in_err-job.ensures.stop in
    search (rules, stops)

pub returns-clause-text : goal.returns-clause-text
returns-clause-text g c =
    let text : c.in_ok-summary_after.field-0.items ≡ summary_of c.in_ok-job.job = search rules in
    summary_text (g.F.Files.contents c.args.files.now) c.in_ok-summary_after.field-0.items c.args.plan.now c.in_ok-job.job c.in_ok-job.ensures.value text
