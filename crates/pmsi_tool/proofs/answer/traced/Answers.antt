use Rattle.std.proofs.Common.{rules, ◌≡◌}
use Rattle.tool_words.specs.Meaning.{trace}
use Rattle.tool_files.specs.Course.{actions_text}
use Rattle.tool_files.specs.Stops.{files_call}
use Rattle.pmsi_tool.specs.Answers.{StopsOn}
use Rattle.pmsi_tool.proofs.Commands.{trace_stops, trace_text}
use Rattle.pmsi_tool.proofs.answer.traced.Goals as goal

pub returns-in_err-job-clause-stop : goal.returns-in_err-job-clause-stop
returns-in_err-job-clause-stop g c =
    let stops : StopsOn (trace c.args.name.now)
    (files_call (g.F.Files.contents c.args.files.now) (g.F.Files.faults c.args.files.now) (g.F.Files.faults c.read_job.new.files) (g.F.Files.blamed c.read_job.new.files)) c.in_err-job.field-0.0 =
    trace_stops (g.F.Files.contents c.args.files.now) (g.F.Files.faults c.args.files.now) (g.F.Files.faults c.read_job.new.files) (g.F.Files.blamed c.read_job.new.files) c.in_err-job.field-0.0
    c.args.name.now c.in_err-job.ensures.stop in
    search (rules, stops)

pub returns-clause-text : goal.returns-clause-text
returns-clause-text g c =
    let text : c.in_ok-actions_of.field-0.items ≡ actions_text c.in_ok-job.job = search rules in
    trace_text (g.F.Files.contents c.args.files.now) c.args.name.now c.in_ok-actions_of.field-0.items c.in_ok-job.job c.in_ok-job.ensures.value text
