use Rattle.std.proofs.Common.{rules}
use Rattle.tool_files.specs.Course.{ends, gives, job_file, planned}
use Rattle.tool_files.specs.Stops.{Stops, files_call}
use Rattle.tool_files.proofs.FileReads.{plan_read, planned_stops}
use Rattle.tool_files.proofs.files.read_job.Goals as goal

pub returns-in_err-read_planned-clause-stop : goal.returns-in_err-read_planned-clause-stop
returns-in_err-read_planned-clause-stop g c =
    let here : Stops (planned (g.F.Files.contents c.args.files.now) c.args.keep ends c.in_ok-plan.plan)
    (files_call (g.F.Files.contents c.args.files.now) (g.F.Files.faults c.read_plan_file.new.files) (g.F.Files.faults c.read_planned.new.files) (g.F.Files.blamed c.read_planned.new.files)) c.in_err-read_planned.field-0.0 =
    rw c.read_plan_file.ensures.contents at c.in_err-read_planned.ensures.stop in
    let stops : Stops (job_file (g.F.Files.contents c.args.files.now) c.args.keep c.args.name.now ends)
    (files_call (g.F.Files.contents c.args.files.now) (g.F.Files.faults c.args.files.now) (g.F.Files.faults c.read_planned.new.files) (g.F.Files.blamed c.read_planned.new.files)) c.in_err-read_planned.field-0.0 =
    planned_stops (g.F.Files.contents c.args.files.now) c.args.keep c.args.name.now c.in_ok-plan.plan (g.F.Files.faults c.args.files.now)
    (files_call (g.F.Files.contents c.args.files.now) (g.F.Files.faults c.read_plan_file.new.files) (g.F.Files.faults c.read_planned.new.files) (g.F.Files.blamed c.read_planned.new.files)) c.in_err-read_planned.field-0.0
    c.read_plan_file.ensures.later c.in_ok-plan.ensures.value here in
    search (rules, stops)

pub returns-clause-value : goal.returns-clause-value
returns-clause-value g c =
    let here : planned (g.F.Files.contents c.args.files.now) c.args.keep ends c.in_ok-plan.plan (gives c.in_ok-read_planned.field-0) =
    rw c.read_plan_file.ensures.contents at c.in_ok-read_planned.ensures.value in
    plan_read (g.F.Files.contents c.args.files.now) c.args.keep c.args.name.now c.in_ok-plan.plan (gives c.in_ok-read_planned.field-0) c.in_ok-plan.ensures.value here
