use Rattle.std.proofs.Common.{rules, ◌≡◌}
use Rattle.script_text.specs.Output.{output_of}
use Rattle.tool_words.specs.Meaning.{debug}
use Rattle.tool_files.specs.Course.{ends, gives, script_file}
use Rattle.tool_files.specs.Stops.{Stops, files_call}
use Rattle.pmsi_tool.specs.Answers.{StopsOn}
use Rattle.pmsi_tool.proofs.Commands.{debug_stops, script_stops, debug_text}
use Rattle.pmsi_tool.proofs.debugged.debugged.Goals as goal

pub returns-in_err-job-clause-stop : goal.returns-in_err-job-clause-stop
returns-in_err-job-clause-stop g c =
    let stops : StopsOn (debug c.args.name.now c.args.script.now)
    (files_call (g.F.Files.contents c.args.files.now) (g.F.Files.faults c.args.files.now) (g.F.Files.faults c.read_job.new.files) (g.F.Files.blamed c.read_job.new.files)) c.in_err-job.field-0.0 =
    debug_stops (g.F.Files.contents c.args.files.now) (g.F.Files.faults c.args.files.now) (g.F.Files.faults c.read_job.new.files) (g.F.Files.blamed c.read_job.new.files) c.in_err-job.field-0.0
    c.args.name.now c.args.script.now c.in_err-job.ensures.stop in
    search (rules, stops)

pub returns-in_err-commands-clause-stop : goal.returns-in_err-commands-clause-stop
returns-in_err-commands-clause-stop g c =
    let here : Stops (script_file (g.F.Files.contents c.args.files.now) c.args.script.now c.in_ok-job.job.shape ends)
    (files_call (g.F.Files.contents c.args.files.now) (g.F.Files.faults c.read_job.new.files) (g.F.Files.faults c.read_script_file.new.files) (g.F.Files.blamed c.read_script_file.new.files)) c.in_err-commands.field-0.0 =
    rw (c.shape.ensures.shape, c.read_job.ensures.contents) at c.in_err-commands.ensures.stop in
    let stops : StopsOn (debug c.args.name.now c.args.script.now)
    (files_call (g.F.Files.contents c.args.files.now) (g.F.Files.faults c.args.files.now) (g.F.Files.faults c.read_script_file.new.files) (g.F.Files.blamed c.read_script_file.new.files)) c.in_err-commands.field-0.0 =
    script_stops (g.F.Files.contents c.args.files.now) (g.F.Files.faults c.read_job.new.files) (g.F.Files.faults c.read_script_file.new.files) (g.F.Files.blamed c.read_script_file.new.files) c.in_err-commands.field-0.0
    c.args.name.now c.args.script.now c.in_ok-job.job (g.F.Files.faults c.args.files.now) c.read_job.ensures.later c.in_ok-job.ensures.value here in
    search (rules, stops)

pub returns-clause-text : goal.returns-clause-text
returns-clause-text g c =
    let read : script_file (g.F.Files.contents c.args.files.now) c.args.script.now c.in_ok-job.job.shape ends (gives c.in_ok-commands.commands.items) =
    rw (c.shape.ensures.shape, c.read_job.ensures.contents) at c.in_ok-commands.ensures.value in
    let text : c.in_ok-run_script.field-0.items ≡ output_of c.in_ok-job.job c.in_ok-commands.commands.items = search rules in
    debug_text (g.F.Files.contents c.args.files.now) c.in_ok-run_script.field-0.items c.args.name.now c.args.script.now c.in_ok-job.job c.in_ok-commands.commands.items c.in_ok-job.ensures.value read text
