use Rattle.std.proofs.Common.{rules, ◌≡◌}
use Rattle.pmsi_model.specs.Job.{IsJob}
use Rattle.pmsi_model.specs.Listing.{listing_of}
use Rattle.tool_words.specs.Meaning.{sim}
use Rattle.tool_files.specs.Stops.{files_call}
use Rattle.pmsi_tool.specs.Answers.{StopsOn}
use Rattle.pmsi_tool.proofs.Commands.{sim_stops, sim_text}
use Rattle.pmsi_tool.proofs.threads.sim.Goals as goal

pub returns-in_err-job-clause-stop : goal.returns-in_err-job-clause-stop
returns-in_err-job-clause-stop g c =
    let stops : StopsOn (sim c.args.workers c.args.keep c.args.name.now)
    (files_call (g.F.Files.contents c.args.files.now) (g.F.Files.faults c.args.files.now) (g.F.Files.faults c.read_job.new.files) (g.F.Files.blamed c.read_job.new.files)) c.in_err-job.field-0.0 =
    sim_stops (g.F.Files.contents c.args.files.now) (g.F.Files.faults c.args.files.now) (g.F.Files.faults c.read_job.new.files) (g.F.Files.blamed c.read_job.new.files) c.in_err-job.field-0.0
    c.args.workers c.args.keep c.args.name.now c.in_err-job.ensures.stop in
    search (rules, stops)

pub returns-clause-text : goal.returns-clause-text
returns-clause-text g c =
    let valid : IsJob c.in_ok-job.job = search rules in
    let text : c.in_ok-listed.field-0.items ≡ listing_of c.in_ok-job.job c.args.keep = search rules in
    sim_text (g.F.Files.contents c.args.files.now) c.args.name.now c.in_ok-listed.field-0.items c.args.workers c.args.keep c.in_ok-job.job valid c.in_ok-job.ensures.value text
