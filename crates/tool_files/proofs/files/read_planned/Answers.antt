use Rattle.std.proofs.Common.{rules, []}
use Rattle.tool_files.specs.Course.{ends, gives, planned, programs}
use Rattle.tool_files.specs.declared.refusal.Place.TheVariants.{Input}
use Rattle.tool_files.specs.Parsed.{IsMachine, MachineFails}
use Rattle.tool_files.specs.Stops.{Stops, StopsAt, files_call}
use Rattle.tool_files.proofs.FileReads.{programs_read, programs_unread, machine_refused}
use Rattle.tool_files.proofs.files.read_planned.Goals as goal

pub returns-in_err-images-clause-stop : goal.returns-in_err-images-clause-stop
returns-in_err-images-clause-stop g c =
    let here : Stops (programs (g.F.Files.contents c.args.files.now) 0 c.args.plan.now.programs [] ends)
    (files_call (g.F.Files.contents c.args.files.now) (g.F.Files.faults c.args.files.now) (g.F.Files.faults c.read_programs.new.files) (g.F.Files.blamed c.read_programs.new.files)) c.in_err-images.field-0.0 =
    rw c.as_slice.ensures at c.in_err-images.ensures.stop in
    let stops : Stops (planned (g.F.Files.contents c.args.files.now) c.args.keep ends c.args.plan.now)
    (files_call (g.F.Files.contents c.args.files.now) (g.F.Files.faults c.args.files.now) (g.F.Files.faults c.read_programs.new.files) (g.F.Files.blamed c.read_programs.new.files)) c.in_err-images.field-0.0 =
    programs_unread (g.F.Files.contents c.args.files.now) c.args.keep c.args.plan.now _ c.in_err-images.field-0.0 here in
    search (rules, stops)

pub returns-in_err-machine_of-clause-stop : goal.returns-in_err-machine_of-clause-stop
returns-in_err-machine_of-clause-stop g c =
    let read : programs (g.F.Files.contents c.args.files.now) 0 c.args.plan.now.programs [] ends (gives c.in_ok-images.images.items) =
    rw c.as_slice.ensures at c.in_ok-images.ensures.value in
    let here : StopsAt Input (MachineFails c.args.keep c.args.plan.now.shape c.in_ok-images.images.items) c.in_err-machine_of.field-0.0 = rw c.deref.ensures.value at c.in_err-machine_of.ensures.stop in
    let stops : Stops (planned (g.F.Files.contents c.args.files.now) c.args.keep ends c.args.plan.now)
    (files_call (g.F.Files.contents c.args.files.now) (g.F.Files.faults c.args.files.now) (g.F.Files.faults c.read_programs.new.files) (g.F.Files.blamed c.read_programs.new.files)) c.in_err-machine_of.field-0.0 =
    machine_refused (g.F.Files.contents c.args.files.now) c.args.keep c.args.plan.now c.in_ok-images.images.items _ c.in_err-machine_of.field-0.0 read here in
    search (rules, stops)

pub returns-clause-value : goal.returns-clause-value
returns-clause-value g c =
    let read : programs (g.F.Files.contents c.args.files.now) 0 c.args.plan.now.programs [] ends (gives c.in_ok-images.images.items) =
    rw c.as_slice.ensures at c.in_ok-images.ensures.value in
    let is : IsMachine c.args.keep c.args.plan.now.shape c.in_ok-images.images.items c.in_ok-machine_of.field-0 = rw c.deref.ensures.value at c.in_ok-machine_of.ensures.value in
    programs_read (g.F.Files.contents c.args.files.now) c.args.keep c.args.plan.now c.in_ok-images.images.items c.in_ok-machine_of.field-0 read is
