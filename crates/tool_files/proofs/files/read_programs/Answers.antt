use Rattle.std.proofs.Common.{rules, arith, ◌≡◌, ◌∙◌, ◌++◌, ◌∷◌, [], ◌+◌}
use Rattle.std.proofs.lemmas.Grind.{common_steps}
use Rattle.tool_files.specs.Course.{program, programs, ends, gives}
use Rattle.tool_files.specs.Stops.{Stops, files_call}
use Rattle.tool_files.proofs.FileReads.{core_read, core_stops, given_dropped}
use Rattle.tool_files.proofs.files.read_programs.Goals as goal

pub loop-program-preserved : goal.loop-program-preserved
loop-program-preserved g c =
    let pushed : c.push_reserved.new.self.items ≡ c.loop-program.images.items ++ c.in_ok-read_program.field-0 ∷ [] = c.push_reserved.ensures.items in
    let read : program (g.F.Files.contents c.args.files.now) c.loop-program.core c.program-item.result ends (gives c.in_ok-read_program.field-0) =
    rw c.loop-program.invariant.contents at c.in_ok-read_program.ensures.value in
    record {
      core = omega (arith, c.loop-program.invariant.core);
      count = grind (arith, common_steps);
      room = search rules;
      course = λ step goes. c.loop-program.invariant.course step (core_read (g.F.Files.contents c.args.files.now) c.args.given.now c.loop-program.core c.loop-program.program-index c.program-item.result c.in_ok-read_program.field-0 c.loop-program.images.items step
          (given_dropped c.args.given.now c.loop-program.program-index c.program-item.result c.loop-program-test.true c.program-item.is) read (rw pushed at goes));
      later = omega (arith, c.loop-program.invariant.later, c.read_program.ensures.later);
      contents = c.read_program.ensures.contents ∙ c.loop-program.invariant.contents;
    }

pub returns-in_err-read_program-clause-stop : goal.returns-in_err-read_program-clause-stop
returns-in_err-read_program-clause-stop g c =
    let files = files_call (g.F.Files.contents c.args.files.now) (g.F.Files.faults c.loop-program.files) (g.F.Files.faults c.read_program.new.files) (g.F.Files.blamed c.read_program.new.files) in
    let here : Stops (program (g.F.Files.contents c.args.files.now) c.loop-program.core c.program-item.result ends) files c.in_err-read_program.field-0.0 = rw c.loop-program.invariant.contents at c.in_err-read_program.ensures.stop in
    let stops : Stops (programs (g.F.Files.contents c.args.files.now) 0 c.args.given.now [] ends)
    (files_call (g.F.Files.contents c.args.files.now) (g.F.Files.faults c.args.files.now) (g.F.Files.faults c.read_program.new.files) (g.F.Files.blamed c.read_program.new.files)) c.in_err-read_program.field-0.0 =
    core_stops (g.F.Files.contents c.args.files.now) c.args.given.now c.loop-program.core c.loop-program.program-index c.program-item.result c.loop-program.images.items (g.F.Files.faults c.args.files.now) files c.in_err-read_program.field-0.0
    (given_dropped c.args.given.now c.loop-program.program-index c.program-item.result c.loop-program-test.true c.program-item.is) c.loop-program.invariant.later here c.loop-program.invariant.course in
    search (rules, stops)
