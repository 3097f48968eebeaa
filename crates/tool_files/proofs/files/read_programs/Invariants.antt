use Rattle.std.proofs.Common.{◌≡◌, ◌≤◌, List, [], drop, length}
use Rattle.pmsi_model.specs.Image.{ImageValue}
use Rattle.tool_files.specs.Course.{Step, ends, programs}
use Rattle.tool_files.proofs.files.read_programs.Given as goal

abbrev pub invariant-loop-program : goal.invariant-loop-program
invariant-loop-program g l = record {
  core : l.core ≡ l.program-index;
  count : length l.images.items ≡ l.program-index;
  room : length l.given ≤ l.images.cap;
  course : (step : Step (List ImageValue)) → programs (g.F.Files.contents l.fn.files) l.core (drop l.program-index l.given) l.images.items ends step
      → programs (g.F.Files.contents l.fn.files) 0 l.given [] ends step;
  later : g.F.Files.faults l.fn.files ≤ g.F.Files.faults l.files;
  contents : g.F.Files.contents l.files ≡ g.F.Files.contents l.fn.files;
}
