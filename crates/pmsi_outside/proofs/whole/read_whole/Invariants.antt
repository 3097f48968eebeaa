use Rattle.std.proofs.Common.{◌≡◌, ◌≤◌, ◌<◌, ◌-◌, Some, length, string_bytes, vec_len}
use Rattle.pmsi_model.specs.declared.limits.TheConstants.{MAX_FILE_BYTES}
use Rattle.pmsi_outside.specs.Files.{Has}
use Rattle.pmsi_outside.proofs.Progress.{Reading, Blaming}
use Rattle.pmsi_outside.proofs.whole.read_whole.Given as goal

abbrev pub invariant-loop-bytes : goal.invariant-loop-bytes
invariant-loop-bytes g l = record {
  opened : g.F.Files.open_name l.files ≡ Some (string_bytes l.fn.name);
  contents : g.F.Files.contents l.files ≡ g.F.Files.contents l.fn.files;
  read : Reading (g.F.Files.contents l.fn.files) (string_bytes l.fn.name) l.bytes.items (g.F.Files.left l.files);
  within : length l.bytes.items ≤ MAX_FILE_BYTES;
  room : 0 < vec_len l.chunk;
  blaming : Blaming (g.F.Files.faults l.fn.files) (g.F.Files.faults l.files) (Some (string_bytes l.fn.name)) (g.F.Files.blamed l.fn.files) (g.F.Files.blamed l.files);
  stays : g.F.Files.steady l.fn.files → g.F.Files.steady l.files;
  still : g.F.Files.steady l.fn.files → Has (g.F.Files.contents l.fn.files) (string_bytes l.fn.name) → g.F.Files.faults l.files ≡ g.F.Files.faults l.fn.files;
}

abbrev pub decreases-loop-bytes : goal.decreases-loop-bytes
decreases-loop-bytes g l = MAX_FILE_BYTES - vec_len l.bytes
