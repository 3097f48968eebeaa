use Rattle.std.proofs.Common.{◌≡◌, length}
use denote.Text.{Utf8}
use denote.Shadow.{shadow}
use Rattle.job_text.specs.Cutting.{fields_between}
use Rattle.job_text.specs.Sayings.{words_in}
use Rattle.job_text.proofs.WordFields.{behind}
use Rattle.job_text.proofs.one_line.words_in.Given as goal

abbrev pub invariant-loop-field : goal.invariant-loop-field
invariant-loop-field l = shadow (Utf8 l.rest) × (words_in (fields_between l.text) ≡ behind l.words.items (words_in (fields_between l.rest)))

abbrev pub decreases-loop-field : goal.decreases-loop-field
decreases-loop-field l = length l.rest
