use Rattle.std.proofs.Common.{rules, arith, refl, ◌≡◌, ◌<◌, ◌++◌, ◌∙◌, take, length, []}
use Rattle.std.proofs.lemmas.Grind.{common_steps}
use Rattle.std.specs.Io.KnownBytes.{Consumes}
use Rattle.pmsi_model.specs.declared.limits.TheConstants.{MAX_FILE_BYTES}
use Rattle.pmsi_outside.proofs.Progress.{blaming_begins, blaming_goes_on, reading_begins, reading_goes_on, reading_ends, reading_passes}
use Rattle.pmsi_outside.proofs.whole.read_whole.Goals as goal

pub loop-bytes-init : goal.loop-bytes-init
loop-bytes-init g c = record {
  opened = c.in_ok-open.ensures.opened;
  contents = c.in_ok-open.ensures.contents;
  read = rw c.new-bytes.ensures.items (reading_begins _ _ _ c.in_ok-open.ensures.bytes);
  within = grind (arith, common_steps);
  room = grind (arith, common_steps);
  blaming = blaming_goes_on _ _ _ _ _ _ _ _ c.open.result (search rules) refl (blaming_begins _ _ _) c.open.ensures.cause c.open.ensures.blame;
  stays = c.in_ok-open.ensures.stays;
  still = λ steady has. (c.in_ok-open.ensures.steady steady has).still;
}

pub returns-then-count-eq0-clause-whole : goal.returns-then-count-eq0-clause-whole
returns-then-count-eq0-clause-whole g c =
    let none : Consumes (g.F.Files.left c.loop-bytes.files) (g.F.Files.left c.read.new.self) [] = rw c.if-count-eq0.true at c.in_ok-count.ensures.bytes.0 in
    reading_ends _ _ _ _ (g.F.Files.left c.read.new.self) c.loop-bytes.invariant.read none (c.in_ok-count.ensures.bytes.1 c.if-count-eq0.true)

pub returns-then-count-eq0-clause-blamed : goal.returns-then-count-eq0-clause-blamed
returns-then-count-eq0-clause-blamed g c =
    (blaming_goes_on _ _ _ _ _ _ _ _ c.read.result (search rules) c.loop-bytes.invariant.opened c.loop-bytes.invariant.blaming c.read.ensures.cause c.read.ensures.blame).risen

pub returns-then-count-len-clause-large : goal.returns-then-count-len-clause-large
returns-then-count-len-clause-large g c = λ _.
    let above : MAX_FILE_BYTES < length (c.loop-bytes.bytes.items ++ take c.in_ok-count.count c.read.new.buf) = grind (arith, common_steps) in
    reading_passes _ _ _ _ (g.F.Files.left c.read.new.self) _ _ above c.loop-bytes.invariant.read c.in_ok-count.ensures.bytes.0

pub returns-then-count-len-clause-blamed : goal.returns-then-count-len-clause-blamed
returns-then-count-len-clause-blamed g c =
    (blaming_goes_on _ _ _ _ _ _ _ _ c.read.result (search rules) c.loop-bytes.invariant.opened c.loop-bytes.invariant.blaming c.read.ensures.cause c.read.ensures.blame).risen

pub loop-bytes-preserved : goal.loop-bytes-preserved
loop-bytes-preserved g c =
    let longer : c.extend_from_slice.new.self.items ≡ c.loop-bytes.bytes.items ++ take c.in_ok-count.count c.read.new.buf = grind (arith, common_steps) in
    record {
      opened = c.in_ok-count.ensures.opened ∙ c.loop-bytes.invariant.opened;
      contents = c.in_ok-count.ensures.contents ∙ c.loop-bytes.invariant.contents;
      read = rw longer (reading_goes_on _ _ _ _ _ _ c.loop-bytes.invariant.read c.in_ok-count.ensures.bytes.0);
      within = grind (arith, common_steps);
      room = grind (arith, common_steps);
      blaming = blaming_goes_on _ _ _ _ _ _ _ _ c.read.result (search rules) c.loop-bytes.invariant.opened c.loop-bytes.invariant.blaming c.read.ensures.cause c.read.ensures.blame;
      stays = λ steady. c.in_ok-count.ensures.stays (c.loop-bytes.invariant.stays steady);
      still = λ steady has. (c.in_ok-count.ensures.steady (c.loop-bytes.invariant.stays steady)).still ∙ c.loop-bytes.invariant.still steady has;
    }

pub returns-in_err-extend_from_slice-clause-blamed :
    goal.returns-in_err-extend_from_slice-clause-blamed
returns-in_err-extend_from_slice-clause-blamed g c =
    (blaming_goes_on _ _ _ _ _ _ _ _ c.read.result (search rules) c.loop-bytes.invariant.opened c.loop-bytes.invariant.blaming c.read.ensures.cause c.read.ensures.blame).risen

pub returns-then-count-eq0-clause-steady : goal.returns-then-count-eq0-clause-steady
returns-then-count-eq0-clause-steady g c = λ steady has.
    (c.in_ok-count.ensures.steady (c.loop-bytes.invariant.stays steady)).still ∙ c.loop-bytes.invariant.still steady has

pub returns-then-count-len-clause-steady : goal.returns-then-count-len-clause-steady
returns-then-count-len-clause-steady g c = λ steady has.
    (c.in_ok-count.ensures.steady (c.loop-bytes.invariant.stays steady)).still ∙ c.loop-bytes.invariant.still steady has

pub returns-in_err-extend_from_slice-clause-steady : goal.returns-in_err-extend_from_slice-clause-steady
returns-in_err-extend_from_slice-clause-steady g c = λ steady has.
    (c.in_ok-count.ensures.steady (c.loop-bytes.invariant.stays steady)).still ∙ c.loop-bytes.invariant.still steady has
