use Rattle.std.proofs.Common.{rules, ◌<◌, length, arith}
use Rattle.std.proofs.lemmas.Grind.{common_steps}
use Rattle.pmsi_outside.specs.Sink.{AppendsPart}
use Rattle.pmsi_outside.proofs.Progress.{writing_goes_on, writing_stops, writing_some}
use Rattle.pmsi_outside.proofs.whole.write_whole.Goals as goal

pub returns-in_err-count-clause-part : goal.returns-in_err-count-clause-part
returns-in_err-count-clause-part g c =
    let some : 0 < length c.loop-rest.rest.now = grind (arith, common_steps) in
    let part : AppendsPart (g.S.Sink.held c.args.sink.now) (g.S.Sink.held c.write.new.self) c.args.bytes.now = writing_stops _ _ _ _ _ some c.loop-rest.invariant.written c.in_err-count.ensures.bytes in
    search (rules, part)

pub loop-rest-preserved : goal.loop-rest-preserved
loop-rest-preserved g c =
    let some : 0 < length c.loop-rest.rest.now = grind (arith, common_steps) in
    record {
      later = omega (arith, c.loop-rest.invariant.later, c.in_ok-count.ensures.cause.later);
      written = writing_goes_on _ _ _ _ _ _ c.in_ok-count.count (grind (arith, common_steps)) c.loop-rest.invariant.written c.in_ok-count.ensures.bytes;
      untouched = λ none. absurd (omega (arith, none, writing_some _ _ _ _ some c.loop-rest.invariant.written));
    }
