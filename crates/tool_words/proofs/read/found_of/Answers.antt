use Rattle.std.proofs.Common.{sym, subst, map, string_bytes, Global}
use Rattle.std.proofs.lemmas.Result.{IfOk-weaker}
use Rattle.clap.specs.Words.{rows_of, found_of, kind_of}
use Rattle.tool_words.specs.Clap.{IsFoundIn}
use Rattle.tool_words.proofs.Found.{taken, untaken}
use Rattle.tool_words.proofs.read.found_of.Goals as goal

pub returns-in-Ok : goal.returns-in-Ok
returns-in-Ok c =
    taken c.args.command _ (map (string_bytes {Z = Global}) c.args.words.now) (rows_of (found_of c.in-Ok.matches))
    c.in_ok-line.ensures c.in-Ok.ensures.kinds c.in-Ok.ensures.matches

pub returns-in-Err : goal.returns-in-Err
returns-in-Err c = IfOk-weaker c.refused.result _ _
    (λ found h. subst (λ f. IsFoundIn f c.args.command (map (string_bytes {Z = Global}) c.args.words.now)) (sym h.0)
    (untaken c.args.command _ (map (string_bytes {Z = Global}) c.args.words.now) (kind_of c.in-Err.error) c.in_ok-line.ensures c.in-Err.ensures.kinds h.1))
    c.refused.ensures.refused
