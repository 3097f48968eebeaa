use Rattle.std.proofs.Common.{rules, map, string_bytes, Global}
use Rattle.tool_words.specs.Meaning.{value_of}
use Rattle.tool_files.specs.Stops.{files_call}
use Rattle.pmsi_tool.specs.Calls.{threads_call}
use Rattle.pmsi_tool.specs.Answers.{Stands}
use Rattle.pmsi_tool.proofs.Causes.{complained, given, unasked}
use Rattle.pmsi_tool.proofs.threads.threads_answer_of.Goals as goal

pub returns-in_err-asked-clause-complaint : goal.returns-in_err-asked-clause-complaint
returns-in_err-asked-clause-complaint g c =
    let stands : Stands threads_call (map (string_bytes {Z = Global}) c.args.words.now)
    (files_call (g.F.Files.contents c.args.files.now) (g.F.Files.faults c.args.files.now) (g.F.Files.faults c.args.files.now) (g.F.Files.blamed c.args.files.now)) c.in_err-asked.field-0.0 =
    unasked threads_call (map (string_bytes {Z = Global}) c.args.words.now) _ c.in_err-asked.field-0.0 c.in_err-asked.ensures.complaint in
    search (rules, stands)

pub returns-clause-text : goal.returns-clause-text
returns-clause-text g c = given threads_call (map (string_bytes {Z = Global}) c.args.words.now) (value_of c.in_ok-asked.asked) c.in_ok-asked.ensures.asked (g.F.Files.contents c.args.files.now) c.result_of.result (λ text. text.items)
    c.result_of.ensures.served c.result_of.ensures.text

pub returns-clause-complaint : goal.returns-clause-complaint
returns-clause-complaint g c = complained threads_call (map (string_bytes {Z = Global}) c.args.words.now) (value_of c.in_ok-asked.asked) c.in_ok-asked.ensures.asked
    (files_call (g.F.Files.contents c.args.files.now) (g.F.Files.faults c.args.files.now) (g.F.Files.faults c.result_of.new.files) (g.F.Files.blamed c.result_of.new.files)) c.result_of.result c.result_of.ensures.complaint
