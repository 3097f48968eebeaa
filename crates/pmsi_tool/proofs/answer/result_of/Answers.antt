use Rattle.std.proofs.Common.{rules, sym, subst, refl}
use Rattle.tool_words.specs.declared.asked.Asked.{Asked}
use Rattle.tool_words.specs.Meaning.{value_of}
use Rattle.tool_files.specs.Stops.{files_call}
use Rattle.pmsi_tool.specs.declared.complaint.Complaint.TheVariants.{Stopped}
use Rattle.pmsi_tool.specs.Calls.{tool_call}
use Rattle.pmsi_tool.specs.Answers.{ComplainsOn, GivesText}
use Rattle.pmsi_tool.proofs.answer.result_of.Goals as goal

pub returns-in_err-debugged-in-Debug-clause-complaint : goal.returns-in_err-debugged-in-Debug-clause-complaint
returns-in_err-debugged-in-Debug-clause-complaint g c =
    let stops : ComplainsOn tool_call (value_of c.args.asked)
    (files_call (g.F.Files.contents c.args.files.now) (g.F.Files.faults c.args.files.now) (g.F.Files.faults c.debugged.new.files) (g.F.Files.blamed c.debugged.new.files))
    (Stopped c.in_err-debugged-in-Debug.field-0.0) =
    subst (λ (a : Asked). ComplainsOn tool_call (value_of a)
    (files_call (g.F.Files.contents c.args.files.now) (g.F.Files.faults c.args.files.now) (g.F.Files.faults c.debugged.new.files) (g.F.Files.blamed c.debugged.new.files))
    (Stopped c.in_err-debugged-in-Debug.field-0.0)) (sym c.in-Debug.is) (refl, c.in_err-debugged-in-Debug.ensures.stop) in
    search (rules, stops)

pub returns-in_ok-debugged-in-Debug-clause-text : goal.returns-in_ok-debugged-in-Debug-clause-text
returns-in_ok-debugged-in-Debug-clause-text g c =
    subst (λ (a : Asked). GivesText (g.F.Files.contents c.args.files.now) (value_of a) c.in_ok-debugged-in-Debug.field-0.items) (sym c.in-Debug.is)
    c.in_ok-debugged-in-Debug.ensures.text
