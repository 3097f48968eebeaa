use Rattle.std.proofs.Common.{inr, refl, subst, sym, map, string_bytes, Global}
use Rattle.tool_files.specs.Stops.{files_call}
use Rattle.pmsi_tool.specs.Calls.{tool_call}
use Rattle.pmsi_tool.specs.Answers.{Gives}
use Rattle.pmsi_tool.specs.Statuses.{sink_call}
use Rattle.pmsi_tool.proofs.Causes.{complete_complaint, complete_text, fault_complaint, no_text, refusal_complaint, refused_complaint}
use Rattle.pmsi_tool.proofs.tool.Goals as goal

pub returns-in-Ok-clause-complete : goal.returns-in-Ok-clause-complete
returns-in-Ok-clause-complete g c =
    let given : Gives tool_call (map (string_bytes {Z = Global}) c.args.words.now) (g.F.Files.contents c.args.files.now) c.as_slice.result.now = subst (Gives tool_call (map (string_bytes {Z = Global}) c.args.words.now) (g.F.Files.contents c.args.files.now)) (sym c.as_slice.ensures.value) c.in-Ok.ensures.text in
    complete_text tool_call (map (string_bytes {Z = Global}) c.args.words.now) (g.F.Files.contents c.args.files.now) c.write_text.result
    (sink_call (g.O.Sink.faults c.args.out.now) (g.O.Sink.faults c.write_text.new.out) (g.O.Sink.held c.args.out.now) (g.O.Sink.held c.write_text.new.out)) c.as_slice.result.now given c.write_text.ensures.status c.write_text.ensures.done

pub returns-in-Ok-clause-refused_always : goal.returns-in-Ok-clause-refused_always
returns-in-Ok-clause-refused_always g c = λ asked helds place detail holds is _ _ _.
    absurd (no_text tool_call (map (string_bytes {Z = Global}) c.args.words.now) (g.F.Files.contents c.args.files.now) asked helds holds c.in-Ok.text.items place detail c.in-Ok.ensures.text is)

pub returns-in-Err-clause-refused : goal.returns-in-Err-clause-refused
returns-in-Err-clause-refused g c = λ is. refusal_complaint tool_call (map (string_bytes {Z = Global}) c.args.words.now)
    (files_call (g.F.Files.contents c.args.files.now) (g.F.Files.faults c.args.files.now) (g.F.Files.faults c.answer_of.new.files) (g.F.Files.blamed c.answer_of.new.files)) c.complain.result
    (sink_call (g.E.Sink.faults c.args.err.now) (g.E.Sink.faults c.complain.new.err) (g.E.Sink.held c.args.err.now) (g.E.Sink.held c.complain.new.err)) c.in-Err.complaint is c.in-Err.ensures.complaint c.complain.ensures.told

pub returns-in-Err-clause-write_fault : goal.returns-in-Err-clause-write_fault
returns-in-Err-clause-write_fault g c = λ is. inr (
  refl,
  fault_complaint tool_call (map (string_bytes {Z = Global}) c.args.words.now)
      (files_call (g.F.Files.contents c.args.files.now) (g.F.Files.faults c.args.files.now) (g.F.Files.faults c.answer_of.new.files) (g.F.Files.blamed c.answer_of.new.files)) c.complain.result
      (sink_call (g.E.Sink.faults c.args.err.now) (g.E.Sink.faults c.complain.new.err) (g.E.Sink.held c.args.err.now) (g.E.Sink.held c.complain.new.err)) c.in-Err.complaint is c.in-Err.ensures.complaint c.complain.ensures.told,
)

pub returns-in-Err-clause-complete : goal.returns-in-Err-clause-complete
returns-in-Err-clause-complete g c = complete_complaint tool_call (map (string_bytes {Z = Global}) c.args.words.now)
    (files_call (g.F.Files.contents c.args.files.now) (g.F.Files.faults c.args.files.now) (g.F.Files.faults c.answer_of.new.files) (g.F.Files.blamed c.answer_of.new.files)) c.complain.result
    (sink_call (g.E.Sink.faults c.args.err.now) (g.E.Sink.faults c.complain.new.err) (g.E.Sink.held c.args.err.now) (g.E.Sink.held c.complain.new.err)) (sink_call (g.O.Sink.faults c.args.out.now) (g.O.Sink.faults c.args.out.now) (g.O.Sink.held c.args.out.now) (g.O.Sink.held c.args.out.now)) c.in-Err.complaint c.in-Err.ensures.complaint c.complain.ensures.told

pub returns-in-Err-clause-refused_always : goal.returns-in-Err-clause-refused_always
returns-in-Err-clause-refused_always g c = refused_complaint tool_call (map (string_bytes {Z = Global}) c.args.words.now)
    (files_call (g.F.Files.contents c.args.files.now) (g.F.Files.faults c.args.files.now) (g.F.Files.faults c.answer_of.new.files) (g.F.Files.blamed c.answer_of.new.files)) c.complain.result
    (sink_call (g.E.Sink.faults c.args.err.now) (g.E.Sink.faults c.complain.new.err) (g.E.Sink.held c.args.err.now) (g.E.Sink.held c.complain.new.err)) (sink_call (g.O.Sink.faults c.args.out.now) (g.O.Sink.faults c.args.out.now) (g.O.Sink.held c.args.out.now) (g.O.Sink.held c.args.out.now)) c.in-Err.complaint c.in-Err.ensures.complaint c.complain.ensures.told
