use Rattle.std.proofs.Common.{◌≡◌, ◌∷◌, [], length, length-append, arith, rules, sym, ap, ◌∙◌, Ok, Err, true, false, refl}
use Rattle.pmsi_model.specs.Slots.{plain_plan}
use Rattle.trace_text.specs.declared.row.Row.TheVariants as row
use Rattle.trace_text.specs.Reading.{fields_of, is_last, row_in}
use Rattle.trace_text.proofs.RowParts.{below}
use Rattle.trace_text.proofs.RowReads.{goes_on, ends, refuses, runs_out}
use Rattle.trace_text.proofs.reading.read_actions.Goals as goal

pub loop-line-preserved : goal.loop-line-preserved
loop-line-preserved c =
    let more = c.in_ok-push-in-Ok-Slot.ensures.items in
    let read : Ok (row.Slot c.in-Ok-Slot.action) ≡ row_in (plain_plan c.args.cores) (length c.loop-line.actions.items) (fields_of c.in-Some.line.now) = search rules in
    let low = below (plain_plan c.args.cores) (length c.loop-line.actions.items) (fields_of c.in-Some.line.now) c.in-Ok-Slot.action read in
    record {
      rest = c.loop-line.invariant.rest ∙ rw more (goes_on c.args.cores c.loop-line.actions.items c.in-Ok-Slot.action c.loop-line.lines c.in-Some.line.now c.next_line.new.self c.in-Some.ensures.some read);
      few = omega (arith, ap length more, length-append c.loop-line.actions.items (c.in-Ok-Slot.action ∷ []));
    }

pub returns-in-Ok-End-clause-trace : goal.returns-in-Ok-End-clause-trace
returns-in-Ok-End-clause-trace c =
    let read : Ok row.End ≡ row_in (plain_plan c.args.cores) (length c.loop-line.actions.items) (fields_of c.in-Some.line.now) = search rules in
    let last : is_last c.next_line.new.self ≡ true = sym c.is_last.ensures ∙ c.if-is_last.true in
    c.loop-line.invariant.rest ∙ ends c.args.cores c.loop-line.actions.items c.loop-line.lines c.in-Some.line.now c.next_line.new.self c.in-Some.ensures.some read ∙ rw last refl

pub returns-in-Ok-End-2-clause-fault : goal.returns-in-Ok-End-2-clause-fault
returns-in-Ok-End-2-clause-fault c free =
    let read : Ok row.End ≡ row_in (plain_plan c.args.cores) (length c.loop-line.actions.items) (fields_of c.in-Some.line.now) = search rules in
    let last : is_last c.next_line.new.self ≡ false = sym c.is_last.ensures ∙ c.if-is_last.false in
    c.loop-line.invariant.rest ∙ ends c.args.cores c.loop-line.actions.items c.loop-line.lines c.in-Some.line.now c.next_line.new.self c.in-Some.ensures.some read ∙ rw last refl

pub returns-in-Err-clause-fault : goal.returns-in-Err-clause-fault
returns-in-Err-clause-fault c free =
    let read : Err c.in-Err.fault ≡ row_in (plain_plan c.args.cores) (length c.loop-line.actions.items) (fields_of c.in-Some.line.now) = search rules in
    c.loop-line.invariant.rest ∙ refuses c.args.cores c.loop-line.actions.items c.in-Err.fault c.loop-line.lines c.in-Some.line.now c.next_line.new.self c.in-Some.ensures.some read

pub returns-clause-fault : goal.returns-clause-fault
returns-clause-fault c free = c.loop-line.invariant.rest ∙ runs_out c.args.cores c.loop-line.actions.items c.loop-line.lines c.in_default.ensures.none
