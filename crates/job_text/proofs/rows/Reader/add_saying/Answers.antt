use Rattle.std.proofs.Common.{sym, ◌∙◌, ◌≡◌, true, false, rules, ap}
use Rattle.std.specs.Prelude.{Some}
use Rattle.job_text.specs.declared.job_fault.JobFault.TheVariants.{Twice}
use Rattle.job_text.specs.Cutting.{fields_between}
use Rattle.job_text.specs.Faults.{sayings_of, was_said}
use Rattle.job_text.proofs.RowReads.{version_twice, line_wrong, said_twice, adds}
use Rattle.job_text.proofs.rows.Reader.add_saying.Goals as goal

pub returns-then-eq-clause-err : goal.returns-then-eq-clause-err
returns-then-eq-clause-err c free before read = version_twice c.args.self.now before c.args.number c.args.first.now (fields_between c.args.rest.now) c.requires read (search rules)

pub returns-in-Err-Cause-clause-err : goal.returns-in-Err-Cause-clause-err
returns-in-Err-Cause-clause-err c free before read =
    line_wrong c.args.self.now before c.args.number c.args.first.now (fields_between c.args.rest.now) c.in-Err-Cause.why c.requires read (search rules) (rw c.in-Err-Cause.field-0-is at c.in-Err-Cause.ensures)

pub returns-then-was_said-clause-err : goal.returns-then-was_said-clause-err
returns-then-was_said-clause-err c free before read =
    let was : was_said c.in-Ok.saying (sayings_of before) ≡ true = sym (c.was_said.ensures (sayings_of before) read.said) ∙ c.if-was_said.true in
    said_twice c.args.self.now before c.args.number c.args.first.now (fields_between c.args.rest.now) c.in-Ok.saying c.requires read (search rules) c.in-Ok.ensures was ∙ ap (λ w. Some (Twice w)) (sym c.head_word.ensures)

pub returns-clause-ok : goal.returns-clause-ok
returns-clause-ok c before read =
    let was : was_said c.in-Ok.saying (sayings_of before) ≡ false = sym (c.was_said.ensures (sayings_of before) read.said) ∙ c.if-was_said.false in
    adds c.args.self.now c.add.new.self before c.args.number c.args.first.now (fields_between c.args.rest.now) c.in-Ok.saying c.requires read (search rules) c.in-Ok.ensures was c.in_ok-add.ensures
