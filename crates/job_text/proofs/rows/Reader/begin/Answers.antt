use Rattle.std.proofs.Common.{◌∷◌}
use Rattle.job_text.specs.Cutting.{fields_between}
use Rattle.job_text.proofs.RowReads.{begins, begins_wrong}
use Rattle.job_text.proofs.rows.Reader.begin.Goals as goal

pub returns-then-not-is_version-clause-err : goal.returns-then-not-is_version-clause-err
returns-then-not-is_version-clause-err c free before read = begins_wrong c.args.self.now before (record { number = c.args.number; fields = c.args.first.now ∷ fields_between c.args.rest.now }) c.requires read (cc)

pub returns-clause-ok : goal.returns-clause-ok
returns-clause-ok c before read =
    begins c.args.self.now c.add.new.self before (record { number = c.args.number; fields = c.args.first.now ∷ fields_between c.args.rest.now }) c.requires read (cc) c.in_ok-add.ensures
