use Rattle.std.proofs.Common.{◌≡◌, sym, None}
use Rattle.job_text.specs.Faults.{core_limit, heads_limit, missing_core, missing_head}
use Rattle.job_text.proofs.Makings.{no_head, head_past, core_past, no_core, long_text, faultless, said_cores}
use Rattle.job_text.proofs.planning.plan_of.Goals as goal

pub returns-in-Some-clause-err : goal.returns-in-Some-clause-err
returns-in-Some-clause-err c free said has = no_head said c.in-Some.fault (sym (c.in-Some.ensures said has))

pub returns-in-Some-heads_limit-clause-err : goal.returns-in-Some-heads_limit-clause-err
returns-in-Some-heads_limit-clause-err c free said has = head_past said c.in-Some-heads_limit.fault (sym (c.in_default.ensures said has)) (sym (c.in-Some-heads_limit.ensures said has))

pub returns-in-Some-core_limit-clause-err : goal.returns-in-Some-core_limit-clause-err
returns-in-Some-core_limit-clause-err c free said has =
    let one : missing_head said ≡ None = sym (c.in_default.ensures said has) in
    let two : heads_limit said ≡ None = sym (c.in_default-heads_limit.ensures said has) in
    let shape = c.shape_of-shape.ensures said has one two in
    core_past said c.in-Some-core_limit.fault one two (sym (c.in-Some-core_limit.ensures said has (said_cores said c.shape_of-shape.result.cores shape.cores)))

pub returns-in-Some-missing_core-clause-err : goal.returns-in-Some-missing_core-clause-err
returns-in-Some-missing_core-clause-err c free said has =
    let one : missing_head said ≡ None = sym (c.in_default.ensures said has) in
    let two : heads_limit said ≡ None = sym (c.in_default-heads_limit.ensures said has) in
    let cores = said_cores said c.shape_of-shape.result.cores (c.shape_of-shape.ensures said has one two).cores in
    no_core said c.in-Some-missing_core.fault one two (sym (c.in_default-core_limit.ensures said has cores)) (sym (c.in-Some-missing_core.ensures said has cores))

pub returns-in-Ok-clause-ok : goal.returns-in-Ok-clause-ok
returns-in-Ok-clause-ok c said has =
    let one : missing_head said ≡ None = sym (c.in_default.ensures said has) in
    let two : heads_limit said ≡ None = sym (c.in_default-heads_limit.ensures said has) in
    let shape = c.shape_of-shape.ensures said has one two in
    let cores = said_cores said c.shape_of-shape.result.cores shape.cores in
    let three : core_limit said ≡ None = sym (c.in_default-core_limit.ensures said has cores) in
    let four : missing_core said ≡ None = sym (c.in_default-missing_core.ensures said has cores) in
    let made = c.in-Ok.ensures.ok said has cores four in
    (faultless said one two three four made.0, shape, made.1)

pub returns-in-Err-clause-err : goal.returns-in-Err-clause-err
returns-in-Err-clause-err c free said has =
    let one : missing_head said ≡ None = sym (c.in_default.ensures said has) in
    let two : heads_limit said ≡ None = sym (c.in_default-heads_limit.ensures said has) in
    let cores = said_cores said c.shape_of-shape.result.cores (c.shape_of-shape.ensures said has one two).cores in
    let three : core_limit said ≡ None = sym (c.in_default-core_limit.ensures said has cores) in
    let four : missing_core said ≡ None = sym (c.in_default-missing_core.ensures said has cores) in
    long_text said c.in-Err.fault one two three four (c.in-Err.ensures.err free said has cores four)
