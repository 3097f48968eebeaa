use Rattle.std.proofs.Common.{Ok, Err}
use Rattle.script_text.proofs.Scripts.{not_text, whole}
use Rattle.script_text.proofs.script.read_script.Goals as goal

pub returns-in_default-clause-fault : goal.returns-in_default-clause-fault
returns-in_default-clause-fault c free = not_text c.args.shape.now c.args.bytes.now c.in_default.ensures.cases.0

pub returns-in-Ok-read_lines-clause-commands : goal.returns-in-Ok-read_lines-clause-commands
returns-in-Ok-read_lines-clause-commands c =
    whole c.args.shape.now c.args.bytes.now c.in-Ok.text.now (Ok c.in-Ok-read_lines.commands.items) c.in-Ok.ensures.cases.0 c.in-Ok.ensures.cases.1 c.in-Ok-read_lines.ensures.commands

pub returns-in-Err-clause-fault : goal.returns-in-Err-clause-fault
returns-in-Err-clause-fault c free =
    whole c.args.shape.now c.args.bytes.now c.in-Ok.text.now (Err c.in-Err.fault) c.in-Ok.ensures.cases.0 c.in-Ok.ensures.cases.1 (c.in-Err.ensures.fault free)
