use Rattle.std.proofs.Common.{◌≡◌, ◌∙◌, true, List, ap, subst, sym}
use Rattle.std.specs.List.{All}
use Rattle.pmsi_model.specs.declared.job.Geometry.{Geometry}
use Rattle.script_text.specs.declared.command.Command.{Command}
use Rattle.script_text.specs.Output.{output_of}
use Rattle.script_text.specs.Script.{is_in_range}
use Rattle.debugger.proofs.OneEnd.{outputs, has_fault}
use Rattle.debugger.proofs.running.output_of.Goals as goal

pub returns-in-Err-clause-fault : goal.returns-in-Err-clause-fault
returns-in-Err-clause-fault c free = has_fault c.args.job.now c.shape.result c.args.script.now c.in-Err.fault c.shape.ensures.shape (c.in-Err.ensures.fault free)

pub run_script-requires : goal.run_script-requires
run_script-requires c =
    subst (λ (g : Geometry). All (λ command. is_in_range g command ≡ true) c.as_slice.result.now) c.shape.ensures.shape
    (subst (λ (cs : List Command). All (λ command. is_in_range c.shape.result command ≡ true) cs) (sym c.as_slice.ensures.value) c.in-Ok.ensures.range)

pub returns-clause-output : goal.returns-clause-output
returns-clause-output c =
    outputs c.args.job.now c.shape.result c.args.script.now c.in_ok-run_script.field-0.items c.in-Ok.commands.items c.shape.ensures.shape c.in-Ok.ensures.commands
    (c.in_ok-run_script.ensures ∙ ap (output_of c.args.job.now) c.as_slice.ensures.value)
