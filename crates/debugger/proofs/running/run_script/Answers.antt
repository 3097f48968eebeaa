use Rattle.std.proofs.Common.{◌≡◌, ◌∙◌, ◌++◌, [], true, List, ℕ, ap, sym, subst}
use Rattle.std.specs.List.{All}
use Rattle.pmsi_model.specs.declared.job.Geometry.{Geometry}
use Rattle.script_text.specs.Output.{output_of}
use Rattle.script_text.specs.Script.{is_in_range}
use Rattle.debugger.proofs.running.run_script.Goals as goal

pub run-requires-clause-range : goal.run-requires-clause-range
run-requires-clause-range c = subst (λ (g : Geometry). All (λ command. is_in_range g command ≡ true) c.args.commands.now) (sym c.in_ok-session.ensures.shape) c.requires

pub returns : goal.returns
returns c =
    c.in_ok-run.ensures c.args.job.now (record { slot = 0; breaks = [] }) c.in_ok-session.ensures.at
    ∙ ap (λ (out : List ℕ). out ++ output_of c.args.job.now c.args.commands.now) c.new-out.ensures.items
