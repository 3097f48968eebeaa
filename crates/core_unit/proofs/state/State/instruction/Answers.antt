use Rattle.std.proofs.Common.{◌∙◌, refl, sym}
use Rattle.core_unit.proofs.Steps.{runs_past, same_run, takes_word}
use Rattle.core_unit.proofs.Touches.{touches_past, touches_word}
use Rattle.core_unit.proofs.state.State.instruction.Goals as goal

pub returns-in-Some-clause-stands : goal.returns-in-Some-clause-stands
returns-in-Some-clause-stands c = λ job c' memory s. takes_word job c' memory c.args.self.now c.execute.new.self c.in-Some.fetched s c.requires.runs (sym c.fetch.ensures ∙ c.in-Some.is) (c.execute.ensures.stands job c' memory s)

pub returns-in-Some-clause-touched : goal.returns-in-Some-clause-touched
returns-in-Some-clause-touched c = λ job c' memory s. touches_word job c' memory c.args.self.now c.execute.new.self c.in-Some.fetched s c.requires.runs (sym c.fetch.ensures ∙ c.in-Some.is) (c.execute.ensures.touched job c' memory s)

pub returns-in-None-clause-stands : goal.returns-in-None-clause-stands
returns-in-None-clause-stands c = λ job c' memory s. runs_past job c' memory c.args.self.now s c.requires.runs (sym c.fetch.ensures ∙ c.in-None.is)

pub returns-in-None-clause-touched : goal.returns-in-None-clause-touched
returns-in-None-clause-touched c = λ job c' memory s. touches_past job c' memory c.args.self.now s c.requires.runs (sym c.fetch.ensures ∙ c.in-None.is)

pub returns-in-None-clause-same : goal.returns-in-None-clause-same
returns-in-None-clause-same c = same_run c.args.self.now _ refl (λ l. refl)
