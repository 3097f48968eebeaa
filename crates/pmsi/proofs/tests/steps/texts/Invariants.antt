use Rattle.std.proofs.Common.{◌≤◌, ◌<◌, ◌^◌, length}
use Rattle.std.specs.List.{All}
use Rattle.pmsi_model.specs.declared.limits.TheConstants.{MAX_TEXT_WORDS}
use Rattle.pmsi.proofs.tests.steps.texts.Given as goal

abbrev pub invariant-loop : goal.invariant-loop
invariant-loop l = All (λ text. length text ≤ MAX_TEXT_WORDS) l.texts.items × All (λ text. All (λ word. word < 2 ^ 32) text) l.texts.items
