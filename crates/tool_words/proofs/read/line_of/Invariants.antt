use Rattle.std.proofs.Common.{◌≡◌, take}
use Rattle.clap.specs.Words.{app_of, new_app}
use Rattle.tool_words.specs.Table.{word_of, choices_of, places_of}
use Rattle.tool_words.specs.Clap.{with_choices, with_places}
use Rattle.tool_words.proofs.read.line_of.Given as goal

abbrev pub invariant-loop-choice : goal.invariant-loop-choice
invariant-loop-choice l = app_of l.line ≡ with_choices (new_app (word_of l.fn.command)) (take l.choice-index (choices_of l.fn.command))

abbrev pub invariant-loop-place : goal.invariant-loop-place
invariant-loop-place l = app_of l.line ≡ with_places (with_choices (new_app (word_of l.fn.command)) (choices_of l.fn.command)) (take l.place-index (places_of l.fn.command))
