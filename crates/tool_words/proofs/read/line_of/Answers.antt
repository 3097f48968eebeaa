use Rattle.std.proofs.Common.{◌∙◌, ap₂}
use Rattle.clap.specs.Words.{new_app, with_rule}
use Rattle.tool_words.specs.Table.{word_of, choices_of, places_of}
use Rattle.tool_words.specs.Clap.{with_choices}
use Rattle.tool_words.proofs.Found.{more_choices, more_places}
use Rattle.tool_words.proofs.read.line_of.Goals as goal

pub loop-choice-preserved : goal.loop-choice-preserved
loop-choice-preserved c =
    c.in_ok-line.ensures.shape c.choice_arg.ensures.own ∙ ap₂ with_rule c.loop-choice.invariant c.choice_arg.ensures.rule
    ∙ more_choices (new_app (word_of c.args.command)) c.choices-choice-items.result.now (choices_of c.args.command) c.loop-choice.choice-index _ c.choices-choice-items.ensures c.loop-choice-test.true

pub loop-place-preserved : goal.loop-place-preserved
loop-place-preserved c =
    c.in_ok-line-2.ensures.shape c.place_arg.ensures.own ∙ ap₂ with_rule c.loop-place.invariant c.place_arg.ensures.rule
    ∙ more_places (with_choices (new_app (word_of c.args.command)) (choices_of c.args.command)) c.places-place-items.result.now (places_of c.args.command) c.loop-place.place-index _ c.places-place-items.ensures c.loop-place-test.true
