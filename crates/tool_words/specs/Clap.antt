-- The command lines of the table, as clap reads them.
use Rattle.std.specs.Prelude.{◌≡◌, List, [], ◌∷◌, fold, Option, Some, None, true}
use Rattle.clap.specs.Words.{App, Rule, Text, new_app, new_rule, with_rule, matches_of, first_of, fault_of, rows_of, found_of}
use Rattle.clap.specs.Kinds.{Kinds}
use Rattle.clap.specs.declared.builder.action.ArgAction.TheVariants.{Set}
use Rattle.tool_words.specs.declared.table.Command.{Command}
use Rattle.tool_words.specs.declared.table.Choice.{Choice}
use Rattle.tool_words.specs.declared.table.Place.{Place}
use Rattle.clap.specs.declared.parser.matches.ArgMatches.{ArgMatches}
use Rattle.tool_words.specs.Table.{word_of, choice_id, place_id, choices_of, places_of}

-- an option has one value
abbrev pub choice_rule : Choice → Rule
choice_rule choice = record (new_rule (choice_id choice)) { long = Some (choice_id choice); action = Some Set }

-- a positional has to be there
abbrev pub place_rule : Place → Rule
place_rule place = record (new_rule (place_id place)) { action = Some Set; required = true }

-- a command's options, and then its positionals
abbrev pub with_choices : App → List Choice → App
with_choices = fold (λ app choice. with_rule app (choice_rule choice))

abbrev pub with_places : App → List Place → App
with_places = fold (λ app place. with_rule app (place_rule place))

abbrev pub app_for : Command → App
app_for command = with_places (with_choices (new_app (word_of command)) (choices_of command)) (places_of command)

-- the text of each option and positional that is given, where clap takes the words
abbrev pub found_where : Kinds → (Text → Option Text) → Option (Text → Option Text)
found_where [] found = Some found
found_where (kind ∷ kinds) found = None

abbrev pub found_in : Command → List Text → Option (Text → Option Text)
found_in command words =
    found_where (fault_of (app_for command) words) (λ id. first_of id (matches_of (app_for command) words))

-- the text that clap found of an option or a positional
abbrev pub given : ArgMatches → Text → Option Text
given found id = first_of id (rows_of (found_of found))

abbrev pub chosen : ArgMatches → Choice → Option Text
chosen found choice = given found (choice_id choice)

abbrev pub placed : ArgMatches → Place → Option Text
placed found place = given found (place_id place)

-- clap took the words and found this, or it didn't take them
abbrev pub IsFoundIn : Option ArgMatches → Command → List Text → Type 0
IsFoundIn None command words = found_in command words ≡ None
IsFoundIn (Some found) command words = found_in command words ≡ Some (given found)
