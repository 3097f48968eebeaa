-- Canonical words: a command, its options in order, each at most once, and its positionals.
use Rattle.std.specs.Prelude.{◌≡◌, is_some, List, [], ◌∷◌, ◌++◌, map, Bool, true, false, not, ◌==◌, Option, Some, None, IfSome, codes}
use Rattle.std.specs.List.{All}
use Rattle.clap.specs.Words.{Text}
use Rattle.pmsi_model.specs.declared.limits.TheConstants.{MAX_CORES, MAX_SLOTS, MAX_WORKERS}
use Rattle.tool_words.specs.declared.table.Command.{Command}
use Rattle.tool_words.specs.declared.table.Choice.{Choice}
use Rattle.tool_words.specs.declared.table.Choice.TheVariants as choice
use Rattle.tool_words.specs.declared.table.Place.TheVariants as place
use Rattle.tool_words.specs.declared.table.Place.{Place}
use Rattle.tool_words.specs.Table.{word_of, choice_id, choices_of, places_of}
use Rattle.tool_words.specs.Meaning.{answer_of, meaning, number_of, seed_of, values_in}

-- an option that is given stands as two words
abbrev pub with_choice : Choice → Option Text → List Text → List Text
with_choice choice None words = words
with_choice choice (Some value) words = (codes "--" ++ choice_id choice) ∷ value ∷ words

abbrev pub choice_words : List Choice → (Choice → Option Text) → List Text → List Text
choice_words [] chosen words = words
choice_words (choice ∷ choices) chosen words = with_choice choice (chosen choice) (choice_words choices chosen words)

abbrev pub canonical_words : Command → (Choice → Option Text) → (Place → Text) → List Text
canonical_words command chosen placed = word_of command ∷ choice_words (choices_of command) chosen (map placed (places_of command))

-- a word isn't empty, and doesn't begin with `-`
abbrev pub is_plain : Text → Bool
is_plain [] = false
is_plain (byte ∷ rest) = not (byte == 45)

-- each option's value is such a word, and each positional
abbrev pub ArePlain : (Choice → Option Text) → Type 0
ArePlain chosen = (choice : Choice) → IfSome (chosen choice) (λ text. is_plain text ≡ true)

abbrev pub AreNames : (Place → Text) → Type 0
AreNames placed = (place : Place) → is_plain (placed place) ≡ true

-- canonical words mean what the table says
abbrev pub MeansTable : Command → (Choice → Option Text) → (Place → Text) → Type 0
MeansTable command chosen placed = meaning (canonical_words command chosen placed) ≡ values_in command chosen (λ place. Some (placed place))

abbrev pub CanonicalMeansTable : Type 0
CanonicalMeansTable = (command : Command) (chosen : Choice → Option Text) (placed : Place → Text)
    → ArePlain chosen → AreNames placed → MeansTable command chosen placed

-- the values that an option may have
abbrev pub is_allowed : Choice → Text → Bool
is_allowed choice.Workers text = is_some (number_of 1 MAX_WORKERS text)
is_allowed choice.Trace text = is_some (answer_of text)
is_allowed choice.Touches text = is_some (answer_of text)
is_allowed choice.Cores text = is_some (number_of 1 MAX_CORES text)
is_allowed choice.Slots text = is_some (number_of 0 MAX_SLOTS text)
is_allowed choice.Run text = is_some (answer_of text)

abbrev pub AreAllowed : (Choice → Option Text) → Type 0
AreAllowed chosen = (choice : Choice) → IfSome (chosen choice) (λ text. is_allowed choice text ≡ true)

-- the values that a positional may have: a file's name may be any text
abbrev pub is_value : Place → Text → Bool
is_value place.Job text = true
is_value place.Source text = true
is_value place.Image text = true
is_value place.Seed text = is_some (seed_of text)
is_value place.Script text = true

abbrev pub AreValues : Command → (Place → Text) → Type 0
AreValues command placed = All (λ place. is_value place (placed place) ≡ true) (places_of command)

-- canonical words with allowed values mean what the table says, and that is always something
abbrev pub AllowedAlwaysMean : Type 0
AllowedAlwaysMean = (command : Command) (chosen : Choice → Option Text) (placed : Place → Text)
    → AreAllowed chosen → AreNames placed → AreValues command placed
    → MeansTable command chosen placed × (is_some (meaning (canonical_words command chosen placed)) ≡ true)
