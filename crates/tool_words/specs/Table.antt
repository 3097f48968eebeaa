-- The table of the commands: a row of each function is a command, an option or a positional.
use Rattle.std.specs.Prelude.{List, [], ◌∷◌, codes}
use Rattle.clap.specs.Words.{Text}
use Rattle.tool_words.specs.declared.table.Command.{Command}
use Rattle.tool_words.specs.declared.table.Command.TheVariants.{Run, Sim, Trace, Asm, Dis, Image, Gen, Debug}
use Rattle.tool_words.specs.declared.table.Choice.{Choice}
use Rattle.tool_words.specs.declared.table.Choice.TheVariants as choice
use Rattle.tool_words.specs.declared.table.Place.{Place}
use Rattle.tool_words.specs.declared.table.Place.TheVariants as place

-- the commands, and the first word of each
abbrev pub commands : List Command
commands = Run ∷ Sim ∷ Trace ∷ Asm ∷ Dis ∷ Image ∷ Gen ∷ Debug ∷ []

abbrev pub word_of : Command → Text
word_of Run = codes "run"
word_of Sim = codes "sim"
word_of Trace = codes "trace"
word_of Asm = codes "asm"
word_of Dis = codes "dis"
word_of Image = codes "image"
word_of Gen = codes "gen"
word_of Debug = codes "debug"

-- the name of an option, which is written behind `--`
abbrev pub choice_id : Choice → Text
choice_id choice.Workers = codes "workers"
choice_id choice.Trace = codes "trace"
choice_id choice.Touches = codes "touches"
choice_id choice.Cores = codes "cores"
choice_id choice.Slots = codes "slots"
choice_id choice.Run = codes "run"

abbrev pub place_id : Place → Text
place_id place.Job = codes "job"
place_id place.Source = codes "source"
place_id place.Image = codes "image"
place_id place.Seed = codes "seed"
place_id place.Script = codes "script"

-- the options of a command, in order
abbrev pub choices_of : Command → List Choice
choices_of Run = choice.Trace ∷ choice.Touches ∷ []
choices_of Sim = choice.Workers ∷ choice.Trace ∷ choice.Touches ∷ []
choices_of Trace = []
choices_of Asm = []
choices_of Dis = []
choices_of Image = []
choices_of Gen = choice.Cores ∷ choice.Slots ∷ choice.Run ∷ []
choices_of Debug = []

-- the positionals of a command, in order
abbrev pub places_of : Command → List Place
places_of Run = place.Job ∷ []
places_of Sim = place.Job ∷ []
places_of Trace = place.Job ∷ []
places_of Asm = place.Source ∷ []
places_of Dis = place.Image ∷ []
places_of Image = place.Image ∷ []
places_of Gen = place.Seed ∷ []
places_of Debug = place.Job ∷ place.Script ∷ []
