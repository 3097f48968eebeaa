-- What the words of a call ask for.
use Rattle.std.specs.Prelude.{ℕ, ◌≤◌, ⊤, nat_lt, nat_le, List, [], ◌∷◌, length, Bool, true, false, ◌&&◌, Option, Some, None, option_map, option_and_then, codes, if◌then◌else◌}
use Rattle.std.specs.Char.{is_ascii_digit}
use Rattle.std.specs.List.{find, list_all}
use Rattle.std.specs.Str.{bytes_eq}
use Rattle.std.specs.Str.Parse.{digits_value}
use Rattle.clap.specs.Words.{Text}
use Rattle.pmsi_model.specs.declared.Keep.{Keep}
use Rattle.pmsi_model.specs.declared.limits.TheConstants.{MAX_CORES, MAX_SLOTS, MAX_WORKERS}
use Rattle.tool_words.specs.declared.table.Command.{Command}
use Rattle.tool_words.specs.declared.table.Command.TheVariants.{Run, Sim, Trace, Asm, Dis, Image, Gen, Debug}
use Rattle.tool_words.specs.declared.table.Choice.{Choice}
use Rattle.tool_words.specs.declared.table.Choice.TheVariants as choice
use Rattle.tool_words.specs.declared.table.Place.{Place}
use Rattle.tool_words.specs.declared.table.Place.TheVariants as place
use Rattle.tool_words.specs.declared.asked.Asked.{Asked}
use Rattle.tool_words.specs.declared.asked.Asked.TheVariants as asked
use Rattle.tool_words.specs.declared.table.TheConstants.{DEFAULT_CORES, DEFAULT_SLOTS, DEFAULT_WORKERS}
use Rattle.tool_words.specs.Table.{commands, word_of, choice_id, place_id}
use Rattle.tool_words.specs.Clap.{found_in}

-- what a call asks for
pub data AskedValue : Type 0 where
  run : Keep → Text → AskedValue
  sim : ℕ → Keep → Text → AskedValue
  trace : Text → AskedValue
  asm : Text → AskedValue
  dis : Text → AskedValue
  image : Text → AskedValue
  -- a seed, cores and slots of a made job, and whether it is run
  gen : ℕ → ℕ → ℕ → Bool → AskedValue
  -- a job, and a script
  debug : Text → Text → AskedValue

-- `yes`, or `no`, which also stands where nothing is given
abbrev pub answer_of : Text → Option Bool
answer_of text = if bytes_eq text (codes "yes") then Some true else if bytes_eq text (codes "no") then Some false else None

abbrev pub answer_in : Option Text → Option Bool
answer_in None = Some false
answer_in (Some text) = answer_of text

-- one to ten decimal digits
abbrev pub is_number : Text → Bool
is_number text = nat_lt 0 (length text) && nat_le (length text) 10 && list_all is_ascii_digit text

-- their number, where it is within a range
abbrev pub within : ℕ → ℕ → ℕ → Option ℕ
within least most number = if nat_le least number && nat_le number most then Some number else None

abbrev pub number_of : ℕ → ℕ → Text → Option ℕ
number_of least most text = if is_number text then within least most (digits_value 10 text) else None

-- the number of an option, or what stands where it isn't given
abbrev pub number_in : ℕ → ℕ → ℕ → Option Text → Option ℕ
number_in default least most None = Some default
number_in default least most (Some text) = number_of least most text

-- the threads that work, from 1 on
abbrev pub workers_in : Option Text → Option ℕ
workers_in = number_in DEFAULT_WORKERS 1 MAX_WORKERS

-- the cores of a made job, from 1 on, its slots, and its seed of 32 bits
abbrev pub cores_in : Option Text → Option ℕ
cores_in = number_in DEFAULT_CORES 1 MAX_CORES

abbrev pub slots_in : Option Text → Option ℕ
slots_in = number_in DEFAULT_SLOTS 0 MAX_SLOTS

abbrev pub seed_of : Text → Option ℕ
seed_of = number_of 0 4294967295

-- what is kept, by the texts of the two options
abbrev pub keep_in : Option Text → Option Text → Option Keep
keep_in of_trace of_touches = option_and_then (λ t. option_map (λ u. record { trace = t; touches = u }) (answer_in of_touches)) (answer_in of_trace)

-- what a command is asked for, by the texts of its options and positionals
abbrev pub values_in : Command → (Choice → Option Text) → (Place → Option Text) → Option AskedValue
values_in Run chosen placed = option_and_then (λ keep. option_map (run keep) (placed place.Job)) (keep_in (chosen choice.Trace) (chosen choice.Touches))
values_in Sim chosen placed =
    option_and_then (λ workers. option_and_then (λ keep. option_map (sim workers keep) (placed place.Job)) (keep_in (chosen choice.Trace) (chosen choice.Touches)))
    (workers_in (chosen choice.Workers))
values_in Trace chosen placed = option_map trace (placed place.Job)
values_in Asm chosen placed = option_map asm (placed place.Source)
values_in Dis chosen placed = option_map dis (placed place.Image)
values_in Image chosen placed = option_map image (placed place.Image)
values_in Gen chosen placed =
    option_and_then (λ cores. option_and_then (λ slots. option_and_then (λ runs. option_map (λ seed. gen seed cores slots runs)
    (option_and_then seed_of (placed place.Seed))) (answer_in (chosen choice.Run))) (slots_in (chosen choice.Slots))) (cores_in (chosen choice.Cores))
values_in Debug chosen placed = option_and_then (λ job. option_map (debug job) (placed place.Script)) (placed place.Job)

-- the command that a word names
abbrev pub command_of : Text → Option Command
command_of word = find (λ command. bytes_eq word (word_of command)) commands

-- what the words ask for: clap reads them by the simple command that the first one names, and gives the texts
abbrev pub meaning_by : Option Command → List Text → Option AskedValue
meaning_by None words = None
meaning_by (Some command) words =
    option_and_then (λ found. values_in command (λ choice. found (choice_id choice)) (λ place. found (place_id place))) (found_in command words)

abbrev pub meaning : List Text → Option AskedValue
meaning [] = None
meaning (word ∷ words) = meaning_by (command_of word) (word ∷ words)

-- a Rust value is that of what is asked for
abbrev pub value_of : Asked → AskedValue
value_of (asked.Run keep job) = run keep job.now
value_of (asked.Sim workers keep job) = sim workers keep job.now
value_of (asked.Trace job) = trace job.now
value_of (asked.Asm source) = asm source.now
value_of (asked.Dis file) = dis file.now
value_of (asked.Image file) = image file.now
value_of (asked.Gen seed cores slots runs) = gen seed cores slots runs
value_of (asked.Debug job script) = debug job.now script.now

-- a run by threads has as many as the limit allows, and so have the cores and slots of a made job
abbrev pub IsAllowed : Asked → Type 0
IsAllowed (asked.Sim workers keep job) = (1 ≤ workers) × (workers ≤ MAX_WORKERS)
IsAllowed (asked.Gen seed cores slots runs) = (1 ≤ cores) × (cores ≤ MAX_CORES) × (slots ≤ MAX_SLOTS)
IsAllowed other = ⊤
