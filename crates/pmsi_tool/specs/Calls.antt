-- The two calls of the program, and the commands that each serves.
use Rattle.std.specs.Prelude.{ℕ, List, Bool, true, false, not, Option, Some, None, if◌then◌else◌}
use Rattle.tool_words.specs.Meaning.{AskedValue, meaning, run, sim, trace, asm, dis, image, gen, debug}

-- `tool` and `tool_threads`
pub data Call : Type 0 where
  tool_call : Call
  threads_call : Call

-- the commands that have threads do their work
abbrev pub has_threads : AskedValue → Bool
has_threads (run keep name) = false
has_threads (sim workers keep name) = true
has_threads (trace name) = false
has_threads (asm name) = false
has_threads (dis name) = false
has_threads (image name) = false
has_threads (gen seed cores slots runs) = false
has_threads (debug job script) = false

-- `tool_threads` serves these, and `tool` the others
abbrev pub serves : Call → AskedValue → Bool
serves tool_call asked = not (has_threads asked)
serves threads_call asked = has_threads asked

-- what the words ask of a call: nothing where they name a command that it doesn't serve
abbrev pub where_served : Call → Option AskedValue → Option AskedValue
where_served call None = None
where_served call (Some asked) = if serves call asked then Some asked else None

abbrev pub meaning_for : Call → List (List ℕ) → Option AskedValue
meaning_for call words = where_served call (meaning words)
