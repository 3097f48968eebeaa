-- The shape of a machine: its limits, lines and sets.
use Rattle.std.specs.Prelude.{◌≡◌, ℕ, ◌*◌, ◌/◌, ◌%◌, ◌≤◌, true}
use Rattle.std.specs.Int.{is_power_of_two}
use Rattle.pmsi_model.specs.declared.job.Geometry.{Geometry}
use Rattle.pmsi_model.specs.declared.Keep.{Keep}
use Rattle.pmsi_model.specs.declared.limits.TheConstants.{MAX_CORES, MAX_QUANTUM, MIN_LINE_WORDS, MAX_LINE_WORDS, MAX_SETS, MAX_WAYS, MIN_MEMORY, MAX_MEMORY, MAX_SLOTS, MAX_TOUCHES}

-- the bytes of a line
abbrev pub line_bytes : Geometry → ℕ
line_bytes shape = 4 * shape.line_words

-- the line that holds the byte at an address
abbrev pub line_of : Geometry → ℕ → ℕ
line_of shape address = address / line_bytes shape

-- the set in which a line is cached
abbrev pub set_of : Geometry → ℕ → ℕ
set_of shape line = line % shape.sets

-- the accesses that a run of the shape can have at most: one for each instruction that its cores can take
abbrev pub most_touches : Geometry → ℕ
most_touches shape = shape.slots * shape.cores * shape.quantum

-- where accesses are to be kept, they aren't too many
abbrev pub CanKeep : Keep → Geometry → Type 0
CanKeep keep shape = keep.touches ≡ true → most_touches shape ≤ MAX_TOUCHES

-- a shape is within the limits, and its memory is whole lines
pub record IsGeometry (shape : Geometry) : Type 0 where
  pub some_cores : 1 ≤ shape.cores
  pub cores : shape.cores ≤ MAX_CORES
  pub some_quantum : 1 ≤ shape.quantum
  pub quantum : shape.quantum ≤ MAX_QUANTUM
  pub least_line : MIN_LINE_WORDS ≤ shape.line_words
  pub greatest_line : shape.line_words ≤ MAX_LINE_WORDS
  pub line : is_power_of_two shape.line_words ≡ true
  pub greatest_sets : shape.sets ≤ MAX_SETS
  pub sets : is_power_of_two shape.sets ≡ true
  pub some_ways : 1 ≤ shape.ways
  pub ways : shape.ways ≤ MAX_WAYS
  pub least_memory : MIN_MEMORY ≤ shape.memory
  pub greatest_memory : shape.memory ≤ MAX_MEMORY
  pub memory : shape.memory % line_bytes shape ≡ 0
  pub slots : shape.slots ≤ MAX_SLOTS
