-- The states that a core keeps of its lines. A line with nothing on its way is in the stable state that its mode says; each
-- line with a request or a write-back on its way stands in a list with its state.
use Rattle.std.specs.Prelude.{◌≡◌, ℕ, List, [], ◌∷◌, ◌++◌, Bool, true, false, not, ◌==◌, ◌||◌, Option, Some, None, if◌then◌else◌}
use Rattle.std.specs.List.{filter}
use Rattle.pmsi_model.specs.declared.Mode.{Mode}
use Rattle.pmsi_model.specs.declared.Mode.TheVariants.{Shared, Modified}
use Rattle.pmsi_model.specs.declared.State.{State}
use Rattle.pmsi_model.specs.declared.State.TheVariants.{I, S, M}
use Rattle.pmsi_model.specs.Machine.{CoreState, mode_of}
use Rattle.cache_ctrl.specs.declared.states.LineState.{LineState}

-- whether a state is one of a line with nothing on its way
abbrev pub is_stable : State → Bool
is_stable I = true
is_stable S = true
is_stable M = true
is_stable state = false

-- the stable state of a mode
abbrev pub stable_of : Option Mode → State
stable_of None = I
stable_of (Some Shared) = S
stable_of (Some Modified) = M

-- the state of a line: the listed one, or else the stable one of its mode
abbrev pub state_at : ℕ → Option Mode → List LineState → State
state_at line mode [] = stable_of mode
state_at line mode (e ∷ es) = if e.line == line then e.state else state_at line mode es

-- the states of the other lines
abbrev pub other_states : ℕ → List LineState → List LineState
other_states line es = filter (λ e. not (e.line == line)) es

-- a stable state isn't listed
abbrev pub listed : ℕ → State → List LineState
listed line state = if is_stable state then [] else record { line = line; state = state } ∷ []

-- the line gets this state, last where it is listed
abbrev pub with_state : ℕ → State → List LineState → List LineState
with_state line state es = other_states line es ++ listed line state

-- whether a line is listed
abbrev pub has_entry : ℕ → List LineState → Bool
has_entry line [] = false
has_entry line (e ∷ es) = e.line == line || has_entry line es

-- each listed line stands there once, in a state that isn't stable
abbrev pub AreTransient : List LineState → Type 0
AreTransient [] = Unit {0}
AreTransient (e ∷ es) = (is_stable e.state ≡ false) × (has_entry e.line es ≡ false) × AreTransient es

-- the list has these states of a core's lines
abbrev pub Knows : List LineState → CoreState → (ℕ → State) → Type 0
Knows es k states = (line : ℕ) → state_at line (mode_of line k.held) es ≡ states line
