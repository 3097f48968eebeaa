-- The bus side of the machine: shared memory with the owner and the requests of each line, the slot, and the last actions.
use Rattle.std.specs.Prelude.{◌≡◌, ℕ, ◌+◌, ◌-◌, ◌*◌, ◌<◌, ◌≤◌, List, [], ◌∷◌, ◌++◌, length, take, drop, slice_set, slice_index_or, Bool, true, false, ◌&&◌, Option, Some, None, is_none, if◌then◌else◌}
use Rattle.std.specs.List.{All}
use Rattle.std.specs.Option.{option_map}
use Rattle.pmsi_model.specs.declared.job.Geometry.{Geometry}
use Rattle.pmsi_model.specs.declared.Action.{Action}
use Rattle.pmsi_model.specs.declared.Action.TheVariants.{Idle, Post, Fill, PostFill, Back}
use Rattle.pmsi_model.specs.declared.Behind.{Behind}
use Rattle.pmsi_model.specs.declared.Behind.TheVariants.{Nobody, Reads, Write as WriteBehind}
use Rattle.pmsi_model.specs.declared.Kind.{Kind}
use Rattle.pmsi_model.specs.declared.Name.{Name}
use Rattle.pmsi_model.specs.declared.Posted.{Posted}
use Rattle.pmsi_model.specs.declared.Posted.TheVariants.{Queued, Filled}
use Rattle.pmsi_model.specs.Geometry.{IsGeometry, line_bytes}
use Rattle.pmsi_model.specs.Slots.{SlotPlan, owner_of_slot, gap_of}
use Rattle.pmsi_model.specs.Machine.{Request, is_write, first_of, has_request, has_write, removed, request_of}
use Rattle.pmsi_model.specs.Bus.{is_core, kind_of_name}
use Rattle.pmsi_model.specs.Coherent.{RequestsOnce}

-- ---- shared memory

-- the line is one of memory
abbrev pub IsLine : Geometry → ℕ → Type 0
IsLine shape line = (line + 1) * line_bytes shape ≤ shape.memory

-- shared memory in words, lowest address first: those of an owned line may be stale. `posted` has the requests in posting
-- order, and `owners` the owner of each line, by its number
pub record SharedValue : Type 0 where
  pub shape : Geometry
  pub posted : List Request
  pub owners : List (Option ℕ)
  pub words : List ℕ

-- the owner of a line
abbrev pub owner_in : SharedValue → ℕ → Option ℕ
owner_in m line = slice_index_or m.owners line None

-- the words of a line
abbrev pub line_in : SharedValue → ℕ → List ℕ
line_in m line = take m.shape.line_words (drop (line * m.shape.line_words) m.words)

-- a request can be served: it is the first of its line's queue, and nobody owns the line
abbrev pub is_ready_for : SharedValue → ℕ → Option Request → Bool
is_ready_for m c None = false
is_ready_for m c (Some r) = is_core c (first_of r.line m.posted) && is_none (owner_in m r.line)

-- core c has a request that can be served
abbrev pub is_ready : SharedValue → ℕ → Bool
is_ready m c = is_ready_for m c (request_of c m.posted)

-- what is left in a line's queue
abbrev pub behind_in : ℕ → List Request → Behind
behind_in line posted = if has_write line posted then WriteBehind else if has_request line posted then Reads else Nobody

-- the request goes last
abbrev pub with_request : ℕ → ℕ → Kind → SharedValue → SharedValue
with_request c line kind m = record m { posted = m.posted ++ record { core = c; line = line; kind = kind } ∷ [] }

-- a request leaves, and a write makes its core the owner
abbrev pub without_request : ℕ → Option Request → SharedValue → SharedValue
without_request c None m = m
without_request c (Some r) m = record m {
  posted = removed c m.posted;
  owners = if is_write r.kind then slice_set m.owners r.line (Some c) else m.owners;
}

-- core c's request is served
abbrev pub filled : ℕ → SharedValue → SharedValue
filled c m = without_request c (request_of c m.posted) m

-- the line gets these words, and nobody owns it any more
abbrev pub written_back : ℕ → List ℕ → SharedValue → SharedValue
written_back line words m = record m {
  owners = slice_set m.owners line None;
  words = take (line * length words) m.words ++ words ++ drop ((line + 1) * length words) m.words;
}

-- shared memory has a machine's shape: each core has one request at most, for a line of memory
pub record IsShared (m : SharedValue) : Type 0 where
  pub shape : IsGeometry m.shape
  pub once : RequestsOnce m.posted
  pub cores : All (λ r. r.core < m.shape.cores) m.posted
  pub lines : All (λ r. IsLine m.shape r.line) m.posted
  pub owners : length m.owners * line_bytes m.shape ≡ m.shape.memory
  pub words : 4 * length m.words ≡ m.shape.memory

-- ---- the bus

-- what a bus has: `recent` are the actions of the last slots, at most as many as lie between two own slots of a core, and
-- `trace` those of all slots, where the bus keeps them
pub record BusSide : Type 0 where
  pub memory : SharedValue
  pub plan : SlotPlan
  pub slot : ℕ
  pub recent : List Action
  pub keeps : Bool
  pub trace : List Action

-- the last so many
abbrev pub last_of : {X : Type 0} → ℕ → List X → List X
last_of count items = drop (length items - count) items

-- the slot ends with an action
abbrev pub ended : Action → SharedValue → BusSide → BusSide
ended action memory b = record b {
  memory = memory;
  slot = b.slot + 1;
  recent = last_of (gap_of b.plan) (b.recent ++ action ∷ []);
  trace = if b.keeps then b.trace ++ action ∷ [] else b.trace;
}

-- shared memory once a request is posted
abbrev pub posted_in : ℕ → ℕ → Name → SharedValue → SharedValue
posted_in c line name m = with_request c line (kind_of_name name) m

-- a request is filled in the slot of its post where it can be served at once
abbrev pub fills_at_once : ℕ → ℕ → Name → SharedValue → Bool
fills_at_once c line name m = is_ready (posted_in c line name m) c

abbrev pub side_posted : ℕ → ℕ → Name → BusSide → BusSide
side_posted c line name b =
    let m = posted_in c line name b.memory in
    if fills_at_once c line name b.memory then ended (PostFill name line) (filled c m) b else ended (Post name line) m b

abbrev pub post_answer : ℕ → ℕ → Name → SharedValue → Posted
post_answer c line name m = if fills_at_once c line name m then Filled else Queued

-- the words that a post gives: the line's, where its request is filled at once
abbrev pub words_met : ℕ → ℕ → Name → SharedValue → List ℕ → List ℕ
words_met c line name m words = if fills_at_once c line name m then line_in m line else words

abbrev pub side_filled : ℕ → ℕ → BusSide → BusSide
side_filled c line b = ended (Fill line) (filled c b.memory) b

abbrev pub side_back : ℕ → List ℕ → Bool → BusSide → BusSide
side_back line words kept b = ended (Back line kept) (written_back line words b.memory) b

abbrev pub side_idle : BusSide → BusSide
side_idle b = ended Idle b.memory b

-- ---- what a core may ask of the bus

-- the slot is the core's
pub record IsOwnSlot (c : ℕ) (b : BusSide) : Type 0 where
  pub more : b.slot < b.memory.shape.slots
  pub own : owner_of_slot b.plan b.slot ≡ c

-- the core has no posted request
pub record CanPost (c line : ℕ) (m : SharedValue) : Type 0 where
  pub within : IsLine m.shape line
  pub unposted : request_of c m.posted ≡ None

-- the core's request is for this line, and can be served
pub record CanFill (c line : ℕ) (m : SharedValue) : Type 0 where
  pub ready : is_ready m c ≡ true
  pub asked : option_map (λ r. r.line) (request_of c m.posted) ≡ Some line

-- the core owns the line, and these are as many words as a line has
pub record CanWriteBack (c line : ℕ) (words : List ℕ) (m : SharedValue) : Type 0 where
  pub owner : owner_in m line ≡ Some c
  pub count : length words ≡ m.shape.line_words
