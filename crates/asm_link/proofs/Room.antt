-- Lines that are kept have room for their bytes.
use Rattle.std.proofs.Common.{◌≡◌, ℕ, ◌+◌, ◌<◌, ◌≤◌, Bool, true, false, List, [], ◌∷◌, ◌++◌, length, get_or, Option, refl, ap, ◌∙◌, arith}
use Rattle.std.specs.Prelude.{ℤ, not, ◌==◌, if◌then◌else◌, IsSome}
use Rattle.std.specs.List.{All, flat_map}
use Rattle.std.proofs.lemmas.List.Elements.{All-nil, All-cons, All-append}
use Rattle.pmsi_model.specs.declared.limits.TheConstants.{MAX_MEMORY}
use Rattle.asm_parse.specs.declared.place.Place.{Place}
use Rattle.asm_parse.specs.declared.statement.Statement as read
use Rattle.asm_parse.specs.declared.statement.Statement.TheVariants as does
use Rattle.asm_parse.specs.Items.{IsSound, bytes_in, number_of, statement_of}
use Rattle.asm_parse.specs.Assembly.{Statement, Nothing, Switch, Emit, Zeros, MoveTo, Define, code_bytes, here, items_of, moved, placed_from, size_of}
use Rattle.asm_link.specs.declared.step.Step.{Step}
use Rattle.asm_link.specs.Bytes.{byte_of}
use Rattle.asm_link.specs.Placed.{codes_in}
use Rattle.asm_link.specs.Filled.{HasRoom, IsKept}
use Rattle.asm_link.specs.Rounds.{IsWithin, kept_of}
use Rattle.asm_link.proofs.Emitted.{number_codes, numbers_long}
use Rattle.asm_link.proofs.Laying.{size_of_items}

-- a line's own bytes are as many as its size, or fewer
bytes_fit : (names : List (List ℕ × ℤ)) (address : ℕ) (statement : read.Statement) → IsSound true statement → length (flat_map code_bytes (codes_in names address (items_of (statement_of statement)))) ≤ size_of (statement_of statement)
unfolding placed_from
bytes_fit names address does.Nothing sound = omega arith
bytes_fit names address (does.Switch to_data) sound = omega arith
bytes_fit names address (does.Instrs instrs) sound = absurd (grind (arith, sound.0))
bytes_fit names address (does.Numbers width numbers) sound =
    let a = ap length (number_codes names width address numbers.items) ∙ numbers_long names width numbers.items in
    let b = size_of_items (bytes_in width) (number_of width) numbers.items in
    omega (arith, a, b)
bytes_fit names address (does.Zeros count) sound = omega arith
bytes_fit names address (does.MoveTo to) sound = omega arith
bytes_fit names address (does.Define name n) sound = omega arith

all_if : {A : Type 0} (P : A → Type 0) (test : Bool) (x : A) → P x → All P (if test then x ∷ [] else [])
all_if P true x p = All-cons P x [] p (All-nil P)
all_if P false x p = All-nil P

pub kept_more : (steps : List Step) (new : List Step) (number : ℕ) (place : Place) (statement : read.Statement) → new ≡ steps ++ kept_of number place statement → IsSound place.in_data statement → here place ≤ MAX_MEMORY
    → All IsKept steps → All IsKept new
kept_more steps new number place statement e sound within all =
    rw e (All-append IsKept steps (kept_of number place statement) all (all_if IsKept (not (length (items_of (statement_of statement)) == 0)) (record { number = number; in_data = place.in_data; address = here place; does = statement }) (sound, within)))

room_if : (names : List (List ℕ × ℤ)) (memory : List (Option ℕ)) (in_data : Bool) (text at : ℕ) (statement : read.Statement) → IsSound in_data statement → (if in_data then at else text) ≤ MAX_MEMORY
    → ((k : ℕ) → in_data ≡ true → k < size_of (statement_of statement) → IsSome (byte_of memory (at + k))) → (in_data ≡ true → at + size_of (statement_of statement) ≤ MAX_MEMORY)
    → ((k : ℕ) → k < length (if in_data then flat_map code_bytes (codes_in names (if in_data then at else text) (items_of (statement_of statement))) else []) → IsSome (byte_of memory ((if in_data then at else text) + k)))
    × ((if in_data then at else text) + length (if in_data then flat_map code_bytes (codes_in names (if in_data then at else text) (items_of (statement_of statement))) else []) ≤ MAX_MEMORY)
room_if names memory true text at statement sound within named ends =
    let short = bytes_fit names at statement sound in
    ((λ k lt. named k refl (omega (arith, short, lt))), (let e = ends refl in omega (arith, short, e)))
room_if names memory false text at statement sound within named ends = ((λ k lt. absurd (omega (arith, lt))), omega (arith, within))

-- a line's bytes are named where all of its size is
pub has_room : (names : List (List ℕ × ℤ)) (memory : List (Option ℕ)) (number : ℕ) (place : Place) (statement : read.Statement) → IsSound place.in_data statement → here place ≤ MAX_MEMORY
    → ((k : ℕ) → place.in_data ≡ true → k < size_of (statement_of statement) → IsSome (byte_of memory (place.data_at + k))) → (place.in_data ≡ true → place.data_at + size_of (statement_of statement) ≤ MAX_MEMORY)
    → HasRoom names memory (record { number = number; in_data = place.in_data; address = here place; does = statement })
has_room names memory number place statement sound within named ends =
    room_if names memory place.in_data place.text_at place.data_at statement sound within named ends

still_room : (names : List (List ℕ × ℤ)) (old new : List (Option ℕ)) (step : Step) → ((address : ℕ) → IsSome (byte_of old address) → IsSome (byte_of new address)) → HasRoom names old step → HasRoom names new step
still_room names old new step still room = ((λ k lt. still (step.address + k) (room.0 k lt)), room.1)

pub room_more : (names : List (List ℕ × ℤ)) (old new : List (Option ℕ)) (steps after : List Step) (number : ℕ) (place : Place) (statement : read.Statement) → after ≡ steps ++ kept_of number place statement
    → IsSound place.in_data statement → here place ≤ MAX_MEMORY
    → ((k : ℕ) → place.in_data ≡ true → k < size_of (statement_of statement) → IsSome (byte_of new (place.data_at + k))) → (place.in_data ≡ true → place.data_at + size_of (statement_of statement) ≤ MAX_MEMORY)
    → ((address : ℕ) → IsSome (byte_of old address) → IsSome (byte_of new address)) → All (HasRoom names old) steps → All (HasRoom names new) after
room_more names old new steps after number place statement e sound within named ends still all =
    rw e (All-append (HasRoom names new) steps (kept_of number place statement) (λ k d lt. still_room names old new (get_or steps k d) still (all k d lt))
    (all_if (HasRoom names new) (not (length (items_of (statement_of statement)) == 0)) (record { number = number; in_data = place.in_data; address = here place; does = statement }) (has_room names new number place statement sound within named ends)))

pub here_within : (place : Place) → IsWithin place → here place ≤ MAX_MEMORY
here_within place within = grind (arith, within.0, within.1)

pub ends_within : (place : Place) (statement : Statement) → IsWithin place → IsWithin (moved statement place) → place.in_data ≡ true → place.data_at + size_of statement ≤ MAX_MEMORY
ends_within place Nothing within after here = omega (arith, within.1)
ends_within place (Switch to_data) within after here = omega (arith, within.1)
ends_within place (Emit items) within after here = (rw here at after).1
ends_within place (Zeros count) within after here = (rw here at after).1
ends_within place (MoveTo to) within after here = omega (arith, within.1)
ends_within place (Define name n) within after here = omega (arith, within.1)
