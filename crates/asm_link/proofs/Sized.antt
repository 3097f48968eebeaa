-- How many bytes and words the lines of a source come to.
use Rattle.std.proofs.Common.{◌≡◌, ℕ, ◌+◌, ◌*◌, ◌≤◌, Bool, true, false, List, [], ◌∷◌, length, map, Option, Some, None, refl, ap, sym, ◌∙◌, arith, suc, length-append}
use Rattle.std.specs.Prelude.{ℤ, cond, if◌then◌else◌, replicate}
use Rattle.std.specs.Option.{option_or}
use Rattle.std.proofs.lemmas.List.{length-replicate, length-map}
use Rattle.std.specs.List.{All, AllZip, filter, flat_map, sum_by}
use Rattle.asm_parse.specs.declared.statement.Statement as read
use Rattle.asm_parse.specs.declared.statement.Statement.TheVariants as does
use Rattle.asm_parse.specs.declared.item.Instrs.TheVariants.{One, Two}
use Rattle.asm_parse.specs.Mnemonics.{Code, Item}
use Rattle.asm_parse.specs.Items.{IsSound, bytes_in, number_of, statement_of}
use Rattle.asm_parse.specs.Assembly.{Statement, Nothing, Switch, Emit, Zeros, MoveTo, Define, Step, byte_in, bytes_by, code_at, codes_of, code_bytes, here, items_of, placed_from, size_of, zeros_of}
use Rattle.asm_link.specs.declared.step.Step as kept
use Rattle.asm_link.specs.Placed.{codes_in}
use Rattle.asm_link.specs.Filled.{IsKept, data_bytes, step_codes, last_byte}
use Rattle.asm_link.specs.Rounds.{IsStep, has_items}
use Rattle.asm_link.proofs.Emitted.{number_codes, numbers_long}
use Rattle.asm_link.proofs.Laying.{size_of_items}
use Rattle.asm_link.proofs.DataBytes.{IsSized, last_of}
use Rattle.asm_link.proofs.TextLength.{IsLong}
use Rattle.asm_link.proofs.Linked.{AreSame, codes_are, no_codes, no_items, zip_all, all_filter}

abbrev pub widths : List (ℕ × Item) → ℕ
widths items = sum_by (λ item. item.0) items

-- a statement's size: its zeros, and the widths of its items
pub zeros_and_items : (statement : Statement) → length (zeros_of statement) + widths (items_of statement) ≡ size_of statement
zeros_and_items Nothing = refl
zeros_and_items (Switch to_data) = refl
zeros_and_items (Emit items) = omega arith
zeros_and_items (Zeros count) =
    let byte : ℕ = 0 in
    let long : length (replicate count byte) ≡ count = length-replicate count byte in
    omega (arith, long)
zeros_and_items (MoveTo to) = refl
zeros_and_items (Define name n) = refl

pub items_within : (statement : Statement) → widths (items_of statement) ≤ size_of statement
items_within statement = omega (arith, zeros_and_items statement)

-- numbers of data have as many bytes as they are wide
sized_by : (names : List (List ℕ × ℤ)) (address : ℕ) (statement : read.Statement) → IsSound true statement
    → length (flat_map code_bytes (codes_in names address (items_of (statement_of statement)))) ≡ widths (items_of (statement_of statement))
unfolding placed_from
sized_by names address does.Nothing sound = refl
sized_by names address (does.Switch to_data) sound = refl
sized_by names address (does.Instrs instrs) sound = absurd (grind (arith, sound.0))
sized_by names address (does.Numbers width numbers) sound =
    ap length (number_codes names width address numbers.items) ∙ numbers_long names width numbers.items ∙ sym (size_of_items (bytes_in width) (number_of width) numbers.items)
sized_by names address (does.Zeros count) sound = refl
sized_by names address (does.MoveTo to) sound = refl
sized_by names address (does.Define name n) sound = refl

placed_length : (address : ℕ) (items : List (ℕ × Item)) → length (placed_from address items) ≡ length items
unfolding placed_from
placed_length address [] = refl
placed_length address (item ∷ items) = ap suc (placed_length (address + item.0) items)

-- items of text are words
long_by : (names : List (List ℕ × ℤ)) (address : ℕ) (statement : read.Statement) → IsSound false statement
    → 4 * length (codes_in names address (items_of (statement_of statement))) ≡ widths (items_of (statement_of statement))
unfolding placed_from
long_by names address does.Nothing sound = refl
long_by names address (does.Switch to_data) sound = refl
long_by names address (does.Instrs (One a)) sound = refl
long_by names address (does.Instrs (Two a b)) sound = refl
long_by names address (does.Numbers width numbers) sound =
    let word : bytes_in width ≡ 4 = ap bytes_in (sound refl) in
    let count : length (codes_in names address (items_of (statement_of (does.Numbers width numbers)))) ≡ length numbers.items =
    length-map (placed_from address (items_of (statement_of (does.Numbers width numbers)))) (λ (item : ℕ × Item). code_at names item.0 item.1)
    ∙ placed_length address (items_of (statement_of (does.Numbers width numbers)))
    ∙ length-map (map (number_of width) numbers.items) (λ (item : Item). (bytes_in width, item)) ∙ length-map numbers.items (number_of width) in
    ap (λ (n : ℕ). 4 * n) count ∙ ap (λ (n : ℕ). n * length numbers.items) (sym word) ∙ sym (size_of_items (bytes_in width) (number_of width) numbers.items)
long_by names address (does.Zeros count) sound = refl
long_by names address (does.MoveTo to) sound = refl
long_by names address (does.Define name n) sound = refl

sized_from : (names : List (List ℕ × ℤ)) (step : Step) → length (flat_map code_bytes (codes_of names step)) ≡ widths (items_of step.does) → length (bytes_by names step) ≡ size_of step.does
sized_from names step e =
    length-append (zeros_of step.does) (flat_map code_bytes (codes_of names step)) ∙ ap (λ (n : ℕ). length (zeros_of step.does) + n) e ∙ zeros_and_items step.does

-- steps that are kept are as long as they are sized
kept_sized : (names : List (List ℕ × ℤ)) (step : kept.Step) (of : Step) → IsKept step → IsStep step of → IsSized names of
kept_sized names step of kept is here =
    let sound : IsSound true step.does = rw (is.in_data ∙ here) at kept.0 in
    sized_from names of (ap (λ (k : List Code). length (flat_map code_bytes k)) (sym (codes_are names names step of (λ name. refl) is)) ∙ sized_by names step.address step.does sound ∙ ap widths is.items)

kept_long : (names : List (List ℕ × ℤ)) (step : kept.Step) (of : Step) → IsKept step → IsStep step of → IsLong names of
kept_long names step of kept is here =
    let sound : IsSound false step.does = rw (is.in_data ∙ here) at kept.0 in
    let e : 4 * length (codes_of names of) ≡ widths (items_of of.does) =
    ap (λ (k : List Code). 4 * length k) (sym (codes_are names names step of (λ name. refl) is)) ∙ long_by names step.address step.does sound ∙ ap widths is.items in
    omega (arith, e, items_within of.does)

other_sized : (names : List (List ℕ × ℤ)) (of : Step) → has_items of ≡ false → IsSized names of
other_sized names of none here = sized_from names of (rw (no_codes names of none) (rw (no_items names of none) refl))

other_long : (names : List (List ℕ × ℤ)) (of : Step) → has_items of ≡ false → IsLong names of
other_long names of none here = rw (no_codes names of none) (omega arith)

pub all_sized : (names : List (List ℕ × ℤ)) (steps : List kept.Step) (of : List Step) → All IsKept steps → AllZip IsStep steps (filter has_items of) → All (IsSized names) of
all_sized names steps of kept zip =
    all_filter (IsSized names) has_items of (other_sized names) (zip_all IsStep IsKept (IsSized names) steps (filter has_items of) (kept_sized names) zip kept)

pub all_long : (names : List (List ℕ × ℤ)) (steps : List kept.Step) (of : List Step) → All IsKept steps → AllZip IsStep steps (filter has_items of) → All (IsLong names) of
all_long names steps of kept zip =
    all_filter (IsLong names) has_items of (other_long names) (zip_all IsStep IsKept (IsLong names) steps (filter has_items of) (kept_long names) zip kept)

-- ---- the last byte at an address

byte_none : (address at : ℕ) → byte_in address (at, []) ≡ None
byte_none address at = grind arith

byte_if : (test : Bool) (address at other : ℕ) (bytes : List ℕ) → (test ≡ true → at ≡ other) → byte_in address (at, (if test then bytes else [])) ≡ (if test then byte_in address (other, bytes) else None)
byte_if true address at other bytes e = rw (e refl) refl
byte_if false address at other bytes e = byte_none address at

no_byte_if : (test : Bool) (address at : ℕ) → (if test then byte_in address (at, []) else None) ≡ None
no_byte_if true address at = byte_none address at
no_byte_if false address at = refl

abbrev pub own_byte : List (List ℕ × ℤ) → Step → ℕ → Option ℕ
own_byte names step address = if step.place.in_data then byte_in address (step.place.data_at, flat_map code_bytes (codes_of names step)) else None

data_address : (step : Step) → step.place.in_data ≡ true → here step.place ≡ step.place.data_at
data_address step data_here = rw data_here refl

kept_byte : (names others : List (List ℕ × ℤ)) (step : kept.Step) (of : Step) (address : ℕ) → AreSame names others → IsStep step of
    → byte_in address (step.address, data_bytes names step) ≡ own_byte others of address
kept_byte names others step of address same is =
    let codes : flat_map code_bytes (step_codes names step) ≡ flat_map code_bytes (codes_of others of) = ap (flat_map code_bytes) (codes_are names others step of same is) in
    ap (λ (k : List ℕ). byte_in address (step.address, (if step.in_data then k else []))) codes
    ∙ ap (λ (k : Bool). byte_in address (step.address, (if k then flat_map code_bytes (codes_of others of) else []))) is.in_data
    ∙ byte_if of.place.in_data address step.address of.place.data_at (flat_map code_bytes (codes_of others of)) (λ here. is.address ∙ data_address of here)

kept_last : (names others : List (List ℕ × ℤ)) (steps : List kept.Step) (of : List Step) (address : ℕ) → AreSame names others → AllZip IsStep steps of → last_byte names steps address ≡ last_of others of address
unfolding last_byte last_of
kept_last names others [] [] address same zip = refl
kept_last names others (s ∷ ss) [] address same zip = absurd zip
kept_last names others [] (o ∷ os) address same zip = absurd zip
kept_last names others (s ∷ ss) (o ∷ os) address same zip =
    rw (kept_last names others ss os address same zip.1) (ap (λ (k : Option ℕ). option_or (last_of others os address) k) (kept_byte names others s o address same zip.0))

or_none : {A : Type 0} (x : Option A) → option_or x None ≡ x
or_none None = refl
or_none (Some a) = refl

no_byte : (names : List (List ℕ × ℤ)) (step : Step) (address : ℕ) → has_items step ≡ false → own_byte names step address ≡ None
no_byte names step address none = rw (no_codes names step none) (no_byte_if step.place.in_data address step.place.data_at)

filter_last_if : (names : List (List ℕ × ℤ)) (step : Step) (steps : List Step) (address : ℕ) (test : Bool) → has_items step ≡ test → last_of names (filter has_items steps) address ≡ last_of names steps address
    → last_of names (cond test (step ∷ filter has_items steps) (filter has_items steps)) address ≡ option_or (last_of names steps address) (own_byte names step address)
unfolding last_of
filter_last_if names step steps address true is rest = rw rest refl
filter_last_if names step steps address false is rest = rw (no_byte names step address is) (rest ∙ sym (or_none (last_of names steps address)))

filter_last : (names : List (List ℕ × ℤ)) (of : List Step) (address : ℕ) → last_of names (filter has_items of) address ≡ last_of names of address
unfolding last_of
filter_last names [] address = refl
filter_last names (o ∷ os) address = filter_last_if names o os address (has_items o) refl (filter_last names os address)

pub last_is : (names others : List (List ℕ × ℤ)) (steps : List kept.Step) (of : List Step) (address : ℕ) → AreSame names others → AllZip IsStep steps (filter has_items of)
    → last_byte names steps address ≡ last_of others of address
last_is names others steps of address same zip = kept_last names others steps (filter has_items of) address same zip ∙ filter_last others of address
