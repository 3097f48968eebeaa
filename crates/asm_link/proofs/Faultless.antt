-- What the lines of a source without faults come to.
use Rattle.std.proofs.Common.{◌≡◌, ℕ, zero, suc, ◌+◌, ◌-◌, ◌*◌, ◌/◌, ◌^◌, ◌<◌, ◌≤◌, Bool, true, false, List, [], ◌∷◌, ◌++◌, length, map, Option, Some, None, refl, sym, ◌∙◌, arith, length-append}
use Rattle.std.specs.Prelude.{ℤ, pos, ◌-ℤ◌, not, cond, nat_lt, nat_le, ◌&&◌, if◌then◌else◌, replicate, slice_get, IfSome}
use Rattle.std.specs.Option.{option_or}
use Rattle.std.specs.List.{All, AllByRecursion, AllZip, filter, flat_map}
use Rattle.std.proofs.lemmas.Bool.Decides.{nat_tests}
use Rattle.std.proofs.lemmas.List.Elements.{All-nil, All-cons, All-head, All-tail, All-append}
use Rattle.std.proofs.lemmas.List.Sums.{sum_by-cons}
use Rattle.pmsi_model.specs.declared.limits.TheConstants.{MAX_TEXT_WORDS, MAX_MEMORY}
use Rattle.pmsi_model.specs.Words.{bytes_of}
use Rattle.asm_parse.specs.declared.fault.AsmCause.{AsmCause}
use Rattle.asm_parse.specs.declared.place.Place.{Place}
use Rattle.asm_operands.specs.Operands.{expr_value}
use Rattle.asm_parse.specs.Mnemonics.{Code, Instruction, Raw, Item, Known, Numbered, Distant}
use Rattle.asm_parse.specs.Assembly.{Before, Step, Statement, Nothing, Switch, Emit, Zeros, MoveTo, Define, IsWordOf, after_step, byte_at, byte_in, bytes_by, code_at, code_bytes, codes_of, distance_fault, first_of, here, items_of, later_fault, moved, named_number_fault, placed, placed_from, placing_fault, range_fault, reach_fault, size_of, step_of, steps_from, text_fault, unknown_item, value_fault, value_or_zero, zeros_of}
use Rattle.asm_link.specs.Placed.{codes_in}
use Rattle.asm_link.specs.Rounds.{before_of}
use Rattle.asm_link.proofs.CutPieces.{IsByteAt}
use Rattle.asm_link.proofs.DataBytes.{byte_next, data_in, no_bytes}
use Rattle.asm_link.proofs.FirstOf.{both_none, first_append, no_first}
use Rattle.asm_link.proofs.FormItems.{IsCodable, IsCoded}
use Rattle.asm_link.proofs.LineItems.{AreItems, IsItem, line_items}
use Rattle.asm_link.proofs.Sized.{items_within, widths, zeros_and_items}
use Rattle.asm_link.proofs.TextLength.{text_moved, text_stays}

-- ---- items whose numbers fit

fits_if : (test : Bool) (c : AsmCause) → (if test then None else Some c) ≡ None → test ≡ true
fits_if true c none = refl
fits_if false c none = absurd (cc)

number_code : (width : ℕ) (found : Option ℤ) (column : ℕ) (fits : ℤ → Bool) (gives : ℤ → Code) → ((n : ℤ) → fits n ≡ true → IsCoded width (gives n))
    → value_fault found column fits ≡ None → IsCoded width (gives (value_or_zero found))
number_code width None column fits gives each none = absurd (cc)
number_code width (Some n) column fits gives each none = each n (fits_if (fits n) _ none)

distance_code : (width address column : ℕ) (found : Option ℤ) (fits : ℤ → Bool) (gives : ℤ → Code) → ((n : ℤ) → fits n ≡ true → IsCoded width (gives n))
    → value_fault found column (λ _. true) ≡ None
    → distance_fault (pos address) fits found ≡ None → IsCoded width (gives (value_or_zero found -ℤ pos address))
distance_code width address column None fits gives each none near = absurd (cc)
distance_code width address column (Some n) fits gives each none near = each (n -ℤ pos address) (fits_if (fits (n -ℤ pos address)) _ near)

item_code : (names : List (List ℕ × ℤ)) (address width : ℕ) (item : Item) → IsCodable width item → named_number_fault names item ≡ None
    → reach_fault names (pos address) item ≡ None → IsCoded width (code_at names address item)
item_code names address width (Known code) is number reach = is
item_code names address width (Numbered expr at fits gives) is number reach = number_code width (expr_value names expr) at fits gives is number
item_code names address width (Distant expr fits gives) is number reach =
    distance_code width address expr.column (expr_value names expr) fits gives is number reach

-- ---- words of codes

pub record HaveWords (codes : List Code) : Type 0 where
  pub words : List ℕ
  pub small : All (λ word. word < 2 ^ 32) words
  pub are : AllZip IsWordOf codes words

no_words : HaveWords []
no_words = record { words = []; small = All-nil (λ word. word < 2 ^ 32); are = tt }

zip_append : (codes others : List Code) (words more : List ℕ) → AllZip IsWordOf codes words → AllZip IsWordOf others more
    → AllZip IsWordOf (codes ++ others) (words ++ more)
zip_append [] others [] more are also = also
zip_append [] others (word ∷ words) more are also = absurd are
zip_append (code ∷ codes) others [] more are also = absurd are
zip_append (code ∷ codes) others (word ∷ words) more are also = (are.0, zip_append codes others words more are.1 also)

both_words : (codes others : List Code) → HaveWords codes → HaveWords others → HaveWords (codes ++ others)
both_words codes others have also = record {
  words = have.words ++ also.words;
  small = All-append (λ word. word < 2 ^ 32) have.words also.words have.small also.small;
  are = zip_append codes others have.words also.words have.are also.are;
}

-- ---- what the items of a line come to

widths_more : (item : ℕ × Item) (items : List (ℕ × Item)) → widths (item ∷ items) ≡ item.0 + widths items
widths_more item items = sum_by-cons (λ (item : ℕ × Item). item.0) item items

record AreMade (in_data : Bool) (items : List (ℕ × Item)) (codes : List Code) : Type 0 where
  have : HaveWords codes
  short : length (flat_map code_bytes codes) ≤ widths items
  long : in_data ≡ false → 4 * length codes ≤ widths items

items_made : (names : List (List ℕ × ℤ)) (in_data : Bool) (address : ℕ) (items : List (ℕ × Item)) → AllByRecursion (IsItem in_data) items
    → first_of (map (λ item. named_number_fault names item.1) (placed_from address items)) ≡ None
    → first_of (map (λ item. reach_fault names (pos item.0) item.1) (placed_from address items)) ≡ None → AreMade in_data items (codes_in names address items)
unfolding placed_from
items_made names in_data address [] are number reach = record { have = no_words; short = omega arith; long = λ _. omega arith }
items_made names in_data address (item ∷ items) are number reach =
    let numbers = no_first _ _ number in
    let reaches = no_first _ _ reach in
    let code : IsCoded item.0 (code_at names address item.1) = item_code names address item.0 item.1 are.0.0 numbers.0 reaches.0 in
    let rest = items_made names in_data (address + item.0) items are.1 numbers.1 reaches.1 in
    let bytes : length (flat_map code_bytes (codes_in names address (item ∷ items)))
    ≡ length (code_bytes (code_at names address item.1)) + length (flat_map code_bytes (codes_in names (address + item.0) items)) =
    length-append (code_bytes (code_at names address item.1)) (flat_map code_bytes (codes_in names (address + item.0) items)) in
    record {
      have = record {
        words = code.word ∷ rest.have.words;
        small = All-cons
            (λ word. word < 2 ^ 32) code.word rest.have.words code.small rest.have.small;
        are = (code.is, rest.have.are);
      };
      short = omega (arith, code.short, rest.short, bytes, widths_more item items);
      long = λ text. omega (arith, rest.long text, are.0.1 text, widths_more item items);
    }

-- what a line without faults comes to
pub record IsMade (names : List (List ℕ × ℤ)) (step : Step) : Type 0 where
  pub have : HaveWords (codes_of names step)
  pub short : length (flat_map code_bytes (codes_of names step)) ≤ widths (items_of step.does)
  pub long : step.place.in_data ≡ false → 4 * length (codes_of names step) ≤ size_of step.does

step_made : (names : List (List ℕ × ℤ)) (step : Step) → AreItems step.place.in_data step.does → later_fault names step ≡ None → IsMade names step
unfolding later_fault placed
step_made names step are none =
    let items = placed_from (here step.place) (items_of step.does) in
    let numbers = map (λ (item : ℕ × Item). named_number_fault names item.1) items in
    let reaches = map (λ (item : ℕ × Item). reach_fault names (pos item.0) item.1) items in
    let unknown = map (λ (item : ℕ × Item). unknown_item names item.1) items in
    let whole : first_of (unknown ++ numbers ++ reaches) ≡ None = none in
    let last = both_none (first_of (unknown ++ numbers)) (first_of reaches) (sym (first_append (unknown ++ numbers) reaches) ∙ whole) in
    let two = both_none (first_of unknown) (first_of numbers) (sym (first_append unknown numbers) ∙ last.0) in
    let made = items_made names step.place.in_data (here step.place) (items_of step.does) are two.1 last.1 in
    record { have = made.have; short = made.short; long = λ text. omega (arith, made.long text, items_within step.does) }

-- ---- lines in their places

pub record IsLine (step : Step) : Type 0 where
  pub items : AreItems step.place.in_data step.does
  pub text : text_fault step.place step.does ≡ None
  pub range : range_fault step.place step.does ≡ None

placed_line : (number : ℕ) (b : Before) (line : List ℕ) → (step_of number b line).fault ≡ None
    → (text_fault b.place (step_of number b line).does ≡ None) × (range_fault b.place (step_of number b line).does ≡ None)
unfolding step_of placing_fault
placed_line number b line none =
    let behind = no_first _ _ none in
    let placing = no_first _ _ behind.1 in
    let names = no_first _ _ placing.0 in
    let text = no_first _ _ names.1 in
    let range = no_first _ _ text.1 in
    (text.0, range.0)

same_place : (number : ℕ) (b : Before) (line : List ℕ) → (step_of number b line).place ≡ b.place
unfolding step_of
same_place number b line = refl

one_line : (number : ℕ) (b : Before) (line : List ℕ) → (step_of number b line).fault ≡ None → IsLine (step_of number b line)
one_line number b line none =
    let are = placed_line number b line none in
    record { items = line_items number b line; text = rw (same_place number b line) are.0; range = rw (same_place number b line) are.1 }

abbrev pub HasNoFault : Step → Type 0
HasNoFault step = step.fault ≡ None

pub all_lines : (number : ℕ) (b : Before) (lines : List (List ℕ)) → All HasNoFault (steps_from number b lines) → All IsLine (steps_from number b lines)
unfolding steps_from
all_lines number b [] none = All-nil IsLine
all_lines number b (line ∷ lines) none =
    let step = step_of number b line in
    let later = steps_from (number + 1) (after_step b step) lines in
    All-cons IsLine step later (one_line number b line (All-head HasNoFault step later none))
    (all_lines (number + 1) (after_step b step) lines (All-tail HasNoFault step later none))

pub all_made : (names : List (List ℕ × ℤ)) (steps : List Step) → All IsLine steps → All (λ step. later_fault names step ≡ None) steps → All (IsMade names) steps
all_made names [] are none = All-nil (IsMade names)
all_made names (step ∷ steps) are none =
    All-cons (IsMade names) step steps (step_made names step (All-head IsLine step steps are).items
    (All-head (λ step. later_fault names step ≡ None) step steps none))
    (all_made names steps (All-tail IsLine step steps are) (All-tail (λ step. later_fault names step ≡ None) step steps none))

-- ---- the text

not_if : (test : Bool) (c : AsmCause) → (if test then Some c else None) ≡ None → test ≡ false
not_if true c none = absurd (cc)
not_if false c none = refl

text_step : (step : Step) (in_data : Bool) → step.place.in_data ≡ in_data → text_fault step.place step.does ≡ None → step.place.text_at ≤ 4 * MAX_TEXT_WORDS
    → (moved step.does step.place).text_at ≤ 4 * MAX_TEXT_WORDS
text_step step true there none room = rw (text_stays step.does step.place there) room
text_step step false text none room =
    let within : (not step.place.in_data && nat_lt (4 * MAX_TEXT_WORDS) (step.place.text_at + size_of step.does)) ≡ false = not_if _ _ none in
    rw (text_moved step.does step.place text) (grind (arith, nat_tests, rw text at within))

next_text : (b : Before) (step : Step) → (after_step b step).place.text_at ≡ (moved step.does step.place).text_at
unfolding after_step
next_text b step = refl

pub text_room : (number : ℕ) (b : Before) (lines : List (List ℕ)) → All IsLine (steps_from number b lines) → b.place.text_at ≤ 4 * MAX_TEXT_WORDS
    → (before_of b (steps_from number b lines)).place.text_at ≤ 4 * MAX_TEXT_WORDS
unfolding steps_from before_of
text_room number b [] are room = room
text_room number b (line ∷ lines) are room =
    let step = step_of number b line in
    let later = steps_from (number + 1) (after_step b step) lines in
    let here = All-head IsLine step later are in
    let at : step.place.text_at ≤ 4 * MAX_TEXT_WORDS = rw (same_place number b line) room in
    let next : (after_step b step).place.text_at ≤ 4 * MAX_TEXT_WORDS = rw (next_text b step) (text_step step step.place.in_data refl here.text at) in
    text_room (number + 1) (after_step b step) lines (All-tail IsLine step later are) next

more_words : (names : List (List ℕ × ℤ)) (step : Step) (rest : List Step) (in_data : Bool) → HaveWords (codes_of names step)
    → HaveWords (flat_map (codes_of names) rest)
    → HaveWords (flat_map (codes_of names) (cond (not in_data) (step ∷ rest) rest))
more_words names step rest true have also = also
more_words names step rest false have also = both_words (codes_of names step) (flat_map (codes_of names) rest) have also

pub text_words : (names : List (List ℕ × ℤ)) (steps : List Step) → All (IsMade names) steps
    → HaveWords (flat_map (codes_of names) (filter (λ step. not step.place.in_data) steps))
text_words names [] made = no_words
text_words names (step ∷ steps) made =
    more_words names step (filter (λ step. not step.place.in_data) steps) step.place.in_data (All-head (IsMade names) step steps made).have
    (text_words names steps (All-tail (IsMade names) step steps made))

-- ---- the data

abbrev AreBytes : List ℕ → Type 0
AreBytes bytes = AllByRecursion (λ byte. byte < 256) bytes

both_bytes : (bytes others : List ℕ) → AreBytes bytes → AreBytes others → AreBytes (bytes ++ others)
both_bytes [] others are also = also
both_bytes (byte ∷ bytes) others are also = (are.0, both_bytes bytes others are.1 also)

number_bytes : (width n : ℕ) → AreBytes (bytes_of width n)
number_bytes zero n = tt
number_bytes (suc width) n = (grind arith, number_bytes width (n / 256))

zero_bytes : (count : ℕ) → AreBytes (replicate count 0)
zero_bytes zero = tt
zero_bytes (suc count) = (omega arith, zero_bytes count)

zeros_are : (does : Statement) → AreBytes (zeros_of does)
zeros_are Nothing = tt
zeros_are (Switch in_data) = tt
zeros_are (Emit items) = tt
zeros_are (Zeros count) = zero_bytes count
zeros_are (MoveTo address) = tt
zeros_are (Define name n) = tt

code_are : (code : Code) → AreBytes (code_bytes code)
code_are (Instruction instr) = tt
code_are (Raw width n) = number_bytes width n

codes_are : (codes : List Code) → AreBytes (flat_map code_bytes codes)
codes_are [] = tt
codes_are (code ∷ codes) = both_bytes (code_bytes code) (flat_map code_bytes codes) (code_are code) (codes_are codes)

some_as : {A : Type 0} {P Q : A → Type 0} (found : Option A) → IfSome found P → ((a : A) → P a → Q a) → IfSome found Q
some_as None is each = tt
some_as (Some a) is each = each a is

byte_fits : (bytes : List ℕ) (k : ℕ) → AreBytes bytes → IfSome (slice_get bytes k) (λ byte. (byte < 256) × (k < length bytes))
byte_fits [] k are = tt
byte_fits (byte ∷ bytes) zero are = (are.0, omega arith)
byte_fits (byte ∷ bytes) (suc k) are = some_as (slice_get bytes k) (byte_fits bytes k are.1) (λ b fits. (fits.0, omega (arith, fits.1)))

run_if : (at address : ℕ) (bytes : List ℕ) (test : Bool) → nat_le at address ≡ test → AreBytes bytes → (0 < length bytes → at + length bytes ≤ MAX_MEMORY)
    → IfSome (if test then slice_get bytes (address - at) else None) (IsByteAt address)
run_if at address bytes false is are room = tt
run_if at address bytes true is are room =
    let above : at ≤ address = grind (arith, nat_tests, is) in
    some_as (slice_get bytes (address - at)) (byte_fits bytes (address - at) are)
    (λ b fits. (fits.0, omega (arith, above, fits.1, room (omega (arith, fits.1)))))

room_if : (place : Place) (size : ℕ) → place.in_data ≡ true → (place.in_data && nat_lt MAX_MEMORY (place.data_at + size)) ≡ false
    → place.data_at + size ≤ MAX_MEMORY
room_if place size there within = grind (arith, nat_tests, rw there at within)

room_at : (place : Place) (does : Statement) → place.in_data ≡ true → range_fault place does ≡ None → 0 < size_of does
    → place.data_at + size_of does ≤ MAX_MEMORY
room_at place Nothing there none some = absurd (omega (arith, some))
room_at place (Switch in_data) there none some = absurd (omega (arith, some))
room_at place (Emit items) there none some = room_if place (size_of (Emit items)) there (not_if _ _ none)
room_at place (Zeros count) there none some = room_if place count there (not_if _ _ none)
room_at place (MoveTo address) there none some = absurd (omega (arith, some))
room_at place (Define name n) there none some = absurd (omega (arith, some))

line_bytes : (names : List (List ℕ × ℤ)) (step : Step) (address : ℕ) → IsLine step → IsMade names step → (in_data : Bool) → step.place.in_data ≡ in_data
    → IfSome (if in_data then byte_in address (step.place.data_at, bytes_by names step) else None) (IsByteAt address)
line_bytes names step address line made false there = tt
line_bytes names step address line made true there =
    let are : AreBytes (bytes_by names step) = both_bytes (zeros_of step.does) (flat_map code_bytes (codes_of names step)) (zeros_are step.does)
    (codes_are (codes_of names step)) in
    let long : length (bytes_by names step) ≤ size_of step.does =
    omega (arith, length-append (zeros_of step.does) (flat_map code_bytes (codes_of names step)), made.short, zeros_and_items step.does) in
    run_if step.place.data_at address (bytes_by names step) (nat_le step.place.data_at address) refl are
    (λ some. omega (arith, long, room_at step.place step.does there line.range (omega (arith, some, long))))

either_some : {A : Type 0} (P : A → Type 0) (x y : Option A) → IfSome x P → IfSome y P → IfSome (option_or x y) P
either_some P None y is also = also
either_some P (Some a) y is also = is

pub data_fits : (names : List (List ℕ × ℤ)) (steps : List Step) (address : ℕ) → All IsLine steps → All (IsMade names) steps
    → IfSome (byte_at (data_in names steps) address) (IsByteAt address)
data_fits names [] address are made = rw (no_bytes address) tt
data_fits names (step ∷ steps) address are made =
    rw (byte_next names step steps address)
    (either_some (IsByteAt address) _ (byte_at (data_in names steps) address)
    (line_bytes names step address (All-head IsLine step steps are) (All-head (IsMade names) step steps made) step.place.in_data refl)
    (data_fits names steps address (All-tail IsLine step steps are) (All-tail (IsMade names) step steps made)))
