-- The lines of an image's memory, and those that choose the space.
use Rattle.std.proofs.Common.{◌≡◌, Option, ℕ, zero, suc, ◌+◌, ◌%◌, ◌^◌, ◌<◌, ◌≤◌, false, true, List, [], ◌∷◌, ◌++◌, map, length, codes, Some, None, refl, ap, subst, sym, ◌∙◌, arith, zero-add, append_assoc, append-nil, All}
use Rattle.std.specs.Prelude.{pos}
use Rattle.std.specs.List.{flat_map}
use Rattle.std.proofs.lemmas.Int.{ints}
use Rattle.std.proofs.lemmas.List.Elements.{All-head, All-tail}
use Rattle.std.proofs.lemmas.List.Sums.{sum_by-cons}
use borrow.Author.Tests.{tests}
use Rattle.pmsi_model.specs.Lines.{hex_word}
use Rattle.asm_operands.specs.declared.token.TokenKind.TheVariants.{Word, Number}
use Rattle.asm_parse.specs.declared.place.Place.{Place}
use Rattle.asm_operands.specs.Tokens.{is_name_byte, kind_of}
use Rattle.asm_operands.specs.Numbers.{number_spelt}
use Rattle.asm_operands.specs.Operands.{Taken, Expr, take_kind, take_literal, take_expr, take_exprs, take_more}
use Rattle.asm_parse.specs.Mnemonics.{Item, forms_named, mnemonics}
use Rattle.asm_parse.specs.Assembly.{Statement, Switch, Emit, MoveTo, Asks, Reads, Step, asked, labels_of, behind_labels, directive_named, directives, number_item, is_byte, is_size, first_of, first_wrong, unknown_item, named_number_fault, reach_fault, later_fault, placed, placed_from, code_at, code_bytes, bytes_by, size_of, names_of}
use Rattle.asm_print.specs.ListingText.{byte_text}
use Rattle.asm_print.specs.Operands.{joined}
use Rattle.asm_print.proofs.Spelling.{Part, Run, Gap, spelling, written, AreParts, begins_run, IsRun, spelled}
use Rattle.asm_print.proofs.Spelt.{hex_run, hex_spelt}
use Rattle.asm_print.proofs.OperandTexts.{number_expr, comma_then, comma_parts, next}
use Rattle.asm_print.proofs.Ranges.{natural_number}
use Rattle.asm_print.proofs.Steps.{IsPlain, Give, plain_step, at_data}

word_alone : (place : Place) (name : List ℕ) (does : Statement) → IsRun Word name → asked place [] (written 1 (Run Word name ∷ [])) ≡ Asks (Reads None does) → IsPlain (spelling (Run Word name ∷ [])) place does
unfolding labels_of behind_labels
word_alone place name does run asks = record { found = written 1 (Run Word name ∷ []); read = spelled (Run Word name ∷ []) (run, refl, tt); labels = refl; behind = refl; asks = asks }

pub text_plain : (place : Place) → IsPlain (codes ".text") place (Switch false)
unfolding asked forms_named mnemonics directive_named directives is_name_byte kind_of
text_plain place = word_alone place (codes ".text") (Switch false) (record { some = omega arith; names = refl; first = refl }) refl

pub data_plain : (place : Place) → IsPlain (codes ".data") place (Switch true)
unfolding asked forms_named mnemonics directive_named directives is_name_byte kind_of
data_plain place = word_alone place (codes ".data") (Switch true) (record { some = omega arith; names = refl; first = refl }) refl

-- ---- addresses

size : (n : ℕ) → n < 2 ^ 32 → is_size (pos n) ≡ true
size n low = grind (arith, ints, tests)

org_asks : (text memory column column' address : ℕ) → address < 2 ^ 32 →
    asked (at_data text memory) [] (record { kind = Word; text = codes ".org"; column = column } ∷ record { kind = Number; text = hex_word address; column = column' } ∷ []) ≡ Asks (Reads None (MoveTo address))
unfolding asked forms_named mnemonics directive_named directives take_literal take_kind
org_asks text memory column column' address low =
    let whole : address % 16 ^ 8 ≡ address = omega arith in
    let value : number_spelt (hex_word address) ≡ Some address = hex_spelt 7 address ∙ ap Some whole in
    rw value (rw (natural_number address low) (rw (size address low) refl))

org_parts : ℕ → List Part
org_parts address = Run Word (codes ".org") ∷ Gap ∷ Run Number (hex_word address) ∷ []

pub org_plain : (text memory address : ℕ) → address < 2 ^ 32 → IsPlain (codes ".org " ++ hex_word address) (at_data text memory) (MoveTo address)
unfolding org_parts labels_of behind_labels is_name_byte kind_of
org_plain text memory address low = record {
  found = written 1 (org_parts address);
  read = spelled (org_parts address) (record { some = omega arith; names = refl; first = refl }, refl, (hex_run 8 address, refl, tt));
  labels = refl;
  behind = refl;
  asks = org_asks text memory 1 6 address low;
}

-- ---- bytes

abbrev pub byte_then : ℕ → List Part → List Part
byte_then byte parts = Run Number (byte_text byte) ∷ parts

-- bytes that each have a comma in front
pub more_bytes : List ℕ → List Part
more_bytes [] = []
more_bytes (byte ∷ bytes) = comma_then (byte_then byte (more_bytes bytes))

pub exprs : ℕ → List ℕ → List Expr
exprs column [] = []
exprs column (byte ∷ bytes) = number_expr column (pos byte) ∷ exprs (column + 4 + 1 + 1) bytes

byte_value : (byte : ℕ) → byte < 256 → number_spelt (byte_text byte) ≡ Some byte
byte_value byte low = let whole : byte % 16 ^ 2 ≡ byte = omega arith in hex_spelt 1 byte ∙ ap Some whole

byte_expr : (byte column : ℕ) (parts : List Part) → byte < 256 → take_expr (written column (byte_then byte parts)) ≡ Taken (number_expr column (pos byte)) (written (column + 4) parts)
unfolding take_expr take_literal take_kind
byte_expr byte column parts low = rw (byte_value byte low) (rw (natural_number byte (omega arith)) refl)

takes_more : (bytes : List ℕ) (most column : ℕ) (found : List Expr) → length bytes ≤ most → All (λ byte. byte < 256) bytes →
    take_more most found (written column (more_bytes bytes)) ≡ Taken (found ++ exprs (column + 1 + 1) bytes) []
unfolding take_more more_bytes exprs
takes_more [] zero column found enough within = ap (λ xs. Taken xs []) (sym (append-nil found))
takes_more [] (suc most) column found enough within = ap (λ xs. Taken xs []) (sym (append-nil found))
takes_more (byte ∷ bytes) zero column found enough within = absurd (omega arith)
takes_more (byte ∷ bytes) (suc most) column found enough within =
    let low : byte < 256 = All-head (λ b. b < 256) byte bytes within in
    let e : Expr = number_expr (column + 1 + 1) (pos byte) in
    rw (next take_expr column (byte_then byte (more_bytes bytes)))
    (rw (byte_expr byte (column + 1 + 1) (more_bytes bytes) low)
    (takes_more bytes most (column + 1 + 1 + 4) (found ++ e ∷ []) (omega arith) (All-tail (λ b. b < 256) byte bytes within) ∙ ap (λ xs. Taken xs []) (append_assoc found (e ∷ []) (exprs (column + 1 + 1 + 4 + 1 + 1) bytes))))

many_tokens : (bytes : List ℕ) (column : ℕ) → length bytes ≤ length (written column (more_bytes bytes))
unfolding more_bytes
many_tokens [] column = omega arith
many_tokens (byte ∷ bytes) column = omega (arith, many_tokens bytes (column + 1 + 1 + length (byte_text byte)))

takes_bytes : (byte : ℕ) (bytes : List ℕ) (column : ℕ) → All (λ b. b < 256) (byte ∷ bytes) → take_exprs (written column (byte_then byte (more_bytes bytes))) ≡ Taken (exprs column (byte ∷ bytes)) []
unfolding take_exprs exprs
takes_bytes byte bytes column within =
    rw (byte_expr byte column (more_bytes bytes) (All-head (λ b. b < 256) byte bytes within))
    (takes_more bytes (length (written column (byte_then byte (more_bytes bytes)))) (column + 4) (number_expr column (pos byte) ∷ []) (omega (arith, many_tokens bytes (column + 4))) (All-tail (λ b. b < 256) byte bytes within))

-- ---- what bytes are put into memory

abbrev pub byte_item : Expr → Item
byte_item expr = number_item 1 is_byte expr

abbrev pub byte_items : ℕ → List ℕ → List (ℕ × Item)
byte_items column bytes = map (λ item. (1, item)) (map byte_item (exprs column bytes))

byte_fits : (n : ℕ) → n < 256 → is_byte (pos n) ≡ true
byte_fits n low = grind (arith, ints, tests)

none_wrong : (column : ℕ) (bytes : List ℕ) → All (λ b. b < 256) bytes → first_wrong (map byte_item (exprs column bytes)) ≡ None
unfolding first_of exprs
none_wrong column [] within = refl
none_wrong column (byte ∷ bytes) within =
    rw (byte_fits byte (All-head (λ b. b < 256) byte bytes within)) (none_wrong (column + 4 + 1 + 1) bytes (All-tail (λ b. b < 256) byte bytes within))

byte_asks : (text memory column column' byte : ℕ) (bytes : List ℕ) → All (λ b. b < 256) (byte ∷ bytes) →
    asked (at_data text memory) [] (record { kind = Word; text = codes ".byte"; column = column } ∷ written column' (byte_then byte (more_bytes bytes))) ≡ Asks (Reads None (Emit (byte_items column' (byte ∷ bytes))))
unfolding asked forms_named mnemonics directive_named directives
byte_asks text memory column column' byte bytes within =
    rw (takes_bytes byte bytes column' within) (rw (none_wrong column' (byte ∷ bytes) within) refl)

no_run_behind : (bytes : List ℕ) → begins_run (more_bytes bytes) ≡ false
unfolding more_bytes
no_run_behind [] = refl
no_run_behind (byte ∷ bytes) = refl

more_parts : (bytes : List ℕ) → AreParts (more_bytes bytes)
unfolding more_bytes
more_parts [] = tt
more_parts (byte ∷ bytes) = comma_parts (byte_then byte (more_bytes bytes)) (hex_run 2 byte, no_run_behind bytes, more_parts bytes)

more_text : (bytes : List ℕ) → spelling (more_bytes bytes) ≡ flat_map (λ other. codes ", " ++ other) (map byte_text bytes)
unfolding more_bytes
more_text [] = refl
more_text (byte ∷ bytes) = ap (λ text. (codes ", " ++ byte_text byte) ++ text) (more_text bytes)

bytes_parts : ℕ → List ℕ → List Part
bytes_parts byte bytes = Run Word (codes ".byte") ∷ Gap ∷ byte_then byte (more_bytes bytes)

bytes_text : (byte : ℕ) (bytes : List ℕ) → spelling (bytes_parts byte bytes) ≡ codes ".byte " ++ joined (map byte_text (byte ∷ bytes))
unfolding bytes_parts
bytes_text byte bytes = ap (λ text. codes ".byte " ++ (byte_text byte ++ text)) (more_text bytes)

first_bytes : (text memory byte : ℕ) (bytes : List ℕ) → All (λ b. b < 256) (byte ∷ bytes) → IsPlain (spelling (bytes_parts byte bytes)) (at_data text memory) (Emit (byte_items 7 (byte ∷ bytes)))
unfolding bytes_parts labels_of behind_labels is_name_byte kind_of
first_bytes text memory byte bytes within = record {
  found = written 1 (bytes_parts byte bytes);
  read = spelled (bytes_parts byte bytes) (record { some = omega arith; names = refl; first = refl }, refl, (hex_run 2 byte, no_run_behind bytes, more_parts bytes));
  labels = refl;
  behind = refl;
  asks = byte_asks text memory 1 7 byte bytes within;
}

-- a line of bytes, without its newline
abbrev pub bytes_line : List ℕ → List ℕ
bytes_line bytes = codes ".byte " ++ joined (map byte_text bytes)

pub bytes_plain : (text memory : ℕ) (bytes : List ℕ) → 0 < length bytes → All (λ b. b < 256) bytes → IsPlain (bytes_line bytes) (at_data text memory) (Emit (byte_items 7 bytes))
bytes_plain text memory [] some within = absurd (omega arith)
bytes_plain text memory (byte ∷ bytes) some within =
    subst (λ line. IsPlain line (at_data text memory) (Emit (byte_items 7 (byte ∷ bytes)))) (bytes_text byte bytes) (first_bytes text memory byte bytes within)

pub bytes_size : (column : ℕ) (bytes : List ℕ) → size_of (Emit (byte_items column bytes)) ≡ length bytes
unfolding exprs
bytes_size column [] = refl
bytes_size column (byte ∷ bytes) =
    let more : size_of (Emit (byte_items column (byte ∷ bytes))) ≡ 1 + size_of (Emit (byte_items (column + 4 + 1 + 1) bytes)) =
    sum_by-cons (λ item. item.0) (1, byte_item (number_expr column (pos byte))) (byte_items (column + 4 + 1 + 1) bytes) in
    omega (arith, more, bytes_size (column + 4 + 1 + 1) bytes)

-- ---- no later fault

both_none : {A : Type 0} (xs ys : List (Option A)) → first_of xs ≡ None → first_of ys ≡ None → first_of (xs ++ ys) ≡ None
unfolding first_of
both_none [] ys none none' = none'
both_none (None ∷ xs) ys none none' = both_none xs ys none none'
both_none (Some a ∷ xs) ys none none' = absurd (cc)

none_unknown : (column address : ℕ) (bytes : List ℕ) → first_of (map (λ item. unknown_item [] item.1) (placed_from address (byte_items column bytes))) ≡ None
unfolding first_of exprs placed_from
none_unknown column address [] = refl
none_unknown column address (byte ∷ bytes) = none_unknown (column + 4 + 1 + 1) (address + 1) bytes

none_misfit : (column address : ℕ) (bytes : List ℕ) → All (λ b. b < 256) bytes → first_of (map (λ item. named_number_fault [] item.1) (placed_from address (byte_items column bytes))) ≡ None
unfolding first_of exprs placed_from
none_misfit column address [] within = refl
none_misfit column address (byte ∷ bytes) within =
    rw (zero-add byte) (rw (byte_fits byte (All-head (λ b. b < 256) byte bytes within)) (none_misfit (column + 4 + 1 + 1) (address + 1) bytes (All-tail (λ b. b < 256) byte bytes within)))

none_far : (column address : ℕ) (bytes : List ℕ) → first_of (map (λ item. reach_fault [] (pos item.0) item.1) (placed_from address (byte_items column bytes))) ≡ None
unfolding first_of exprs placed_from
none_far column address [] = refl
none_far column address (byte ∷ bytes) = none_far (column + 4 + 1 + 1) (address + 1) bytes

none_later : (number text address column : ℕ) (bytes : List ℕ) → All (λ b. b < 256) bytes → later_fault [] (plain_step number (at_data text address) (Emit (byte_items column bytes))) ≡ None
unfolding later_fault placed
none_later number text address column bytes within =
    both_none (map (λ item. unknown_item [] item.1) (placed_from address (byte_items column bytes)) ++ map (λ item. named_number_fault [] item.1) (placed_from address (byte_items column bytes)))
    (map (λ item. reach_fault [] (pos item.0) item.1) (placed_from address (byte_items column bytes)))
    (both_none (map (λ item. unknown_item [] item.1) (placed_from address (byte_items column bytes))) (map (λ item. named_number_fault [] item.1) (placed_from address (byte_items column bytes)))
    (none_unknown column address bytes) (none_misfit column address bytes within))
    (none_far column address bytes)

same_bytes : (column address : ℕ) (bytes : List ℕ) → All (λ b. b < 256) bytes → flat_map code_bytes (map (λ item. code_at [] item.0 item.1) (placed_from address (byte_items column bytes))) ≡ bytes
unfolding exprs placed_from
same_bytes column address [] within = refl
same_bytes column address (byte ∷ bytes) within =
    let low : byte < 256 = All-head (λ b. b < 256) byte bytes within in
    let first : (0 + byte) % 256 ≡ byte = omega arith in
    rw first (ap (λ xs. byte ∷ xs) (same_bytes (column + 4 + 1 + 1) (address + 1) bytes (All-tail (λ b. b < 256) byte bytes within)))

named_bytes : (number text address column : ℕ) (bytes : List ℕ) → All (λ b. b < 256) bytes → bytes_by [] (plain_step number (at_data text address) (Emit (byte_items column bytes))) ≡ bytes
unfolding placed
named_bytes number text address column bytes within = same_bytes column address bytes within

pub give_bytes : (number text address column : ℕ) (line : List ℕ) (steps : List Step) (words : List ℕ) (runs : List (ℕ × List ℕ)) → All (λ b. b < 256) line → Give steps words runs →
    Give (plain_step number (at_data text address) (Emit (byte_items column line)) ∷ steps) words ((address, line) ∷ runs)
unfolding first_of names_of
give_bytes number text address column line steps words runs within give = record {
  first = give.first;
  names = give.names;
  later = rw (none_later number text address column line within) give.later;
  text = give.text;
  runs = rw (named_bytes number text address column line within) (ap (λ xs. (address, line) ∷ xs) give.runs);
}
