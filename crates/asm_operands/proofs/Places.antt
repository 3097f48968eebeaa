-- Tokens of a code up to a place that doesn't stand within a run of name bytes.
use Rattle.std.proofs.Common.{◌≡◌, Bool, Option, ℕ, zero, suc, ◌+◌, ◌-◌, ◌<◌, ◌≤◌, false, true, List, [], ◌∷◌, ◌++◌, length, drop, get_or, Some, None, Ok, Err, inl, inr, refl, ap, subst, sym, ◌∙◌, add-one, arith, length-drop, append-nil}
use Rattle.std.specs.Prelude.{slice_index, max, if◌then◌else◌}
use Rattle.std.specs.Char.{is_ascii_digit}
use Rattle.std.specs.Option.{option_to_list}
use Rattle.std.specs.List.{filter_map, range_with_len, position, position_or_len, prefix_len, cons_option}
use Rattle.std.proofs.lemmas.List.{get_or-drop, get_or_past}
use Rattle.std.proofs.lemmas.List.Sums.{prefix_len-le-length, prefix_len_passes, prefix_len_stops, position_or_len_is}
use Rattle.std.proofs.lemmas.Grind.{common_steps}
use Rattle.std.proofs.lemmas.Bool.{cases_lt, lt-ltb, le-ltb}
use borrow.Author.Tests.{tests}
use Rattle.asm_operands.specs.declared.token.Token.{Token}
use Rattle.asm_operands.specs.declared.token.TokenKind.{TokenKind}
use Rattle.asm_operands.specs.declared.token.TokenKind.TheVariants.{Word, Number}
use Rattle.asm_operands.specs.declared.fault.TokenFault.TheVariants.{Character}
use Rattle.asm_operands.specs.Tokens.{is_name_byte, is_after_name, is_blank, is_strange, is_within_run, kind_of, code_of, token_at, tokens_of, tokens_unless, line_tokens, end_at}

-- the tokens that begin in front of a place
abbrev pub tokens_to : List ℕ → ℕ → List Token
tokens_to code place = filter_map (token_at code) (range_with_len 0 place)

pub record Reached (code : List ℕ) (place : ℕ) (tokens : List Token) : Type 0 where
  pub within : place ≤ length code
  pub edge : is_within_run code place ≡ false
  pub told : tokens ≡ tokens_to code place
  pub plain : (k : ℕ) → k < place → is_strange (slice_index code k) ≡ false

cons_append : {X : Type 0} (o : Option X) (xs ys : List X) → cons_option o (xs ++ ys) ≡ cons_option o xs ++ ys
cons_append None xs ys = refl
cons_append (Some x) xs ys = refl

cons_none : {X : Type 0} (o : Option X) → cons_option o [] ≡ option_to_list o
cons_none None = refl
cons_none (Some x) = refl

-- one more place
one_more : (code : List ℕ) (from n at : ℕ) → from + n ≡ at → filter_map (token_at code) (range_with_len from (suc n)) ≡ filter_map (token_at code) (range_with_len from n) ++ option_to_list (token_at code at)
one_more code from zero at e =
    let same : from ≡ at = omega arith in rw same (cons_none (token_at code at))
one_more code from (suc n) at e =
    let more : filter_map (token_at code) (range_with_len (from + 1) (suc n)) ≡ filter_map (token_at code) (range_with_len (from + 1) n) ++ option_to_list (token_at code at) =
    one_more code (from + 1) n at (omega arith) in
    ap (cons_option (token_at code from)) more ∙ cons_append (token_at code from) (filter_map (token_at code) (range_with_len (from + 1) n)) (option_to_list (token_at code at))

more : (code : List ℕ) (place : ℕ) → tokens_to code (place + 1) ≡ tokens_to code place ++ option_to_list (token_at code place)
more code place = rw add-one (one_more code 0 place place (omega arith))

-- places at which no token begins
none_more : (code : List ℕ) (place n : ℕ) → ((k : ℕ) → place ≤ k → k < place + n → token_at code k ≡ None) → tokens_to code (place + n) ≡ tokens_to code place
none_more code place zero none = let same : place + zero ≡ place = omega arith in rw same refl
none_more code place (suc n) none =
    let one : tokens_to code (place + n + 1) ≡ tokens_to code (place + n) ++ option_to_list (token_at code (place + n)) = more code (place + n) in
    let gone : token_at code (place + n) ≡ None = none (place + n) (omega arith) (omega arith) in
    let before : tokens_to code (place + n) ≡ tokens_to code place = none_more code place n (λ k low high. none k low (omega arith)) in
    let same : place + n + 1 ≡ place + suc n = omega arith in
    let one' : tokens_to code (place + suc n) ≡ tokens_to code (place + n) ++ option_to_list (token_at code (place + n)) = subst (λ p. tokens_to code p ≡ tokens_to code (place + n) ++ option_to_list (token_at code (place + n))) same one in
    let empty : option_to_list (token_at code (place + n)) ≡ [] = rw gone refl in
    grind (arith, common_steps, one', empty, before)

-- the bytes of a run of name bytes
run_at : List ℕ → ℕ → ℕ
run_at code place = prefix_len is_name_byte (drop place code)

in_run : (code : List ℕ) (place k : ℕ) → place ≤ k → k < place + run_at code place → is_name_byte (slice_index code k) ≡ true
unfolding run_at
in_run code place k low high =
    let passes : is_name_byte (get_or (drop place code) (k - place) 0) ≡ true = prefix_len_passes is_name_byte (drop place code) (k - place) 0 (omega arith) in
    let same : place + (k - place) ≡ k = omega arith in
    let there : get_or (drop place code) (k - place) 0 ≡ get_or code (place + (k - place)) 0 = get_or-drop place code (k - place) 0 in
    subst (λ i. is_name_byte (get_or code i 0) ≡ true) same (subst (λ b. is_name_byte b ≡ true) there passes)

run_fits : (code : List ℕ) (place : ℕ) → place ≤ length code → place + run_at code place ≤ length code
unfolding run_at
run_fits code place low = omega (arith, prefix_len-le-length is_name_byte (drop place code), length-drop place code)

no_name : is_name_byte 0 ≡ false
unfolding is_name_byte
no_name = refl

outside : (code : List ℕ) (k : ℕ) → length code ≤ k → is_name_byte (slice_index code k) ≡ false
outside code k high = subst (λ b. is_name_byte b ≡ false) (sym (get_or_past code k 0 high)) no_name

behind_run : (code : List ℕ) (place end : ℕ) → place ≤ length code → place + run_at code place ≡ end → is_name_byte (slice_index code end) ≡ false
unfolding run_at
behind_run code place end low e =
    let stops : prefix_len is_name_byte (drop place code) < length (drop place code) → is_name_byte (get_or (drop place code) (prefix_len is_name_byte (drop place code)) 0) ≡ false =
    prefix_len_stops is_name_byte (drop place code) 0 in
    let there : get_or (drop place code) (prefix_len is_name_byte (drop place code)) 0 ≡ get_or code (place + prefix_len is_name_byte (drop place code)) 0 =
    get_or-drop place code (prefix_len is_name_byte (drop place code)) 0 in
    grind (arith, stops, there, e, outside code end, length-drop place code)

at_edge : (code : List ℕ) (place : ℕ) → is_name_byte (slice_index code place) ≡ false → is_within_run code place ≡ false
unfolding is_within_run
at_edge code place other = grind (arith, tests, other)

behind_other : (code : List ℕ) (place : ℕ) → is_name_byte (slice_index code place) ≡ false → is_within_run code (place + 1) ≡ false
unfolding is_within_run is_after_name
behind_other code place other = rw add-one (rw other refl)

within : (code : List ℕ) (before place : ℕ) → before + 1 ≡ place → is_name_byte (slice_index code before) ≡ true → is_name_byte (slice_index code place) ≡ true → token_at code place ≡ None
unfolding is_within_run is_after_name token_at
within code before zero e here next = absurd (omega arith)
within code before (suc last) e here next =
    let same : before ≡ last = omega arith in
    let here' : is_name_byte (get_or code last 0) ≡ true = subst (λ k. is_name_byte (get_or code k 0) ≡ true) same here in
    rw here' (rw next refl)

known : (b : ℕ) (kind : TokenKind) → kind_of b ≡ Some kind → is_strange b ≡ false
unfolding is_strange
known b kind is = rw is refl

blank : (b : ℕ) → is_blank b ≡ true → is_strange b ≡ false
unfolding is_strange
blank b is = grind (arith, tests, is)

name_kind : (b : ℕ) → is_name_byte b ≡ true → kind_of b ≡ (if is_ascii_digit b then Some Number else Some Word)
unfolding kind_of
name_kind b name = rw name refl

name_known : (b : ℕ) → is_name_byte b ≡ true → is_strange b ≡ false
unfolding is_strange
name_known b name = rw (name_kind b name) (grind (arith, tests))

begins : (code : List ℕ) (place : ℕ) (kind : TokenKind) → is_within_run code place ≡ false → kind_of (slice_index code place) ≡ Some kind → token_at code place ≡ Some (record { kind = kind; start = place; end = end_at code place })
unfolding token_at
begins code place kind edge is = rw edge (rw is refl)

none_begins : (code : List ℕ) (place : ℕ) → kind_of (slice_index code place) ≡ None → token_at code place ≡ None
unfolding token_at
none_begins code place is = rw is (grind (arith, tests))

-- where a token ends
pub end_low : (code : List ℕ) (place : ℕ) → place < end_at code place
unfolding end_at
end_low code place = omega arith

pub end_high : (code : List ℕ) (place : ℕ) → place < length code → end_at code place ≤ length code
unfolding end_at run_at
end_high code place low =
    let fits : place + run_at code place ≤ length code = run_fits code place (omega arith) in omega arith

below_end : (code : List ℕ) (place k : ℕ) → place < k → k < end_at code place → k < place + run_at code place
unfolding end_at run_at
below_end code place k low high = omega arith

-- behind its first byte a token has name bytes
pub name_behind : (code : List ℕ) (place k : ℕ) → place < k → k < end_at code place → is_name_byte (slice_index code k) ≡ true
name_behind code place k low high = in_run code place k (omega arith) (below_end code place k low high)

end_edge : (code : List ℕ) (place : ℕ) → place < length code → is_within_run code (end_at code place) ≡ false
unfolding end_at run_at
end_edge code place low = elim (cases_lt 0 (run_at code place)) [
  | inl some ↦
      let end : place + run_at code place ≡ place + max 1 (run_at code place) = omega arith in
      at_edge code (place + max 1 (run_at code place)) (behind_run code place (place + max 1 (run_at code place)) (omega arith) end)
  | inr none ↦
      let end : place + 1 ≡ place + max 1 (run_at code place) = omega arith in
      let other : is_name_byte (slice_index code place) ≡ false = behind_run code place place (omega arith) (omega arith) in
      subst (λ e. is_within_run code e ≡ false) end (behind_other code place other)
]

-- no token begins between a place and where a token that begins there ends
pub none_between : (code : List ℕ) (place k : ℕ) → place + 1 ≤ k → k < end_at code place → token_at code k ≡ None
none_between code place k low high =
    let more : k < place + run_at code place = below_end code place k (omega arith) high in
    within code (k - 1) k (omega arith) (in_run code place (k - 1) (omega arith) (omega arith)) (in_run code place k (omega arith) more)

plain_between : (code : List ℕ) (place k : ℕ) → is_strange (slice_index code place) ≡ false → place ≤ k → k < end_at code place → is_strange (slice_index code k) ≡ false
plain_between code place k here low high = elim (cases_lt place k) [
  | inl behind ↦ name_known (slice_index code k) (in_run code place k low (below_end code place k behind high))
  | inr first ↦ let same : place ≡ k = omega arith in subst (λ i. is_strange (slice_index code i) ≡ false) same here
]

told : (code : List ℕ) (place : ℕ) → tokens_to code (end_at code place) ≡ tokens_to code place ++ option_to_list (token_at code place)
told code place =
    let low : place < end_at code place = end_low code place in
    let end : place + 1 + (end_at code place - (place + 1)) ≡ end_at code place = omega arith in
    let none : tokens_to code (place + 1 + (end_at code place - (place + 1))) ≡ tokens_to code (place + 1) =
    none_more code (place + 1) (end_at code place - (place + 1)) (λ k from to. none_between code place k from (omega arith)) in
    subst (λ e. tokens_to code e ≡ tokens_to code (place + 1)) end none ∙ more code place

-- a step of the loop
step : (code : List ℕ) (place end : ℕ) (tokens : List Token) → Reached code place tokens → place < length code → end ≡ end_at code place → is_strange (slice_index code place) ≡ false → Reached code end (tokens ++ option_to_list (token_at code place))
step code place end tokens reached low e plain = rw e (record {
  within = end_high code place low;
  edge = end_edge code place low;
  told = rw reached.told (sym (told code place));
  plain = λ k high. elim (cases_lt k place) [ inl before ↦ reached.plain k before | inr behind ↦ plain_between code place k plain behind high ];
})

pub takes : (code : List ℕ) (place end : ℕ) (tokens : List Token) (kind : TokenKind) → Reached code place tokens → place < length code → end ≡ end_at code place → kind_of (slice_index code place) ≡ Some kind
    → Reached code end (tokens ++ record { kind = kind; start = place; end = end } ∷ [])
takes code place end tokens kind reached low e is =
    let token : token_at code place ≡ Some (record { kind = kind; start = place; end = end }) = rw e (begins code place kind reached.edge is) in
    let next : Reached code end (tokens ++ option_to_list (token_at code place)) = step code place end tokens reached low e (known (slice_index code place) kind is) in
    subst (λ o. Reached code end (tokens ++ option_to_list o)) token next

pub skips : (code : List ℕ) (place end : ℕ) (tokens : List Token) → Reached code place tokens → place < length code → end ≡ end_at code place → kind_of (slice_index code place) ≡ None → is_blank (slice_index code place) ≡ true → Reached code end tokens
skips code place end tokens reached low e is gap =
    let next : Reached code end (tokens ++ option_to_list (token_at code place)) = step code place end tokens reached low e (blank (slice_index code place) gap) in
    let same : tokens ++ option_to_list (token_at code place) ≡ tokens = rw (none_begins code place is) (append-nil tokens) in
    subst (λ t. Reached code end t) same next

pub starts : (code : List ℕ) → Reached code 0 []
unfolding is_within_run is_after_name
starts code = record { within = omega arith; edge = refl; told = refl; plain = λ k low. absurd (omega arith) }

first_at : (test : ℕ → Bool) (xs : List ℕ) (at : ℕ) → position_or_len test xs ≡ at → at < length xs → position test xs ≡ Some at
first_at test xs at first low = rw first (rw (lt-ltb at (length xs) low) refl)

pub nowhere : (test : ℕ → Bool) (xs : List ℕ) → position_or_len test xs ≡ length xs → position test xs ≡ None
nowhere test xs first = rw first (rw (le-ltb (length xs) (length xs) (omega arith)) refl)

-- what the loop answers
ends_line : (line : List ℕ) (place : ℕ) (tokens : List Token) → Reached (code_of line) place tokens → length (code_of line) ≤ place → line_tokens line ≡ Ok tokens
unfolding line_tokens tokens_of
ends_line line place tokens reached end =
    let at_end : place ≡ length (code_of line) = let within = reached.within in omega arith in
    let plain : (k : ℕ) → k < length (code_of line) → is_strange (get_or (code_of line) k 0) ≡ false = λ k low. reached.plain k (omega arith) in
    let first : position_or_len is_strange (code_of line) ≡ length (code_of line) = position_or_len_is is_strange (code_of line) (length (code_of line)) 0 (omega arith) plain (λ low. absurd (omega arith)) in
    let none : position is_strange (code_of line) ≡ None = nowhere is_strange (code_of line) first in
    let told : tokens ≡ tokens_to (code_of line) (length (code_of line)) = reached.told ∙ ap (tokens_to (code_of line)) at_end in
    subst (λ o. tokens_unless o (tokens_to (code_of line) (length (code_of line))) ≡ Ok tokens) (sym none) (ap Ok (sym told))

stray : (b : ℕ) → kind_of b ≡ None → is_blank b ≡ false → is_strange b ≡ true
unfolding is_strange
stray b is gap = rw is (rw gap refl)

strays_line : (line : List ℕ) (place : ℕ) (tokens : List Token) → Reached (code_of line) place tokens → place < length (code_of line) → kind_of (slice_index (code_of line) place) ≡ None → is_blank (slice_index (code_of line) place) ≡ false → line_tokens line ≡ Err (Character (place + 1))
unfolding line_tokens
strays_line line place tokens reached low is gap =
    let first : position_or_len is_strange (code_of line) ≡ place =
    position_or_len_is is_strange (code_of line) place 0 (omega arith) reached.plain (λ _. stray (slice_index (code_of line) place) is gap) in
    let found : position is_strange (code_of line) ≡ Some place = first_at is_strange (code_of line) place first low in
    subst (λ o. tokens_unless o (tokens_of (code_of line)) ≡ Err (Character (place + 1))) (sym found) refl

pub ends : (line code : List ℕ) (place : ℕ) (tokens : List Token) → code ≡ code_of line → Reached code place tokens → length code ≤ place → line_tokens line ≡ Ok tokens
ends line code place tokens e reached end = ends_line line place tokens (subst (λ c. Reached c place tokens) e reached) (subst (λ c. length c ≤ place) e end)

pub strays : (line code : List ℕ) (place : ℕ) (tokens : List Token) → code ≡ code_of line → Reached code place tokens → place < length code
    → kind_of (slice_index code place) ≡ None → is_blank (slice_index code place) ≡ false → line_tokens line ≡ Err (Character (place + 1))
strays line code place tokens e reached low is gap =
    strays_line line place tokens (subst (λ c. Reached c place tokens) e reached) (subst (λ c. place < length c) e low) (subst (λ c. kind_of (slice_index c place) ≡ None) e is)
    (subst (λ c. is_blank (slice_index c place) ≡ false) e gap)
