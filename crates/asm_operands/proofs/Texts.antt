-- A token may be cut from its line: no character lies across its ends.
use Rattle.std.proofs.Common.{◌≡◌, ℕ, ◌+◌, ◌-◌, ◌<◌, ◌≤◌, Bool, false, true, List, length, take, drop, get_or, Option, Some, None, Ok, Err, inl, inr, refl, sym, subst, ap, ◌∙◌, arith, length-take}
use Rattle.std.specs.Prelude.{if◌then◌else◌, option_map, slice_index, IsUtf8, ◌==◌}
use Rattle.std.specs.List.{position, position_or_len}
use Rattle.std.specs.Str.{IsCharBoundary}
use Rattle.std.proofs.lemmas.List.{drop-take, take-take, get_or-take, get_or_past}
use Rattle.std.proofs.lemmas.Str.{IsCharBoundary-before_ascii, IsCharBoundary-after_ascii}
use Rattle.std.proofs.lemmas.Bool.{cases_lt}
use Rattle.std.proofs.lemmas.Bool.Decides.{nat_tests}
use Rattle.asm_operands.specs.declared.token.Token.{Token}
use Rattle.asm_operands.specs.declared.token.TokenKind.{TokenKind}
use Rattle.asm_operands.specs.declared.fault.TokenFault.{TokenFault}
use Rattle.asm_operands.specs.declared.fault.TokenFault.TheVariants.{Character}
use Rattle.asm_operands.specs.Tokens.{is_name_byte, is_strange, is_within_run, kind_of, code_of, token_at, tokens_of, tokens_unless, line_tokens, end_at}
use Rattle.asm_operands.proofs.Places.{end_low, end_high, name_behind}
use Rattle.asm_operands.proofs.Spans.{stands, starts}

name_is_ascii : (b : ℕ) → is_name_byte b ≡ true → b < 128
unfolding is_name_byte
name_is_ascii b name = grind (arith, nat_tests)

kind_is_ascii : (b : ℕ) (kind : TokenKind) → kind_of b ≡ Some kind → b < 128
unfolding kind_of is_name_byte
kind_is_ascii b kind is = grind (arith, nat_tests)

no_kind : kind_of 0 ≡ None
unfolding kind_of is_name_byte
no_kind = refl

picked_kind : (place end : ℕ) (token : Token) (within : Bool) (kind : Option TokenKind)
    → (if within then None else option_map (λ kind. record { kind = kind; start = place; end = end }) kind) ≡ Some token → kind ≡ Some token.kind
picked_kind place end token true kind e = absurd (cc)
picked_kind place end token false None e = absurd (cc)
picked_kind place end token false (Some kind) e =
    let same : record { kind = kind; start = place; end = end } ≡ token = cc in
    ap (λ (t : Token). Some t.kind) same

kind_at : (code : List ℕ) (place : ℕ) (token : Token) → token_at code place ≡ Some token → kind_of (slice_index code place) ≡ Some token.kind
unfolding token_at
kind_at code place token e = picked_kind place (end_at code place) token (is_within_run code place) (kind_of (slice_index code place)) e

starts_within : (code : List ℕ) (place : ℕ) (token : Token) → token_at code place ≡ Some token → place < length code
starts_within code place token e = elim (cases_lt place (length code)) [
  | inl lt ↦ lt
  | inr le ↦
      let none : kind_of (slice_index code place) ≡ None = ap kind_of (get_or_past code place 0 le) ∙ no_kind in
      let some = kind_at code place token e in absurd cc
]

first_is_ascii : (code : List ℕ) (place : ℕ) (token : Token) → token_at code place ≡ Some token → slice_index code place < 128
first_is_ascii code place token e = kind_is_ascii (slice_index code place) token.kind (kind_at code place token e)

last_is_ascii : (code : List ℕ) (place last : ℕ) (token : Token) → token_at code place ≡ Some token → place ≤ last → last < end_at code place → slice_index code last < 128
last_is_ascii code place last token e low high = elim (cases_lt place last) [
  | inl lt ↦ name_is_ascii (slice_index code last) (name_behind code place last lt high)
  | inr le ↦ let same : place ≡ last = omega arith in subst (λ k. slice_index code k < 128) same (first_is_ascii code place token e)
]

pub record IsWithin (code line : List ℕ) (token : Token) : Type 0 where
  pub some : token.start < token.end
  pub within : token.end ≤ length line
  pub start : IsCharBoundary line token.start
  pub end : IsCharBoundary line token.end
  pub text : take (token.end - token.start) (drop token.start line) ≡ take (token.end - token.start) (drop token.start code)

in_front : (line : List ℕ) (front start count : ℕ) → start + count ≤ front → take count (drop start (take front line)) ≡ take count (drop start line)
in_front line front start count fits =
    let same : start + (front - start) ≡ front = omega arith in
    let dropped : drop start (take front line) ≡ take (front - start) (drop start line) = subst (λ f. drop start (take f line) ≡ take (front - start) (drop start line)) same (drop-take start (front - start) line) in
    ap (take count) dropped ∙ take-take count (front - start) (drop start line) (omega arith)

cut_front : (line : List ℕ) (front : ℕ) (token : Token) → IsUtf8 line → token_at (take front line) token.start ≡ Some token → IsWithin (take front line) line token
cut_front line front token utf8 e =
    let code = take front line in
    let size = length-take front line in
    let first : token.start < length code = starts_within code token.start token e in
    let end : token.end ≡ end_at code token.start = (stands code token.start token e).end in
    let low : token.start < token.end = omega (arith, end_low code token.start) in
    let high : token.end ≤ length code = omega (arith, end_high code token.start first) in
    let last = token.end - 1 in
    let start_ascii : get_or line token.start 0 < 128 = subst (λ b. b < 128) (get_or-take front line token.start 0 (omega arith)) (first_is_ascii code token.start token e) in
    let last_ascii : get_or line last 0 < 128 = subst (λ b. b < 128) (get_or-take front line last 0 (omega arith)) (last_is_ascii code token.start last token e (omega arith) (omega arith)) in
    let behind : last + 1 ≡ token.end = omega arith in
    record {
      some = low;
      within = omega arith;
      start = IsCharBoundary-before_ascii line token.start (omega arith) start_ascii;
      end = subst (λ i. IsCharBoundary line i) behind (IsCharBoundary-after_ascii line last utf8 (omega arith) last_ascii);
      text = sym (in_front line front token.start (token.end - token.start) (omega arith));
    }

pub cut : (line : List ℕ) (token : Token) → IsUtf8 line → token_at (code_of line) token.start ≡ Some token → IsWithin (code_of line) line token
unfolding code_of
cut line token utf8 e = cut_front line (position_or_len (λ b. b == 35) line) token utf8 e

-- ---- the tokens of a line

unless_ok : (strange : Option ℕ) (tokens found : List Token) → tokens_unless strange tokens ≡ Ok found → (tokens ≡ found) × (strange ≡ None)
unless_ok None tokens found e = (cc, refl)
unless_ok (Some place) tokens found e = absurd cc

unless_err : (strange : Option ℕ) (tokens : List Token) (fault : TokenFault) → tokens_unless strange tokens ≡ Err fault → option_map (λ place. Character (place + 1)) strange ≡ Some fault
unless_err None tokens fault e = absurd cc
unless_err (Some place) tokens fault e = let same : Character (place + 1) ≡ fault = cc in ap (λ (f : TokenFault). Some f) same

pub line_read : (line : List ℕ) (tokens : List Token) → line_tokens line ≡ Ok tokens → (tokens_of (code_of line) ≡ tokens) × (position is_strange (code_of line) ≡ None)
unfolding line_tokens
line_read line tokens e = unless_ok (position is_strange (code_of line)) (tokens_of (code_of line)) tokens e

pub line_unread : (line : List ℕ) (fault : TokenFault) → line_tokens line ≡ Err fault → option_map (λ place. Character (place + 1)) (position is_strange (code_of line)) ≡ Some fault
unfolding line_tokens
line_unread line fault e = unless_err (position is_strange (code_of line)) (tokens_of (code_of line)) fault e

pub token_begins : (line : List ℕ) (tokens : List Token) (i : ℕ) (other : Token) → line_tokens line ≡ Ok tokens → i < length tokens → token_at (code_of line) (get_or tokens i other).start ≡ Some (get_or tokens i other)
token_begins line tokens i other e inside =
    let all = rw e at (starts line) in all i other inside
