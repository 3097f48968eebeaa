-- Where the tokens of a line stand.
use Rattle.std.proofs.Common.{◌≡◌, ℕ, zero, suc, ◌+◌, ◌<◌, ◌≤◌, Bool, false, true, List, [], ◌∷◌, length, Option, Some, None, inl, inr, refl, sym, subst, ap, ◌∙◌, arith}
use Rattle.std.specs.Prelude.{IfOk, if◌then◌else◌, option_map, slice_index, ◌==◌}
use Rattle.std.specs.List.{All, filter_map, range_with_len, cons_option, position, position_or_len}
use Rattle.std.proofs.lemmas.List.{length-take}
use Rattle.std.proofs.lemmas.List.Elements.{All-nil, All-cons}
use Rattle.std.proofs.lemmas.Bool.{cases_lt}
use Rattle.asm_operands.specs.declared.token.Token.{Token}
use Rattle.asm_operands.specs.declared.token.TokenKind.{TokenKind}
use Rattle.asm_operands.specs.Tokens.{is_strange, is_within_run, kind_of, code_of, token_at, tokens_of, tokens_unless, line_tokens, end_at}
use Rattle.asm_operands.specs.Laws.{AreApart}
use Rattle.asm_operands.proofs.Places.{none_between, end_low, end_high}

-- a token begins where it says, and ends where a token that begins there ends
pub record Stands (place behind : ℕ) (token : Token) : Type 0 where
  pub start : token.start ≡ place
  pub end : token.end ≡ behind

picked : (place end : ℕ) (token : Token) (within : Bool) (kind : Option TokenKind)
    → (if within then None else option_map (λ kind. record { kind = kind; start = place; end = end }) kind) ≡ Some token → Stands place end token
picked place end token true kind e = absurd (cc)
picked place end token false None e = absurd (cc)
picked place end token false (Some kind) e =
    let same : record { kind = kind; start = place; end = end } ≡ token = cc in
    record { start = sym (ap (λ t. t.start) same); end = sym (ap (λ t. t.end) same) }

pub stands : (code : List ℕ) (place : ℕ) (token : Token) → token_at code place ≡ Some token → Stands place (end_at code place) token
unfolding token_at
stands code place token e = picked place (end_at code place) token (is_within_run code place) (kind_of (slice_index code place)) e

-- the tokens that begin from a place on, where none begins in front of `low`
abbrev NoneBelow : List ℕ → ℕ → ℕ → Type 0
NoneBelow code from low = (k : ℕ) → from ≤ k → k < low → token_at code k ≡ None

abbrev from_on : List ℕ → ℕ → ℕ → List Token
from_on code from n = filter_map (token_at code) (range_with_len from n)

apart_one : (code : List ℕ) (from n low : ℕ) (token : Option Token) → token_at code from ≡ token → from < length code → low ≤ length code → NoneBelow code from low
    → ((next : ℕ) → next ≤ length code → NoneBelow code (from + 1) next → AreApart next (length code) (from_on code (from + 1) n)) → AreApart low (length code) (cons_option token (from_on code (from + 1) n))
apart_one code from n low None e within fits none rest = rest low fits (λ k after below. none k (omega arith) below)
apart_one code from n low (Some token) e within fits none rest =
    let is : Stands from (end_at code from) token = stands code from token e in
    let reached : low ≤ from = elim (cases_lt from low) [
      | inl behind ↦ let gone : token_at code from ≡ None = none from (omega arith) behind in let clash : None ≡ Some token = sym gone ∙ e in absurd (cc)
      | inr here ↦ here
    ] in
    let long : from < end_at code from = end_low code from in
    let start = is.start in
    let end = is.end in (
      omega arith,
      omega arith,
      subst (λ t. AreApart t (length code) (from_on code (from + 1) n)) (sym end) (rest (end_at code from) (end_high code from within) (λ k after below. none_between code from k after below)),
    )

apart_from : (code : List ℕ) (from n low : ℕ) → from + n ≡ length code → low ≤ length code → NoneBelow code from low → AreApart low (length code) (from_on code from n)
apart_from code from zero low end fits none = fits
apart_from code from (suc n) low end fits none =
    apart_one code from n low (token_at code from) refl (omega arith) fits none (λ next fits' none'. apart_from code (from + 1) n next (omega arith) fits' none')

higher : (low high top : ℕ) (tokens : List Token) → high ≤ top → AreApart low high tokens → AreApart low top tokens
higher low high top [] more apart = omega arith
higher low high top (token ∷ tokens) more apart = (apart.0, apart.1, higher token.end high top tokens more apart.2)

code_fits : (line : List ℕ) → length (code_of line) ≤ length line
unfolding code_of
code_fits line = omega (arith, length-take (position_or_len (λ b. b == 35) line) line)

apart_unless : (line : List ℕ) (strange : Option ℕ) (tokens : List Token) → AreApart 0 (length line) tokens → IfOk (tokens_unless strange tokens) (AreApart 0 (length line))
apart_unless line None tokens apart = apart
apart_unless line (Some place) tokens apart = tt

pub apart : (line : List ℕ) → IfOk (line_tokens line) (AreApart 0 (length line))
unfolding line_tokens tokens_of
apart line =
    let all : AreApart 0 (length (code_of line)) (from_on (code_of line) 0 (length (code_of line))) =
    apart_from (code_of line) 0 (length (code_of line)) 0 (omega arith) (omega arith) (λ k after below. absurd (omega arith)) in
    apart_unless line (position is_strange (code_of line)) (from_on (code_of line) 0 (length (code_of line))) (higher 0 (length (code_of line)) (length line) (from_on (code_of line) 0 (length (code_of line))) (code_fits line) all)

-- a token is the one of its place
abbrev IsAtStart : List ℕ → Token → Type 0
IsAtStart code token = token_at code token.start ≡ Some token

starts_one : (code : List ℕ) (place : ℕ) (token : Option Token) (tokens : List Token) → token_at code place ≡ token → All (IsAtStart code) tokens → All (IsAtStart code) (cons_option token tokens)
starts_one code place None tokens e rest = rest
starts_one code place (Some token) tokens e rest =
    let start : token.start ≡ place = (stands code place token e).start in
    All-cons (IsAtStart code) token tokens (ap (token_at code) start ∙ e) rest

starts_from : (code : List ℕ) (from n : ℕ) → All (IsAtStart code) (from_on code from n)
starts_from code from zero = All-nil (IsAtStart code)
starts_from code from (suc n) = starts_one code from (token_at code from) (from_on code (from + 1) n) refl (starts_from code (from + 1) n)

starts_unless : (code : List ℕ) (strange : Option ℕ) (tokens : List Token) → All (IsAtStart code) tokens → IfOk (tokens_unless strange tokens) (All (IsAtStart code))
starts_unless code None tokens starts = starts
starts_unless code (Some place) tokens starts = tt

pub starts : (line : List ℕ) → IfOk (line_tokens line) (All (IsAtStart (code_of line)))
unfolding line_tokens tokens_of
starts line = starts_unless (code_of line) (position is_strange (code_of line)) (from_on (code_of line) 0 (length (code_of line))) (starts_from (code_of line) 0 (length (code_of line)))
