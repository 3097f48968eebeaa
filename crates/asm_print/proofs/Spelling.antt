-- Lines that are put together from runs of name bytes, marks and spaces: their tokens are those pieces.
use Rattle.std.proofs.Common.{◌≡◌, ◌≢◌, Bool, ℕ, ◌+◌, ◌-◌, ◌<◌, max, false, true, List, [], ◌∷◌, ◌++◌, map, length, take, drop, get_or, Some, None, refl, ap, subst, sym, ◌∙◌, add-zero, zero-add, arith, length-drop, length-append}
use Rattle.std.specs.Prelude.{slice_index, ◌==◌}
use Rattle.std.specs.List.{All, list_all, prefix_len, position, position_or_len}
use Rattle.std.proofs.lemmas.List.{get_or-drop, get_or_default, take_at, drop_at, drop-drop, get_or_at, append-nil, append_assoc, take_all}
use Rattle.std.proofs.lemmas.List.Sums.{position_or_len_is}
use Rattle.std.proofs.lemmas.Bool.{ne_eqb}
use borrow.Author.Tests.{tests}
use Rattle.asm_operands.specs.declared.token.Token.{Token}
use Rattle.asm_operands.specs.declared.token.TokenKind.{TokenKind}
use Rattle.asm_operands.specs.Tokens.{is_name_byte, is_blank, is_strange, kind_of, code_of, tokens_of, end_at}
use Rattle.asm_parse.specs.Lines.{lines_of}
use Rattle.asm_operands.specs.Operands.{Lexeme, lexeme_of, lexemes_of}
use Rattle.asm_operands.proofs.Exports.{Reached, starts, takes, skips, nowhere}
use Rattle.asm_parse.proofs.Exports.{first}
use Rattle.text_out.proofs.Exports.{kept}

-- a run of name bytes, a mark, or a space
pub data Part : Type 0 where
  Run : TokenKind → List ℕ → Part
  Mark : TokenKind → ℕ → Part
  Gap : Part

abbrev pub part_bytes : Part → List ℕ
part_bytes (Run kind bytes) = bytes
part_bytes (Mark kind byte) = byte ∷ []
part_bytes Gap = 32 ∷ []

abbrev pub spelling : List Part → List ℕ
spelling [] = []
spelling (part ∷ parts) = part_bytes part ++ spelling parts

-- their tokens, from a column on
abbrev pub written : ℕ → List Part → List Lexeme
written column [] = []
written column (Run kind bytes ∷ parts) = record { kind = kind; text = bytes; column = column } ∷ written (column + length bytes) parts
written column (Mark kind byte ∷ parts) = record { kind = kind; text = byte ∷ []; column = column } ∷ written (column + 1) parts
written column (Gap ∷ parts) = written (column + 1) parts

-- bytes that are one token of a kind
pub record IsRun (kind : TokenKind) (bytes : List ℕ) : Type 0 where
  pub some : 0 < length bytes
  pub names : list_all is_name_byte bytes ≡ true
  pub first : kind_of (get_or bytes 0 0) ≡ Some kind

pub record IsMark (kind : TokenKind) (byte : ℕ) : Type 0 where
  pub begins : kind_of byte ≡ Some kind
  pub other : is_name_byte byte ≡ false

abbrev pub begins_run : List Part → Bool
begins_run [] = false
begins_run (Run kind bytes ∷ parts) = true
begins_run (Mark kind byte ∷ parts) = false
begins_run (Gap ∷ parts) = false

-- no two runs touch
abbrev pub AreParts : List Part → Type 0
AreParts [] = Unit {0}
AreParts (Run kind bytes ∷ parts) = IsRun kind bytes × (begins_run parts ≡ false) × AreParts parts
AreParts (Mark kind byte ∷ parts) = IsMark kind byte × AreParts parts
AreParts (Gap ∷ parts) = AreParts parts

-- ---- where a token ends

gap_other : is_name_byte 32 ≡ false
unfolding is_name_byte
gap_other = refl

no_run : (parts : List Part) → AreParts parts → begins_run parts ≡ false → prefix_len is_name_byte (spelling parts) ≡ 0
no_run [] fit apart = refl
no_run (Run kind bytes ∷ parts) fit apart = absurd (cc)
no_run (Mark kind byte ∷ parts) fit apart = rw fit.0.other refl
no_run (Gap ∷ parts) fit apart = rw gap_other refl

run_length : (bytes rest : List ℕ) → list_all is_name_byte bytes ≡ true → prefix_len is_name_byte rest ≡ 0 → prefix_len is_name_byte (bytes ++ rest) ≡ length bytes
run_length [] rest names stops = stops
run_length (b ∷ bytes) rest names stops = grind (arith, tests, run_length bytes rest, stops)

-- ---- one part after the other

tokens_at : ℕ → List Part → List Token
tokens_at place [] = []
tokens_at place (Run kind bytes ∷ parts) = record { kind = kind; start = place; end = place + length bytes } ∷ tokens_at (place + length bytes) parts
tokens_at place (Mark kind byte ∷ parts) = record { kind = kind; start = place; end = place + 1 } ∷ tokens_at (place + 1) parts
tokens_at place (Gap ∷ parts) = tokens_at (place + 1) parts

first_byte : (code : List ℕ) (place b : ℕ) (rest : List ℕ) → drop place code ≡ b ∷ rest → slice_index code place ≡ b
first_byte code place b rest e =
    let there : get_or (drop place code) 0 0 ≡ get_or code (place + 0) 0 = get_or-drop place code 0 0 in
    let there' : get_or (drop place code) 0 0 ≡ get_or code place 0 = subst (λ k. get_or (drop place code) 0 0 ≡ get_or code k 0) (add-zero place) there in
    sym there' ∙ ap (λ xs. get_or xs 0 0) e

below : (code : List ℕ) (place b : ℕ) (rest : List ℕ) → drop place code ≡ b ∷ rest → place < length code
below code place b rest e = omega (arith, length-drop place code, ap length e)

behind : (code : List ℕ) (place : ℕ) (bytes rest : List ℕ) → drop place code ≡ bytes ++ rest → drop (place + length bytes) code ≡ rest
behind code place bytes rest e = sym (drop-drop (length bytes) place code) ∙ ap (drop (length bytes)) e ∙ drop_at bytes rest (length bytes) refl

end_of : (code : List ℕ) (place n : ℕ) (rest : List ℕ) → drop place code ≡ rest → max 1 (prefix_len is_name_byte rest) ≡ n → end_at code place ≡ place + n
unfolding end_at
end_of code place n rest e is = ap (λ xs. place + max 1 (prefix_len is_name_byte xs)) e ∙ ap (λ k. place + k) is

gap_none : kind_of 32 ≡ None
unfolding kind_of is_name_byte
gap_none = refl

gap_blank : is_blank 32 ≡ true
unfolding is_blank
gap_blank = refl

mark_stops : (byte : ℕ) (rest : List ℕ) → is_name_byte byte ≡ false → max 1 (prefix_len is_name_byte (byte ∷ rest)) ≡ 1
mark_stops byte rest other = rw other refl

more : (a b : List Token) (t : Token) → (a ++ t ∷ []) ++ b ≡ a ++ t ∷ b
more a b t = append_assoc a (t ∷ []) b

reached : (code : List ℕ) (place : ℕ) (parts : List Part) (tokens : List Token) → AreParts parts → drop place code ≡ spelling parts → Reached code place tokens →
    Reached code (place + length (spelling parts)) (tokens ++ tokens_at place parts)
unfolding tokens_at
reached code place [] tokens fit e so_far =
    let P : List Token → Type 0 = λ ts. Reached code place ts in
    let Q : ℕ → Type 0 = λ k. Reached code k (tokens ++ []) in
    subst Q (sym (add-zero place)) (subst P (sym (append-nil tokens)) so_far)
reached code place (Run kind [] ∷ parts) tokens fit e so_far = let some = fit.0.some in absurd (omega arith)
reached code place (Run kind (b ∷ bytes) ∷ parts) tokens fit e so_far =
    let run : prefix_len is_name_byte ((b ∷ bytes) ++ spelling parts) ≡ length (b ∷ bytes) = run_length (b ∷ bytes) (spelling parts) fit.0.names (no_run parts fit.2 fit.1) in
    let long : max 1 (prefix_len is_name_byte ((b ∷ bytes) ++ spelling parts)) ≡ length (b ∷ bytes) = rw run (omega arith) in
    let end : end_at code place ≡ place + length (b ∷ bytes) = end_of code place (length (b ∷ bytes)) ((b ∷ bytes) ++ spelling parts) e long in
    let is : kind_of (slice_index code place) ≡ Some kind = ap kind_of (first_byte code place b (bytes ++ spelling parts) e) ∙ fit.0.first in
    let one : Reached code (place + length (b ∷ bytes)) (tokens ++ record { kind = kind; start = place; end = place + length (b ∷ bytes) } ∷ []) =
    takes code place (place + length (b ∷ bytes)) tokens kind so_far (below code place b (bytes ++ spelling parts) e) (sym end) is in
    let rest : Reached code (place + length (b ∷ bytes) + length (spelling parts)) ((tokens ++ record { kind = kind; start = place; end = place + length (b ∷ bytes) } ∷ []) ++ tokens_at (place + length (b ∷ bytes)) parts) =
    reached code (place + length (b ∷ bytes)) parts (tokens ++ record { kind = kind; start = place; end = place + length (b ∷ bytes) } ∷ []) fit.2 (behind code place (b ∷ bytes) (spelling parts) e) one in
    let same : place + length (b ∷ bytes) + length (spelling parts) ≡ place + length ((b ∷ bytes) ++ spelling parts) = omega (arith, length-append (b ∷ bytes) (spelling parts)) in
    subst (λ k. Reached code k (tokens ++ record { kind = kind; start = place; end = place + length (b ∷ bytes) } ∷ tokens_at (place + length (b ∷ bytes)) parts)) same
    (subst (λ ts. Reached code (place + length (b ∷ bytes) + length (spelling parts)) ts) (more tokens (tokens_at (place + length (b ∷ bytes)) parts) (record { kind = kind; start = place; end = place + length (b ∷ bytes) })) rest)
reached code place (Mark kind byte ∷ parts) tokens fit e so_far =
    let end : end_at code place ≡ place + 1 = end_of code place 1 (byte ∷ spelling parts) e (mark_stops byte (spelling parts) fit.0.other) in
    let is : kind_of (slice_index code place) ≡ Some kind = ap kind_of (first_byte code place byte (spelling parts) e) ∙ fit.0.begins in
    let one : Reached code (place + 1) (tokens ++ record { kind = kind; start = place; end = place + 1 } ∷ []) =
    takes code place (place + 1) tokens kind so_far (below code place byte (spelling parts) e) (sym end) is in
    let rest : Reached code (place + 1 + length (spelling parts)) ((tokens ++ record { kind = kind; start = place; end = place + 1 } ∷ []) ++ tokens_at (place + 1) parts) =
    reached code (place + 1) parts (tokens ++ record { kind = kind; start = place; end = place + 1 } ∷ []) fit.1 (behind code place (byte ∷ []) (spelling parts) e) one in
    let same : place + 1 + length (spelling parts) ≡ place + length (byte ∷ spelling parts) = omega arith in
    subst (λ k. Reached code k (tokens ++ record { kind = kind; start = place; end = place + 1 } ∷ tokens_at (place + 1) parts)) same
    (subst (λ ts. Reached code (place + 1 + length (spelling parts)) ts) (more tokens (tokens_at (place + 1) parts) (record { kind = kind; start = place; end = place + 1 })) rest)
reached code place (Gap ∷ parts) tokens fit e so_far =
    let end : end_at code place ≡ place + 1 = end_of code place 1 (32 ∷ spelling parts) e (mark_stops 32 (spelling parts) gap_other) in
    let byte : slice_index code place ≡ 32 = first_byte code place 32 (spelling parts) e in
    let one : Reached code (place + 1) tokens =
    skips code place (place + 1) tokens so_far (below code place 32 (spelling parts) e) (sym end) (ap kind_of byte ∙ gap_none) (ap is_blank byte ∙ gap_blank) in
    let same : place + 1 + length (spelling parts) ≡ place + length (32 ∷ spelling parts) = omega arith in
    subst (λ k. Reached code k (tokens ++ tokens_at (place + 1) parts)) same (reached code (place + 1) parts tokens fit (behind code place (32 ∷ []) (spelling parts) e) one)

-- ---- the texts of the tokens

text_at : (code : List ℕ) (place n : ℕ) (bytes rest : List ℕ) → drop place code ≡ bytes ++ rest → length bytes ≡ n → take (place + n - place) (drop place code) ≡ bytes
text_at code place n bytes rest e long =
    let count : place + n - place ≡ n = omega arith in
    ap (λ k. take k (drop place code)) count ∙ ap (take n) e ∙ take_at bytes rest n long

texts : (code : List ℕ) (place : ℕ) (parts : List Part) → drop place code ≡ spelling parts → map (lexeme_of code) (tokens_at place parts) ≡ written (place + 1) parts
unfolding tokens_at
texts code place [] e = refl
texts code place (Run kind bytes ∷ parts) e =
    let text : take (place + length bytes - place) (drop place code) ≡ bytes = text_at code place (length bytes) bytes (spelling parts) e refl in
    let rest : map (lexeme_of code) (tokens_at (place + length bytes) parts) ≡ written (place + length bytes + 1) parts = texts code (place + length bytes) parts (behind code place bytes (spelling parts) e) in
    let column : place + length bytes + 1 ≡ place + 1 + length bytes = omega arith in
    ap (λ t. record { kind = kind; text = t; column = place + 1 } ∷ map (lexeme_of code) (tokens_at (place + length bytes) parts)) text
    ∙ ap (λ xs. record { kind = kind; text = bytes; column = place + 1 } ∷ xs) (rest ∙ ap (λ k. written k parts) column)
texts code place (Mark kind byte ∷ parts) e =
    let text : take (place + 1 - place) (drop place code) ≡ byte ∷ [] = text_at code place 1 (byte ∷ []) (spelling parts) e refl in
    let rest : map (lexeme_of code) (tokens_at (place + 1) parts) ≡ written (place + 1 + 1) parts = texts code (place + 1) parts (behind code place (byte ∷ []) (spelling parts) e) in
    ap (λ t. record { kind = kind; text = t; column = place + 1 } ∷ map (lexeme_of code) (tokens_at (place + 1) parts)) text
    ∙ ap (λ xs. record { kind = kind; text = byte ∷ []; column = place + 1 } ∷ xs) rest
texts code place (Gap ∷ parts) e = texts code (place + 1) parts (behind code place (32 ∷ []) (spelling parts) e)

-- ---- a line

pub record IsRead (line : List ℕ) (found : List Lexeme) : Type 0 where
  pub code : code_of line ≡ line
  pub plain : position is_strange line ≡ None
  pub lexemes : lexemes_of line ≡ found
  pub lines : (rest : List ℕ) → lines_of (line ++ 10 ∷ rest) ≡ line ∷ lines_of rest

strange_10 : is_strange 10 ≡ true
unfolding is_strange is_blank kind_of is_name_byte
strange_10 = refl

strange_13 : is_strange 13 ≡ true
unfolding is_strange is_blank kind_of is_name_byte
strange_13 = refl

strange_35 : is_strange 35 ≡ true
unfolding is_strange is_blank kind_of is_name_byte
strange_35 = refl

clash : (b c : ℕ) → is_strange b ≡ false → is_strange c ≡ true → b ≢ c
clash b c plain strange same = let not : is_strange c ≡ false = subst (λ n. is_strange n ≡ false) same plain in absurd (cc)

at_end : (test : ℕ → Bool) (xs : List ℕ) → ((k : ℕ) → k < length xs → test (get_or xs k 0) ≡ false) → position_or_len test xs ≡ length xs
at_end test xs none = position_or_len_is test xs (length xs) 0 (omega arith) none (λ low. absurd (omega arith))

no_comment : (line : List ℕ) → ((k : ℕ) → k < length line → get_or line k 0 ≢ 35) → code_of line ≡ line
unfolding code_of
no_comment line none =
    let end : position_or_len (λ b. b == 35) line ≡ length line = at_end (λ b. b == 35) line (λ k low. ne_eqb (get_or line k 0) 35 (none k low)) in
    ap (λ n. take n line) end ∙ take_all (length line) line (omega arith)

tokens_are : (line : List ℕ) (tokens : List Token) → Reached line (length line) tokens → tokens_of line ≡ tokens
unfolding tokens_of
tokens_are line tokens reached = sym reached.told

pub spelled : (parts : List Part) → AreParts parts → IsRead (spelling parts) (written 1 parts)
spelled parts fit =
    let line : List ℕ = spelling parts in
    let all : Reached line (0 + length line) ([] ++ tokens_at 0 parts) = reached line 0 parts [] fit refl (starts line) in
    let all' : Reached line (length line) (tokens_at 0 parts) = subst (λ k. Reached line k (tokens_at 0 parts)) (zero-add (length line)) all in
    let plain : (k : ℕ) → k < length line → is_strange (get_or line k 0) ≡ false = all'.plain in
    record {
      code = no_comment line (λ k low. clash (get_or line k 0) 35 (plain k low) strange_35);
      plain = nowhere is_strange line (at_end is_strange line plain);
      lexemes = ap (map (lexeme_of line)) (tokens_are line (tokens_at 0 parts) all') ∙ texts line 0 parts refl;
      lines = λ rest.
          let newlines : All (λ b. b ≢ 10) line = λ k d low. subst (λ b. b ≢ 10) (get_or_default line k 0 d low) (clash (get_or line k 0) 10 (plain k low) strange_10) in
          let returns : (front : List ℕ) → line ≢ front ++ 13 ∷ [] = λ front e.
          let low : length front < length line = omega (arith, ap length e, length-append front (13 ∷ [])) in
          clash (get_or line (length front) 0) 13 (plain (length front) low) strange_13 (ap (λ xs. get_or xs (length front) 0) e ∙ get_or_at front 13 [] 0 (length front) refl) in
          first line rest newlines ∙ ap (λ x. x ∷ lines_of rest) (sym (kept line returns));
    }
