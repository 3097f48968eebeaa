-- The tokens of a line of assembly. A line is the list of its bytes; places are counted from 0, columns from 1.
use Rattle.std.specs.Prelude.{ℕ, zero, suc, ◌+◌, max, Bool, false, not, ◌&&◌, ◌||◌, ◌==◌, if◌then◌else◌, List, length, drop, slice_index, Option, Some, None, is_none, option_map, Result, Ok, Err}
use Rattle.std.specs.List.{before_first, filter_map, position, prefix_len, range_with_len}
use Rattle.std.specs.Char.{is_ascii_digit, is_ascii_alphanumeric}
use Rattle.asm_operands.specs.declared.token.Token.{Token}
use Rattle.asm_operands.specs.declared.token.TokenKind.{TokenKind}
use Rattle.asm_operands.specs.declared.token.TokenKind.TheVariants.{Word, Number, Comma, Colon, Open, Close, Plus, Minus, Percent}
use Rattle.asm_operands.specs.declared.fault.TokenFault.{TokenFault}
use Rattle.asm_operands.specs.declared.fault.TokenFault.TheVariants.{Character}

-- letters, digits, `_` (95) and `.` (46)
unfoldable pub is_name_byte : ℕ → Bool
is_name_byte b = is_ascii_alphanumeric b || b == 95 || b == 46

-- spaces (32) and tabs (9)
unfoldable pub is_blank : ℕ → Bool
is_blank b = b == 32 || b == 9

-- The kind of the token that begins with a byte, if one does. The marks are `,` (44), `:` (58), `(` (40), `)` (41),
-- `+` (43), `-` (45) and `%` (37).
unfoldable pub kind_of : ℕ → Option TokenKind
kind_of b =
    if is_ascii_digit b then Some Number
    else (if is_name_byte b then Some Word
    else (if b == 44 then Some Comma
    else (if b == 58 then Some Colon
    else (if b == 40 then Some Open
    else (if b == 41 then Some Close
    else (if b == 43 then Some Plus
    else (if b == 45 then Some Minus
    else (if b == 37 then Some Percent
    else None))))))))

-- a byte that may stand in a comment only
unfoldable pub is_strange : ℕ → Bool
is_strange b = is_none (kind_of b) && not (is_blank b)

-- a line up to its comment, which `#` (35) begins
unfoldable pub code_of : List ℕ → List ℕ
code_of line = before_first (λ b. b == 35) line

-- the byte in front of a place is a name byte
unfoldable pub is_after_name : List ℕ → ℕ → Bool
is_after_name code zero = false
is_after_name code (suc before) = is_name_byte (slice_index code before)

-- a place stands within a run of name bytes, behind its first
unfoldable pub is_within_run : List ℕ → ℕ → Bool
is_within_run code place = is_after_name code place && is_name_byte (slice_index code place)

-- where a token that begins at a place ends: behind the longest run of name bytes, or else behind its one byte
unfoldable pub end_at : List ℕ → ℕ → ℕ
end_at code place = place + max 1 (prefix_len is_name_byte (drop place code))

-- the token that begins at a place, if one does
unfoldable pub token_at : List ℕ → ℕ → Option Token
token_at code place =
    if is_within_run code place then None
    else option_map (λ kind. record { kind = kind; start = place; end = end_at code place }) (kind_of (slice_index code place))

-- the tokens of a line without a comment
unfoldable pub tokens_of : List ℕ → List Token
tokens_of code = filter_map (token_at code) (range_with_len 0 (length code))

-- the tokens, unless a byte is strange: then the fault at its column
abbrev pub tokens_unless : Option ℕ → List Token → Result (List Token) TokenFault
tokens_unless None tokens = Ok tokens
tokens_unless (Some place) tokens = Err (Character (place + 1))

-- what a line is read as
unfoldable pub line_tokens : List ℕ → Result (List Token) TokenFault
line_tokens line = tokens_unless (position is_strange (code_of line)) (tokens_of (code_of line))
