-- Laws of tokens.
use Rattle.std.specs.Prelude.{◌≡◌, ℕ, ◌≤◌, ◌<◌, List, [], ◌∷◌, length, Some, IfOk}
use Rattle.std.specs.List.{All}
use Rattle.asm_operands.specs.declared.token.Token.{Token}
use Rattle.asm_operands.specs.Tokens.{code_of, token_at, line_tokens}

-- the tokens lie between two places, in order, and each has a byte at least
abbrev pub AreApart : ℕ → ℕ → List Token → Type 0
AreApart low high [] = low ≤ high
AreApart low high (token ∷ tokens) = (low ≤ token.start) × (token.start < token.end) × AreApart token.end high tokens

abbrev pub TokensAreApart : Type 0
TokensAreApart = (line : List ℕ) → IfOk (line_tokens line) (AreApart 0 (length line))

-- a token is the one that begins at its start
abbrev pub TokensStandAtTheirStarts : Type 0
TokensStandAtTheirStarts = (line : List ℕ) → IfOk (line_tokens line) (All (λ token. token_at (code_of line) token.start ≡ Some token))
