-- The operands of a line: which tokens an operand takes, and what they say. The first token with which no form of a mnemonic
-- can go on is the one that doesn't fit.
use Rattle.std.specs.Prelude.{ℕ, zero, suc, ◌+◌, ◌-◌, ℤ, pos, neg_ℤ, ◌+ℤ◌, Bool, true, false, ◌==◌, ◌&&◌, if◌then◌else◌, List, [], ◌∷◌, map, length, take, drop, codes, Option, Some, None, is_none, ◌++◌}
use Rattle.std.specs.Option.{option_map}
use Rattle.std.specs.Str.{bytes_eq}
use Rattle.asm_operands.specs.declared.token.Token.{Token}
use Rattle.asm_operands.specs.declared.token.TokenKind.{TokenKind}
use Rattle.asm_operands.specs.declared.token.TokenKind.TheVariants.{Word, Number, Comma, Colon, Open, Close, Plus, Minus, Percent}
use Rattle.asm_operands.specs.declared.expr.Literal.{Literal}
use Rattle.asm_operands.specs.declared.expr.Part.{Part}
use Rattle.asm_operands.specs.declared.expr.Part.TheVariants.{Whole, High, Low}
use Rattle.asm_operands.specs.Tokens.{tokens_of}
use Rattle.asm_operands.specs.Numbers.{number_spelt, signed_number, if_number, register_named, fence_set, value_in}

-- a token with its text and its column
pub record Lexeme : Type 0 where
  pub kind : TokenKind
  pub text : List ℕ
  pub column : ℕ

abbrev pub lexeme_of : List ℕ → Token → Lexeme
lexeme_of code token = record { kind = token.kind; text = take (token.end - token.start) (drop token.start code); column = token.start + 1 }

-- the tokens of a line without its comment
abbrev pub lexemes_of : List ℕ → List Lexeme
lexemes_of code = map (lexeme_of code) (tokens_of code)

-- ---- taking tokens

-- something was taken, and these tokens are left; or the first of these doesn't fit, and where there is none the line ends
-- too early
pub data Took (A : Type 0) : Type 0 where
  Taken : A → List Lexeme → Took A
  Stuck : List Lexeme → Took A

abbrev pub took_if : {A : Type 0} → Option A → Lexeme → List Lexeme → Took A
took_if (Some a) x xs = Taken a xs
took_if None x xs = Stuck (x ∷ xs)

-- the next token, if it says something
abbrev pub take_one : {A : Type 0} → (Lexeme → Option A) → List Lexeme → Took A
take_one reads [] = Stuck []
take_one reads (x ∷ xs) = took_if (reads x) x xs

abbrev pub then_take : {A B : Type 0} → Took A → (A → List Lexeme → Took B) → Took B
then_take (Taken a xs) next = next a xs
then_take (Stuck xs) next = Stuck xs

abbrev pub first_is : (Lexeme → Bool) → List Lexeme → Bool
first_is test [] = false
first_is test (x ∷ xs) = test x

abbrev pub index_of : TokenKind → ℕ
index_of Word = 0
index_of Number = 1
index_of Comma = 2
index_of Colon = 3
index_of Open = 4
index_of Close = 5
index_of Plus = 6
index_of Minus = 7
index_of Percent = 8

abbrev pub has_kind : TokenKind → Lexeme → Bool
has_kind kind x = index_of x.kind == index_of kind

abbrev pub text_if : TokenKind → Lexeme → Option Lexeme
text_if kind x = if has_kind kind x then Some x else None

unfoldable pub take_kind : TokenKind → List Lexeme → Took Lexeme
take_kind kind xs = take_one (text_if kind) xs

-- ---- numbers and expressions

-- a number with its sign
abbrev pub take_number : Bool → Option ℕ → List Lexeme → Took Literal
take_number negative None xs =
    then_take (take_kind Number xs) (λ x rest. Taken (record { value = signed_number negative (number_spelt x.text); column = x.column }) rest)
take_number negative (Some column) xs =
    then_take (take_kind Number xs) (λ x rest. Taken (record { value = signed_number negative (number_spelt x.text); column = column }) rest)

unfoldable pub take_literal : List Lexeme → Took Literal
take_literal xs =
    if first_is (has_kind Minus) xs then then_take (take_kind Minus xs) (λ x rest. take_number true (Some x.column) rest)
    else take_number false None xs

-- a number, a name, or a name with a number added to it or taken from it; and the column of its first token. The number is
-- none where it is misspelt or too wide, and 0 where there is only a name
pub record Expr : Type 0 where
  pub name : Option (List ℕ)
  pub number : Option ℤ
  pub column : ℕ

abbrev pub negated : Option ℤ → Option ℤ
negated number = option_map neg_ℤ number

abbrev pub take_offset : Lexeme → List Lexeme → Took Expr
take_offset name xs =
    if first_is (has_kind Plus) xs
    then then_take (take_kind Plus xs) (λ _ rest. then_take (take_literal rest)
    (λ n rest. Taken (record { name = Some name.text; number = n.value; column = name.column }) rest))
    else (if first_is (has_kind Minus) xs
    then then_take (take_kind Minus xs) (λ _ rest. then_take (take_literal rest)
    (λ n rest. Taken (record { name = Some name.text; number = negated n.value; column = name.column }) rest))
    else Taken (record { name = Some name.text; number = Some (pos 0); column = name.column }) xs)

unfoldable pub take_expr : List Lexeme → Took Expr
take_expr xs =
    if first_is (has_kind Word) xs then then_take (take_kind Word xs) take_offset
    else then_take (take_literal xs) (λ n rest. Taken (record { name = None; number = n.value; column = n.column }) rest)

-- ---- immediates

pub record Imm : Type 0 where
  pub part : Part
  pub expr : Expr
  pub column : ℕ  -- of the `%`, or else of the expression

abbrev pub parts : List (List ℕ × Part)
parts = (codes "hi", High) ∷ (codes "lo", Low) ∷ []

abbrev pub part_if : Lexeme → Option Part
part_if x = if has_kind Word x then value_in parts x.text else None

abbrev pub take_part : Lexeme → List Lexeme → Took Imm
take_part percent xs =
    then_take (take_one part_if xs) (λ part xs. then_take (take_kind Open xs) (λ _ xs. then_take (take_expr xs) (λ expr xs.
    then_take (take_kind Close xs) (λ _ xs. Taken (record { part = part; expr = expr; column = percent.column }) xs))))

unfoldable pub take_imm : List Lexeme → Took Imm
take_imm xs =
    if first_is (has_kind Percent) xs then then_take (take_kind Percent xs) take_part
    else then_take (take_expr xs) (λ expr rest. Taken (record { part = Whole; expr = expr; column = expr.column }) rest)

-- ---- operands

abbrev pub register_if : Lexeme → Option ℕ
register_if x = if has_kind Word x then register_named x.text else None

unfoldable pub take_register : List Lexeme → Took ℕ
take_register xs = take_one register_if xs

-- a register in parentheses
unfoldable pub take_in_parentheses : List Lexeme → Took ℕ
take_in_parentheses xs =
    then_take (take_kind Open xs) (λ _ xs. then_take (take_register xs) (λ r xs. then_take (take_kind Close xs) (λ _ xs. Taken r xs)))

-- an immediate that is left out is 0
abbrev pub no_imm : Imm
no_imm = record { part = Whole; expr = record { name = None; number = Some (pos 0); column = 0 }; column = 0 }

-- an address: an immediate, which may be left out, and a register in parentheses
unfoldable pub take_memory : List Lexeme → Took (Imm × ℕ)
take_memory xs =
    if first_is (has_kind Open) xs then then_take (take_in_parentheses xs) (λ r xs. Taken (no_imm, r) xs)
    else then_take (take_imm xs) (λ imm xs. then_take (take_in_parentheses xs) (λ r xs. Taken (imm, r) xs))

abbrev pub zero_if : Lexeme → Option Lexeme
zero_if x = if has_kind Number x && bytes_eq x.text (codes "0") then Some x else None

-- an address: a register in parentheses, with or without a `0` in front
unfoldable pub take_base : List Lexeme → Took ℕ
take_base xs = if first_is (has_kind Open) xs then take_in_parentheses xs else then_take (take_one zero_if xs) (λ _ xs. take_in_parentheses xs)

abbrev pub fences_if : Lexeme → Option ℕ
fences_if x = if has_kind Word x then fence_set x.text else None

-- some of the letters i, o, r and w
unfoldable pub take_fences : List Lexeme → Took ℕ
take_fences xs = take_one fences_if xs

-- ---- values of expressions

-- the value of a name with a number added, both known
abbrev pub sum_if : Option ℤ → Option ℤ → Option ℤ
sum_if None number = None
sum_if (Some value) None = None
sum_if (Some value) (Some number) = Some (value +ℤ number)

abbrev pub value_of_name : List (List ℕ × ℤ) → Option (List ℕ) → Option ℤ
value_of_name names None = Some (pos 0)
value_of_name names (Some name) = value_in names name

-- the value of an expression, by the names
abbrev pub expr_value : List (List ℕ × ℤ) → Expr → Option ℤ
expr_value names expr = sum_if (value_of_name names expr.name) expr.number

abbrev pub if_in_range : Option ℤ → Option ℤ
if_in_range None = None
if_in_range (Some n) = if_number n

-- a name that isn't among these can't stand in a constant
abbrev pub is_unknown : List (List ℕ × ℤ) → Lexeme → Bool
is_unknown equs x = has_kind Word x && is_none (value_in equs x.text)

-- an expression whose name is that of an earlier `.equ`, with its value where that is a number
unfoldable pub take_constant : List (List ℕ × ℤ) → List Lexeme → Took (Expr × Option ℤ)
take_constant equs xs =
    if first_is (is_unknown equs) xs then Stuck xs
    else then_take (take_expr xs) (λ expr xs. Taken (expr, if_in_range (expr_value equs expr)) xs)

-- ---- lists of operands

-- the line ends here
abbrev pub ends : {A : Type 0} → A → List Lexeme → Took A
ends a [] = Taken a []
ends a (x ∷ xs) = Stuck (x ∷ xs)

-- an operand behind a comma
abbrev pub take_next : {A : Type 0} → (List Lexeme → Took A) → List Lexeme → Took A
take_next takes xs = then_take (take_kind Comma xs) (λ _ xs. takes xs)

-- further expressions, each behind a comma, up to the line's end; there are no more of them than tokens
unfoldable pub take_more : ℕ → List Expr → List Lexeme → Took (List Expr)
take_more zero found xs = ends found xs
take_more (suc most) found [] = Taken found []
take_more (suc most) found (x ∷ xs) = then_take (take_next take_expr (x ∷ xs)) (λ expr xs. take_more most (found ++ expr ∷ []) xs)

-- one expression or more
unfoldable pub take_exprs : List Lexeme → Took (List Expr)
take_exprs xs = then_take (take_expr xs) (λ expr rest. take_more (length xs) (expr ∷ []) rest)

-- ---- operands up to the line's end

-- Named by the operands: registers r, an immediate i, an address m, that of an AMO b, an expression e, a constant c, sets
-- of a fence f.

abbrev pub take_pair : List Lexeme → Took (ℕ × ℕ)
take_pair xs = then_take (take_register xs) (λ a xs. then_take (take_next take_register xs) (λ b xs. Taken (a, b) xs))

unfoldable pub take_r : List Lexeme → Took ℕ
take_r xs = then_take (take_register xs) ends

unfoldable pub take_rr : List Lexeme → Took (ℕ × ℕ)
take_rr xs = then_take (take_pair xs) ends

unfoldable pub take_rrr : List Lexeme → Took (ℕ × ℕ × ℕ)
take_rrr xs = then_take (take_pair xs) (λ t xs. then_take (take_next take_register xs) (λ c xs. ends (t.0, t.1, c) xs))

unfoldable pub take_ri : List Lexeme → Took (ℕ × Imm)
take_ri xs = then_take (take_register xs) (λ a xs. then_take (take_next take_imm xs) (λ imm xs. ends (a, imm) xs))

unfoldable pub take_rri : List Lexeme → Took (ℕ × ℕ × Imm)
take_rri xs = then_take (take_pair xs) (λ t xs. then_take (take_next take_imm xs) (λ imm xs. ends (t.0, t.1, imm) xs))

unfoldable pub take_rm : List Lexeme → Took (ℕ × Imm × ℕ)
take_rm xs = then_take (take_register xs) (λ a xs. then_take (take_next take_memory xs) (λ at xs. ends (a, at.0, at.1) xs))

unfoldable pub take_rrb : List Lexeme → Took (ℕ × ℕ × ℕ)
take_rrb xs = then_take (take_pair xs) (λ t xs. then_take (take_next take_base xs) (λ c xs. ends (t.0, t.1, c) xs))

unfoldable pub take_e : List Lexeme → Took Expr
take_e xs = then_take (take_expr xs) ends

unfoldable pub take_re : List Lexeme → Took (ℕ × Expr)
take_re xs = then_take (take_register xs) (λ a xs. then_take (take_next take_expr xs) (λ e xs. ends (a, e) xs))

unfoldable pub take_rre : List Lexeme → Took (ℕ × ℕ × Expr)
take_rre xs = then_take (take_pair xs) (λ t xs. then_take (take_next take_expr xs) (λ e xs. ends (t.0, t.1, e) xs))

unfoldable pub take_rc : List (List ℕ × ℤ) → List Lexeme → Took (ℕ × Expr × Option ℤ)
take_rc equs xs = then_take (take_register xs) (λ a xs. then_take (take_next (take_constant equs) xs) (λ c xs. ends (a, c.0, c.1) xs))

unfoldable pub take_ff : List Lexeme → Took (ℕ × ℕ)
take_ff xs = then_take (take_fences xs) (λ a xs. then_take (take_next take_fences xs) (λ b xs. ends (a, b) xs))
