-- What the operands of every form stand for can be encoded, once its numbers fit.
use Rattle.std.proofs.Common.{◌≡◌, ℕ, ◌+◌, ◌^◌, ◌<◌, ◌≤◌, Bool, true, false, List, [], ◌∷◌, length, Option, Some, None, refl, arith, inl}
use Rattle.std.specs.Prelude.{ℤ, if◌then◌else◌, nat_lt, IfSome, ◌⊎◌}
use Rattle.std.specs.List.{AllByRecursion}
use Rattle.pmsi_model.specs.declared.instr.Instr.{Instr}
use Rattle.asm_operands.specs.Numbers.{fence_set, register_named, weight_of, weights_behind, with_weight}
use Rattle.asm_operands.specs.Operands.{Expr, Imm, Lexeme, Took, Taken, Stuck, ends, fences_if, register_if, take_base, take_constant, take_e, take_expr, take_fences, take_ff, take_imm, take_in_parentheses, take_kind, take_memory, take_next, take_one, take_pair, take_r, take_rc, take_re, take_register, take_ri, take_rm, take_rr, take_rrb, take_rre, take_rri, take_rrr, then_take, took_if, zero_if}
use Rattle.asm_operands.specs.declared.token.TokenKind.TheVariants.{Open, Close, Comma}
use Rattle.asm_operands.proofs.Exports.{is_small}
use Rattle.asm_parse.specs.Assembly.{IsWordOf, code_bytes}
use Rattle.asm_parse.specs.Items.{is_ready}
use Rattle.asm_parse.specs.Mnemonics.{Code, Instruction, Item, Known, Numbered, Distant, Form, form_e, form_ff, form_r, form_rc, form_re, form_ri, form_rm, form_rr, form_rrb, form_rre, form_rri, form_rrr, further, gives, no_operands, take_forms}
use Rattle.asm_link.specs.Resolved.{AreRegs}
use Rattle.asm_link.proofs.Ready.{ready_has_row}

-- ---- codes and items

-- a code has a word, and no more bytes than these
pub record IsCoded (width : ℕ) (code : Code) : Type 0 where
  pub word : ℕ
  pub small : word < 2 ^ 32
  pub is : IsWordOf code word
  pub short : length (code_bytes code) ≤ width

-- an item comes to such a code with every number that fits
abbrev pub IsCodable : ℕ → Item → Type 0
IsCodable width (Known code) = IsCoded width code
IsCodable width (Numbered expr at fits gives) = (n : ℤ) → fits n ≡ true → IsCoded width (gives n)
IsCodable width (Distant expr fits gives) = (n : ℤ) → fits n ≡ true → IsCoded width (gives n)

abbrev pub AreCodable : ℕ → List Item → Type 0
AreCodable width items = AllByRecursion (IsCodable width) items

pub coded : (instr : Instr) → AreRegs instr → is_ready instr ≡ true → IsCoded 4 (Instruction instr)
coded instr regs ready =
    let row = ready_has_row instr regs ready in
    record { word = row.0; small = row.1.0; is = row.1; short = omega arith }

-- ---- what is taken

abbrev pub TookAs : {A : Type 0} → (A → Type 0) → Took A → Type 0
TookAs P (Taken a xs) = P a
TookAs P (Stuck xs) = Unit {0}

abbrev pub Anything : {A : Type 0} → A → Type 0
Anything a = Unit {0}

abbrev pub IsRegister : ℕ → Type 0
IsRegister r = r < 32

abbrev pub AreRegisters : ℕ × ℕ → Type 0
AreRegisters t = (t.0 < 32) × (t.1 < 32)

pub then_as : {A B : Type 0} (P : A → Type 0) (Q : B → Type 0) (took : Took A) (next : A → List Lexeme → Took B) → TookAs P took
    → ((a : A) (xs : List Lexeme) → P a → TookAs Q (next a xs)) → TookAs Q (then_take took next)
then_as P Q (Taken a xs) next is each = each a xs is
then_as P Q (Stuck xs) next is each = tt

pub anything : {A : Type 0} (took : Took A) → TookAs Anything took
anything (Taken a xs) = tt
anything (Stuck xs) = tt

pub ends_as : {A : Type 0} (P : A → Type 0) (a : A) (xs : List Lexeme) → P a → TookAs P (ends a xs)
ends_as P a [] is = is
ends_as P a (x ∷ xs) is = tt

next_as : {A : Type 0} (P : A → Type 0) (takes : List Lexeme → Took A) (xs : List Lexeme) → ((ys : List Lexeme) → TookAs P (takes ys))
    → TookAs P (take_next takes xs)
next_as P takes xs each = then_as Anything P (take_kind Comma xs) (λ _ ys. takes ys) (anything (take_kind Comma xs)) (λ _ ys _. each ys)

if_as : {A : Type 0} (P : A → Type 0) (test : Bool) (one other : Took A) → TookAs P one → TookAs P other → TookAs P (if test then one else other)
if_as P true one other is also = is
if_as P false one other is also = also

took_if_as : {A : Type 0} (P : A → Type 0) (found : Option A) (x : Lexeme) (xs : List Lexeme) → IfSome found P → TookAs P (took_if found x xs)
took_if_as P (Some a) x xs is = is
took_if_as P None x xs is = tt

one_as : {A : Type 0} (P : A → Type 0) (reads : Lexeme → Option A) (xs : List Lexeme) → ((x : Lexeme) → IfSome (reads x) P) → TookAs P (take_one reads xs)
one_as P reads [] each = tt
one_as P reads (x ∷ xs) each = took_if_as P (reads x) x xs (each x)

some_if : {A : Type 0} (P : A → Type 0) (test : Bool) (found : Option A) → IfSome found P → IfSome (if test then found else None) P
some_if P true found is = is
some_if P false found is = tt

-- ---- operands

register_as : (xs : List Lexeme) → TookAs IsRegister (take_register xs)
unfolding take_register
register_as xs = one_as IsRegister register_if xs (λ x. some_if IsRegister _ (register_named x.text) (is_small x.text))

pair_as : (xs : List Lexeme) → TookAs AreRegisters (take_pair xs)
pair_as xs = then_as IsRegister AreRegisters (take_register xs) _ (register_as xs)
    (λ a xs small. then_as IsRegister AreRegisters (take_next take_register xs) _ (next_as IsRegister take_register xs register_as)
    (λ b xs also. (small, also)))

parentheses_as : (xs : List Lexeme) → TookAs IsRegister (take_in_parentheses xs)
unfolding take_in_parentheses
parentheses_as xs = then_as Anything IsRegister (take_kind Open xs) _ (anything (take_kind Open xs))
    (λ _ xs _. then_as IsRegister IsRegister (take_register xs) _ (register_as xs)
    (λ r xs small. then_as Anything IsRegister (take_kind Close xs) _ (anything (take_kind Close xs)) (λ _ xs _. small)))

abbrev HasBase : Imm × ℕ → Type 0
HasBase at = at.1 < 32

memory_as : (xs : List Lexeme) → TookAs HasBase (take_memory xs)
unfolding take_memory
memory_as xs = if_as HasBase _ _ _
    (then_as IsRegister HasBase (take_in_parentheses xs) _ (parentheses_as xs) (λ r xs small. small))
    (then_as Anything HasBase (take_imm xs) _ (anything (take_imm xs))
    (λ imm xs _. then_as IsRegister HasBase (take_in_parentheses xs) _ (parentheses_as xs) (λ r xs small. small)))

base_as : (xs : List Lexeme) → TookAs IsRegister (take_base xs)
unfolding take_base
base_as xs =
    if_as IsRegister _ _ _ (parentheses_as xs)
    (then_as Anything IsRegister (take_one zero_if xs) _ (anything (take_one zero_if xs)) (λ _ xs _. parentheses_as xs))

-- ---- sets of a fence

abbrev IsSet : ℕ → Type 0
IsSet n = n < 16

-- the weight of the letter before, and what there is room for below it
abbrev IsWeight : ℕ × ℕ → Type 0
IsWeight state = (state.1 + state.0 ≤ 16) × ((state.0 ≡ 16) ⊎ ((state.0 ≡ 8) ⊎ ((state.0 ≡ 4) ⊎ ((state.0 ≡ 2) ⊎ (state.0 ≡ 1)))))

weight_as : (least sum b : ℕ) → IsWeight (least, sum) → IfSome (with_weight least sum (weight_of b)) IsWeight
weight_as least sum b is = grind (arith, is.0, is.1)

weights_as : (state : Option (ℕ × ℕ)) (bs : List ℕ) → IfSome state IsWeight → IfSome (weights_behind state bs) IsSet
unfolding weights_behind
weights_as None bs is = tt
weights_as (Some state) [] is = grind (arith, is.0, is.1)
weights_as (Some state) (b ∷ bs) is = weights_as (with_weight state.0 state.1 (weight_of b)) bs (weight_as state.0 state.1 b is)

set_as : (text : List ℕ) → IfSome (fence_set text) IsSet
unfolding fence_set
set_as [] = tt
set_as (b ∷ bs) = weights_as (Some (16, 0)) (b ∷ bs) (omega arith, inl refl)

fences_as : (xs : List Lexeme) → TookAs IsSet (take_fences xs)
unfolding take_fences
fences_as xs = one_as IsSet fences_if xs (λ x. some_if IsSet _ (fence_set x.text) (set_as x.text))

-- ---- forms

abbrev pub IsForm : Form → Type 0
IsForm form = (equs : List (List ℕ × ℤ)) (xs : List Lexeme) → TookAs (AreCodable 4) (form equs xs)

gives_as : {A : Type 0} (P : A → Type 0) (f : A → List Item) (took : Took A) → TookAs P took → ((a : A) → P a → AreCodable 4 (f a))
    → TookAs (AreCodable 4) (gives f took)
gives_as P f (Taken a xs) is each = each a is
gives_as P f (Stuck xs) is each = tt

pub is_none : (items : List Item) → AreCodable 4 items → IsForm (no_operands items)
is_none items are equs xs = ends_as (AreCodable 4) items xs are

pub is_r : (f : ℕ → List Item) → ((a : ℕ) → a < 32 → AreCodable 4 (f a)) → IsForm (form_r f)
unfolding take_r
is_r f each equs xs =
    gives_as IsRegister f (take_r xs) (then_as IsRegister IsRegister (take_register xs) ends (register_as xs)
    (λ a xs small. ends_as IsRegister a xs small)) each

pub is_rr : (f : ℕ → ℕ → List Item) → ((a b : ℕ) → a < 32 → b < 32 → AreCodable 4 (f a b)) → IsForm (form_rr f)
unfolding take_rr
is_rr f each equs xs =
    gives_as AreRegisters (λ t. f t.0 t.1) (take_rr xs)
    (then_as AreRegisters AreRegisters (take_pair xs) ends (pair_as xs) (λ t xs are. ends_as AreRegisters t xs are)) (λ t are. each t.0 t.1 are.0 are.1)

abbrev AreThree : ℕ × ℕ × ℕ → Type 0
AreThree t = (t.0 < 32) × (t.1 < 32) × (t.2 < 32)

pub is_rrr : (f : ℕ → ℕ → ℕ → List Item) → ((a b c : ℕ) → a < 32 → b < 32 → c < 32 → AreCodable 4 (f a b c)) → IsForm (form_rrr f)
unfolding take_rrr
is_rrr f each equs xs =
    gives_as AreThree (λ t. f t.0 t.1 t.2) (take_rrr xs)
    (then_as AreRegisters AreThree (take_pair xs) _ (pair_as xs)
    (λ t xs are. then_as IsRegister AreThree (take_next take_register xs) _ (next_as IsRegister take_register xs register_as)
    (λ c xs small. ends_as AreThree (t.0, t.1, c) xs (are.0, are.1, small))))
    (λ t are. each t.0 t.1 t.2 are.0 are.1 are.2)

pub is_rrb : (f : ℕ → ℕ → ℕ → List Item) → ((a b c : ℕ) → a < 32 → b < 32 → c < 32 → AreCodable 4 (f a b c)) → IsForm (form_rrb f)
unfolding take_rrb
is_rrb f each equs xs =
    gives_as AreThree (λ t. f t.0 t.1 t.2) (take_rrb xs)
    (then_as AreRegisters AreThree (take_pair xs) _ (pair_as xs)
    (λ t xs are. then_as IsRegister AreThree (take_next take_base xs) _ (next_as IsRegister take_base xs base_as)
    (λ c xs small. ends_as AreThree (t.0, t.1, c) xs (are.0, are.1, small))))
    (λ t are. each t.0 t.1 t.2 are.0 are.1 are.2)

abbrev HasFirst : {B : Type 0} → ℕ × B → Type 0
HasFirst t = t.0 < 32

abbrev HasPair : {B : Type 0} → ℕ × ℕ × B → Type 0
HasPair t = (t.0 < 32) × (t.1 < 32)

abbrev HasEnds : {B : Type 0} → ℕ × B × ℕ → Type 0
HasEnds t = (t.0 < 32) × (t.2 < 32)

-- a register, and something behind a comma
first_as : {B : Type 0} (takes : List Lexeme → Took B) (xs : List Lexeme)
    → TookAs HasFirst (then_take (take_register xs) (λ a xs. then_take (take_next takes xs) (λ b xs. ends (a, b) xs)))
first_as takes xs = then_as IsRegister HasFirst (take_register xs) _ (register_as xs)
    (λ a xs small. then_as Anything HasFirst (take_next takes xs) _ (anything (take_next takes xs)) (λ b xs _. ends_as HasFirst (a, b) xs small))

-- two registers, and something behind a comma
second_as : {B : Type 0} (takes : List Lexeme → Took B) (xs : List Lexeme)
    → TookAs HasPair (then_take (take_pair xs) (λ t xs. then_take (take_next takes xs) (λ b xs. ends (t.0, t.1, b) xs)))
second_as takes xs = then_as AreRegisters HasPair (take_pair xs) _ (pair_as xs)
    (λ t xs are. then_as Anything HasPair (take_next takes xs) _ (anything (take_next takes xs)) (λ b xs _. ends_as HasPair (t.0, t.1, b) xs are))

pub is_ri : (f : ℕ → Imm → List Item) → ((a : ℕ) (imm : Imm) → a < 32 → AreCodable 4 (f a imm)) → IsForm (form_ri f)
unfolding take_ri
is_ri f each equs xs = gives_as HasFirst (λ t. f t.0 t.1) (take_ri xs) (first_as take_imm xs) (λ t small. each t.0 t.1 small)

pub is_re : (f : ℕ → Expr → List Item) → ((a : ℕ) (e : Expr) → a < 32 → AreCodable 4 (f a e)) → IsForm (form_re f)
unfolding take_re
is_re f each equs xs = gives_as HasFirst (λ t. f t.0 t.1) (take_re xs) (first_as take_expr xs) (λ t small. each t.0 t.1 small)

pub is_rri : (f : ℕ → ℕ → Imm → List Item) → ((a b : ℕ) (imm : Imm) → a < 32 → b < 32 → AreCodable 4 (f a b imm)) → IsForm (form_rri f)
unfolding take_rri
is_rri f each equs xs = gives_as HasPair (λ t. f t.0 t.1 t.2) (take_rri xs) (second_as take_imm xs) (λ t are. each t.0 t.1 t.2 are.0 are.1)

pub is_rre : (f : ℕ → ℕ → Expr → List Item) → ((a b : ℕ) (e : Expr) → a < 32 → b < 32 → AreCodable 4 (f a b e)) → IsForm (form_rre f)
unfolding take_rre
is_rre f each equs xs = gives_as HasPair (λ t. f t.0 t.1 t.2) (take_rre xs) (second_as take_expr xs) (λ t are. each t.0 t.1 t.2 are.0 are.1)

pub is_rm : (f : ℕ → Imm → ℕ → List Item) → ((a : ℕ) (imm : Imm) (b : ℕ) → a < 32 → b < 32 → AreCodable 4 (f a imm b)) → IsForm (form_rm f)
unfolding take_rm
is_rm f each equs xs =
    gives_as HasEnds (λ t. f t.0 t.1 t.2) (take_rm xs)
    (then_as IsRegister HasEnds (take_register xs) _ (register_as xs)
    (λ a xs small. then_as HasBase HasEnds (take_next take_memory xs) _ (next_as HasBase take_memory xs memory_as)
    (λ at xs also. ends_as HasEnds (a, at.0, at.1) xs (small, also))))
    (λ t are. each t.0 t.1 t.2 are.0 are.1)

pub is_e : (f : Expr → List Item) → ((e : Expr) → AreCodable 4 (f e)) → IsForm (form_e f)
is_e f each equs xs = gives_as Anything f (take_e xs) (anything (take_e xs)) (λ e _. each e)

abbrev HasTarget : ℕ × Expr × Option ℤ → Type 0
HasTarget t = t.0 < 32

pub is_rc : (f : ℕ → Expr → Option ℤ → List Item) → ((a : ℕ) (e : Expr) (n : Option ℤ) → a < 32 → AreCodable 4 (f a e n)) → IsForm (form_rc f)
unfolding take_rc
is_rc f each equs xs =
    gives_as HasTarget (λ t. f t.0 t.1 t.2) (take_rc equs xs)
    (then_as IsRegister HasTarget (take_register xs) _ (register_as xs)
    (λ a xs small. then_as Anything HasTarget (take_next (take_constant equs) xs) _ (anything (take_next (take_constant equs) xs))
    (λ c xs _. ends_as HasTarget (a, c.0, c.1) xs small)))
    (λ t small. each t.0 t.1 t.2 small)

abbrev AreSets : ℕ × ℕ → Type 0
AreSets t = (t.0 < 16) × (t.1 < 16)

pub is_ff : (f : ℕ → ℕ → List Item) → ((a b : ℕ) → a < 16 → b < 16 → AreCodable 4 (f a b)) → IsForm (form_ff f)
unfolding take_ff
is_ff f each equs xs =
    gives_as AreSets (λ t. f t.0 t.1) (take_ff xs)
    (then_as IsSet AreSets (take_fences xs) _ (fences_as xs)
    (λ a xs small. then_as IsSet AreSets (take_next take_fences xs) _ (next_as IsSet take_fences xs fences_as)
    (λ b xs also. ends_as AreSets (a, b) xs (small, also))))
    (λ t are. each t.0 t.1 are.0 are.1)

-- ---- several forms

further_as : (one other : Took (List Item)) → TookAs (AreCodable 4) one → TookAs (AreCodable 4) other → TookAs (AreCodable 4) (further one other)
further_as (Taken a xs) other is also = is
further_as (Stuck xs) (Taken a ys) is also = also
further_as (Stuck xs) (Stuck ys) is also = if_as (AreCodable 4) (nat_lt (length xs) (length ys)) (Stuck xs) (Stuck ys) tt tt

pub forms_as : (forms : List Form) → AllByRecursion IsForm forms → IsForm (take_forms forms)
unfolding take_forms
forms_as [] each equs xs = tt
forms_as (form ∷ []) each equs xs = each.0 equs xs
forms_as (form ∷ other ∷ forms) each equs xs =
    further_as (form equs xs) (take_forms (other ∷ forms) equs xs) (each.0 equs xs) (forms_as (other ∷ forms) each.1 equs xs)
