-- What the items of a line come to.
use Rattle.std.proofs.Common.{◌≡◌, ℕ, ◌+◌, ◌*◌, List, [], ◌∷◌, ◌++◌, length, map, Option, None, refl, ap, sym, ◌∙◌, arith, append_assoc, append-nil, length-append}
use Rattle.std.specs.Prelude.{ℤ, pos, Result, Ok, Err, OnOk}
use Rattle.std.specs.Option.{option_or}
use Rattle.std.specs.List.{All, AllZip, flat_map}
use Rattle.std.proofs.lemmas.List.Elements.{All-nil, All-cons}
use Rattle.asm_operands.specs.declared.expr.Expr as written
use Rattle.asm_parse.specs.declared.item.Width.{Width}
use Rattle.asm_operands.specs.Meanings.{expr}
use Rattle.asm_parse.specs.Mnemonics.{Item}
use Rattle.asm_parse.specs.Items.{bytes_in, number_of}
use Rattle.asm_parse.specs.Assembly.{first_of, placed_from, named_number_fault, reach_fault, code_at, code_bytes, unknown_in, IsWordOf}
use Rattle.asm_link.specs.Placed.{wide, faults_of, faults_in, codes_in, Appends, number_word, number_bytes, unfit}
use Rattle.asm_link.proofs.FirstOf.{both_none, first_append, no_first}
use Rattle.asm_link.proofs.PlacedNumbers.{numbers_placed}
use Rattle.asm_link.proofs.Overwriting.{bytes_long}
use Rattle.asm_link.proofs.Laying.{mul_more}

-- the faults of one item, and of two
pub one_faultless : (names : List (List ℕ × ℤ)) (address : ℕ) (x : Item) → faults_in names address (map (wide 4) (x ∷ [])) ≡ None
    → (named_number_fault names x ≡ None) × (reach_fault names (pos address) x ≡ None)
unfolding faults_of placed_from
one_faultless names address x none =
    let a = no_first _ _ none in
    let b = no_first _ _ a.1 in
    let c = no_first _ _ b.1 in
    (b.0, c.0)

pub two_faultless : (names : List (List ℕ × ℤ)) (address : ℕ) (x y : Item) → faults_in names address (map (wide 4) (x ∷ y ∷ [])) ≡ None
    → (named_number_fault names x ≡ None) × (reach_fault names (pos address) x ≡ None) × (named_number_fault names y ≡ None) × (reach_fault names (pos (address + 4)) y ≡ None)
unfolding faults_of placed_from
two_faultless names address x y none =
    let a = no_first _ _ none in
    let b = no_first _ _ a.1 in
    let c = no_first _ _ b.1 in
    let d = no_first _ _ c.1 in
    let e = no_first _ _ d.1 in
    let f = no_first _ _ e.1 in
    (c.0, e.0, d.0, f.0)

pub one_appended : (names : List (List ℕ × ℤ)) (address : ℕ) (x : Item) (old new : List ℕ) (word : ℕ) → new ≡ old ++ word ∷ [] → IsWordOf (code_at names address x) word
    → Appends (codes_in names address (map (wide 4) (x ∷ []))) old new
unfolding placed_from
one_appended names address x old new word e is = (word ∷ [], e, (is, tt))

pub two_appended : (names : List (List ℕ × ℤ)) (address : ℕ) (x y : Item) (old mid new : List ℕ) (word other : ℕ) → mid ≡ old ++ word ∷ [] → new ≡ mid ++ other ∷ []
    → IsWordOf (code_at names address x) word → IsWordOf (code_at names (address + 4) y) other → Appends (codes_in names address (map (wide 4) (x ∷ y ∷ []))) old new
unfolding placed_from
two_appended names address x y old mid new word other e f is also =
    (word ∷ other ∷ [], f ∙ ap (λ (k : List ℕ). k ++ other ∷ []) e ∙ append_assoc old (word ∷ []) (other ∷ []), (is, (also, tt)))

words_of : (names : List (List ℕ × ℤ)) (width : Width) (address : ℕ) (numbers : List written.Expr)
    → AllZip IsWordOf (codes_in names address (map (wide (bytes_in width)) (map (number_of width) numbers))) (map (number_word names) numbers)
unfolding placed_from
words_of names width address [] = tt
words_of names width address (e ∷ numbers) = (refl, words_of names width (address + bytes_in width) numbers)

-- the numbers of a line as words
pub numbers_appended : (names : List (List ℕ × ℤ)) (width : Width) (address : ℕ) (numbers : List written.Expr) (old new : List ℕ) → new ≡ old ++ map (number_word names) numbers
    → Appends (codes_in names address (map (wide (bytes_in width)) (map (number_of width) numbers))) old new
numbers_appended names width address numbers old new e = (map (number_word names) numbers, e, words_of names width address numbers)

-- ---- numbers of a line without faults

all_none : {A B : Type 0} (f : A → Option B) (xs : List A) → first_of (map f xs) ≡ None → All (λ x. f x ≡ None) xs
all_none f [] none = All-nil (λ x. f x ≡ None)
all_none f (x ∷ xs) none =
    let a = no_first (f x) (map f xs) none in
    All-cons (λ x. f x ≡ None) x xs a.0 (all_none f xs a.1)

pub numbers_fit : (names : List (List ℕ × ℤ)) (width : Width) (address : ℕ) (numbers : List written.Expr) → faults_in names address (map (wide (bytes_in width)) (map (number_of width) numbers)) ≡ None
    → All (λ e. unfit names width e ≡ None) numbers
numbers_fit names width address numbers none =
    let us = map (λ (e : written.Expr). unknown_in names (expr e)) numbers in
    let ns = map (λ (e : written.Expr). unfit names width e) numbers in
    let both : option_or (first_of us) (first_of ns) ≡ None = sym (first_append us ns) ∙ sym (numbers_placed names width address numbers) ∙ none in
    all_none (λ (e : written.Expr). unfit names width e) numbers (both_none (first_of us) (first_of ns) both).1

pub nothing_appended : (names : List (List ℕ × ℤ)) (address : ℕ) (old : List ℕ) → Appends (codes_in names address []) old old
unfolding placed_from
nothing_appended names address old = ([], sym (append-nil old), tt)

-- the bytes of the numbers of a line
pub number_codes : (names : List (List ℕ × ℤ)) (width : Width) (address : ℕ) (numbers : List written.Expr)
    → flat_map code_bytes (codes_in names address (map (wide (bytes_in width)) (map (number_of width) numbers))) ≡ flat_map (number_bytes names width) numbers
unfolding placed_from
number_codes names width address [] = refl
number_codes names width address (e ∷ numbers) = ap (λ (k : List ℕ). number_bytes names width e ++ k) (number_codes names width (address + bytes_in width) numbers)

pub numbers_long : (names : List (List ℕ × ℤ)) (width : Width) (numbers : List written.Expr) → length (flat_map (number_bytes names width) numbers) ≡ bytes_in width * length numbers
numbers_long names width [] = grind arith
numbers_long names width (e ∷ numbers) =
    length-append (number_bytes names width e) (flat_map (number_bytes names width) numbers)
    ∙ ap (λ (n : ℕ). n + length (flat_map (number_bytes names width) numbers)) (bytes_long (bytes_in width) (number_word names e))
    ∙ ap (λ (n : ℕ). bytes_in width + n) (numbers_long names width numbers) ∙ mul_more (bytes_in width) (length numbers)

pub on_ok : {A E P Q : Type 0} (result : Result A E) → (P → Q) → OnOk result P → OnOk result Q
on_ok (Ok a) f p = f p
on_ok (Err e) f p = tt
