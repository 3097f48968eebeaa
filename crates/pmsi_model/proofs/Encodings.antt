-- The two readings of the instruction table agree, since any two of its rows fix one field in two ways.
use Rattle.std.proofs.Common.{◌≡◌, ℕ, ◌≤◌, length, List, [], ◌∷◌, Some, Bool, true, false, not, ◌==◌, ◌&&◌, refl, arith, inl, inr, ◌⊎◌}
use Rattle.std.specs.List.{filter, list_any, list_all}
use Rattle.pmsi_model.specs.declared.instr.Instr.{Instr}
use Rattle.pmsi_model.specs.Words.{bits_at}
use Rattle.pmsi_model.specs.Instruction.{Field, Encoding, has_fields, IsReadBy, read_by, instruction_rows, instr_of, HasOneRow, ReadsOneWay}

-- two fields are one, with two values
abbrev differs : Field → Field → Bool
differs f g = (f.low == g.low) && (f.count == g.count) && not (f.value == g.value)

abbrev conflicts : List Field → List Field → Bool
conflicts fs gs = list_any (λ f. list_any (differs f) gs) fs

-- any two rows conflict
abbrev are_apart : List Encoding → Bool
are_apart [] = true
are_apart (row ∷ rows) = list_all (λ other. conflicts row.fixed other.fixed) rows && are_apart rows

differs_one : (f : Field) (gs : List Field) (word : ℕ) → list_any (differs f) gs ≡ true → (bits_at f.low f.count word == f.value) ≡ true → has_fields gs word ≡ true → ⊥
differs_one f [] word some here there = grind arith
differs_one f (g ∷ gs) word some here there = grind (arith, differs_one f gs word)

conflicts_no : (fs gs : List Field) (word : ℕ) → conflicts fs gs ≡ true → has_fields fs word ≡ true → has_fields gs word ≡ true → ⊥
conflicts_no [] gs word some here there = grind arith
conflicts_no (f ∷ fs) gs word some here there = grind (arith, conflicts_no fs gs word, differs_one f gs word)

bool_cases : (b : Bool) → (b ≡ true) ⊎ (b ≡ false)
bool_cases true = inl refl
bool_cases false = inr refl

apart_head : (row other : Encoding) (rows : List Encoding) → list_all (λ o. conflicts row.fixed o.fixed) (other ∷ rows) ≡ true → conflicts row.fixed other.fixed ≡ true
apart_head row other rows apart = grind arith

apart_tail : (row other : Encoding) (rows : List Encoding) → list_all (λ o. conflicts row.fixed o.fixed) (other ∷ rows) ≡ true → list_all (λ o. conflicts row.fixed o.fixed) rows ≡ true
apart_tail row other rows apart = grind arith

pub either : {A B C : Type 0} → (A → C) → (B → C) → A ⊎ B → C
either f g (inl a) = f a
either f g (inr b) = g b

-- no later row fits a word that this row fits
none_later : (row : Encoding) (rows : List Encoding) (word : ℕ) (instr : Instr) → list_all (λ other. conflicts row.fixed other.fixed) rows ≡ true →
    has_fields row.fixed word ≡ true → IsReadBy rows word instr → ⊥
none_later row [] word instr apart here read = read
none_later row (other ∷ rows) word instr apart here read =
    either (λ fits. conflicts_no row.fixed other.fixed word (apart_head row other rows apart) here fits.0) (none_later row rows word instr (apart_tail row other rows apart) here) read

rest_apart : (row : Encoding) (rows : List Encoding) → are_apart (row ∷ rows) ≡ true → are_apart rows ≡ true
rest_apart row rows apart = grind arith

first_apart : (row : Encoding) (rows : List Encoding) → are_apart (row ∷ rows) ≡ true → list_all (λ other. conflicts row.fixed other.fixed) rows ≡ true
first_apart row rows apart = grind arith

by_first : (row : Encoding) (rows : List Encoding) (word : ℕ) (instr : Instr) → (has_fields row.fixed word ≡ true) × (row.reads word ≡ instr) → read_by (row ∷ rows) word ≡ Some instr
by_first row rows word instr fits = grind arith

by_later : (row : Encoding) (rows : List Encoding) (word : ℕ) (instr : Instr) → has_fields row.fixed word ≡ false → read_by rows word ≡ Some instr → read_by (row ∷ rows) word ≡ Some instr
by_later row rows word instr here read = grind arith

reads : (rows : List Encoding) (word : ℕ) (instr : Instr) → are_apart rows ≡ true → IsReadBy rows word instr → read_by rows word ≡ Some instr
reads [] word instr apart read = absurd read
reads (row ∷ rows) word instr apart read = either (by_first row rows word instr)
    (λ later. either (λ here. absurd (none_later row rows word instr (first_apart row rows apart) here later))
    (λ here. by_later row rows word instr here (reads rows word instr (rest_apart row rows apart) later)) (bool_cases (has_fields row.fixed word)))
    read

first_is : (row : Encoding) (rows : List Encoding) (word : ℕ) (instr : Instr) → has_fields row.fixed word ≡ true → read_by (row ∷ rows) word ≡ Some instr → row.reads word ≡ instr
first_is row rows word instr here read = grind arith

later_is : (row : Encoding) (rows : List Encoding) (word : ℕ) (instr : Instr) → has_fields row.fixed word ≡ false → read_by (row ∷ rows) word ≡ Some instr → read_by rows word ≡ Some instr
later_is row rows word instr here read = grind arith

is_read : (rows : List Encoding) (word : ℕ) (instr : Instr) → read_by rows word ≡ Some instr → IsReadBy rows word instr
is_read [] word instr read = grind arith
is_read (row ∷ rows) word instr read = either (λ here. inl (here, first_is row rows word instr here read))
    (λ here. inr (is_read rows word instr (later_is row rows word instr here read))) (bool_cases (has_fields row.fixed word))

-- no later row fits a word that this row fits, so none is left
none_left : (row : Encoding) (rows : List Encoding) (word : ℕ) → list_all (λ other. conflicts row.fixed other.fixed) rows ≡ true → has_fields row.fixed word ≡ true →
    filter (λ other. has_fields other.fixed word) rows ≡ []
none_left row [] word apart here = refl
none_left row (other ∷ rows) word apart here = grind (arith, none_left row rows word (apart_tail row other rows apart) here, conflicts_no row.fixed other.fixed word (apart_head row other rows apart) here)

at_most_one : (rows : List Encoding) (word : ℕ) → are_apart rows ≡ true → length (filter (λ row. has_fields row.fixed word) rows) ≤ 1
at_most_one [] word apart = omega arith
at_most_one (row ∷ rows) word apart = either
    (λ here. let none = none_left row rows word (first_apart row rows apart) here in grind arith)
    (λ else_. let rest = at_most_one rows word (rest_apart row rows apart) in grind arith) (bool_cases (has_fields row.fixed word))

pub has_one_row : HasOneRow
has_one_row word = at_most_one instruction_rows word refl

pub reads_one_way : ReadsOneWay
unfolding instr_of
reads_one_way word instr within = (λ encodes. reads instruction_rows word instr refl encodes.1, λ read. (within, is_read instruction_rows word instr read))
