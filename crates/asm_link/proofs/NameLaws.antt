-- Laws of names: which are known, and what defining more of them does.
use Rattle.std.proofs.Common.{◌≡◌, ◌≢◌, ℕ, ◌+◌, ◌<◌, Bool, true, List, [], ◌∷◌, ◌++◌, length, map, take, drop, get_or, Some, None, refl, ap, sym, subst, ◌∙◌, arith, add-one, append_assoc, append-nil}
use Rattle.std.proofs.Math.Seq.{take-suc, take-length}
use Rattle.std.proofs.lemmas.List.{map-append, take-append-drop}
use Rattle.std.specs.Prelude.{ℤ, pos, ◌||◌, is_some}
use Rattle.std.specs.Option.{option_or}
use Rattle.std.specs.List.{list_any}
use Rattle.std.specs.Str.{bytes_eq}
use Rattle.std.proofs.lemmas.Slice.Eq.{bytes_eq-Decides}
use Rattle.std.proofs.lemmas.List.Folds.{list_any-append}
use Rattle.asm_parse.specs.declared.fault.AsmCause.{AsmCause}
use Rattle.asm_parse.specs.declared.fault.AsmFault.{AsmFault}
use Rattle.asm_operands.specs.declared.lexeme.Lexeme as written
use Rattle.asm_operands.specs.declared.names.Named.{Named}
use Rattle.asm_operands.specs.Numbers.{value_in}
use Rattle.asm_operands.specs.Operands.{Lexeme}
use Rattle.asm_operands.specs.Meanings.{lexeme, lexemes}
use Rattle.asm_parse.specs.Assembly.{Statement, at_line, defined_by, equs_of, first_twice}
use Rattle.asm_operands.specs.NameTable.{NamesValue, named}
use Rattle.asm_link.specs.Defined.{names_in, labelled, constant_if, Defines, RefusesTwice}

abbrev pub is_known : List (List ℕ) → List ℕ → Bool
is_known known name = list_any (bytes_eq name) known

-- of two texts either is the other
pub either_way : (x y : List ℕ) → bytes_eq x y ≡ bytes_eq y x
either_way x y = grind (arith, bytes_eq-Decides x y, bytes_eq-Decides y x)

-- a name is known where it has a value
pub known_has_value : (names : List (List ℕ × ℤ)) (name : List ℕ) → is_known (names_in names) name ≡ is_some (value_in names name)
known_has_value [] name = refl
known_has_value (n ∷ names) name = grind (arith, either_way n.0 name, known_has_value names name)

-- the value of a name, with one name more
pub value_behind : (names more : List (List ℕ × ℤ)) (name : List ℕ) → value_in (names ++ more) name ≡ option_or (value_in names name) (value_in more name)
value_behind [] more name = grind arith
value_behind (n ∷ names) more name = grind (arith, value_behind names more name)

-- only which names are known counts
pub twice_same : (known other : List (List ℕ)) (xs : List Lexeme) → ((name : List ℕ) → is_known known name ≡ is_known other name) → first_twice known xs ≡ first_twice other xs
unfolding first_twice
twice_same known other [] same = refl
twice_same known other (x ∷ xs) same = grind (arith, same x.text, twice_same (x.text ∷ known) (x.text ∷ other) xs (λ name. grind (arith, same name)))

-- names behind others that weren't known
pub twice_behind : (known other : List (List ℕ)) (xs ys : List Lexeme) → first_twice known xs ≡ None
    → ((name : List ℕ) → is_known other name ≡ (is_known known name || list_any (λ x. bytes_eq name x.text) xs)) → first_twice known (xs ++ ys) ≡ first_twice other ys
unfolding first_twice
twice_behind known other [] ys none same = twice_same known other ys (λ name. grind (arith, same name))
twice_behind known other (x ∷ xs) ys none same = grind (arith, twice_behind (x.text ∷ known) other xs ys, λ (name : List ℕ). same name)

found_first : (number : ℕ) (known : List (List ℕ)) (xs ys : List Lexeme) (fault : AsmFault) → at_line number (first_twice known xs) ≡ Some fault → at_line number (first_twice known (xs ++ ys)) ≡ Some fault
unfolding first_twice
found_first number known [] ys fault some = grind (arith, some)
found_first number known (x ∷ xs) ys fault some = grind (arith, some, found_first number (x.text ∷ known) xs ys fault)

-- ---- defining names

pub defines_one : (old new : NamesValue) (x : Lexeme) (value : Named) → named old x.text ≡ None → named new x.text ≡ Some value
    → ((other : List ℕ) → other ≢ x.text → named new other ≡ named old other) → Defines old new (x ∷ []) ((x.text, value.value) ∷ []) (constant_if x.text value)
unfolding first_twice
defines_one old new x value none some others names equs has constants = (
  grind (arith, none, has x.text, known_has_value names x.text),
  (λ name. grind (arith, bytes_eq-Decides x.text name, none, some, others name, has name, has x.text, value_behind names ((x.text, value.value) ∷ []) name)),
  (λ name. grind (arith, bytes_eq-Decides x.text name, none, some, others name, constants name, constants x.text, value_behind equs (constant_if x.text value) name)),
)

pub refuses_one : (old : NamesValue) (number : ℕ) (x : Lexeme) (fault : AsmFault) → is_some (named old x.text) ≡ true → fault ≡ AsmFault.At number (AsmCause.Twice x.column) → RefusesTwice old number (x ∷ []) fault
unfolding first_twice
refuses_one old number x fault some e names equs has constants = grind (arith, some, e, has x.text, known_has_value names x.text)

-- the names are those of the tokens
abbrev pub AreNamed : List (List ℕ × ℤ) → List Lexeme → Type 0
AreNamed more xs = names_in more ≡ map (λ x. x.text) xs

named_any : (name : List ℕ) (xs : List Lexeme) → list_any (bytes_eq name) (map (λ x. x.text) xs) ≡ list_any (λ x. bytes_eq name x.text) xs
named_any name [] = refl
named_any name (x ∷ xs) = grind (arith, named_any name xs)

names_append : (names more : List (List ℕ × ℤ)) → names_in (names ++ more) ≡ names_in names ++ names_in more
names_append [] more = refl
names_append (n ∷ names) more = grind (arith, names_append names more)

known_more : (names more : List (List ℕ × ℤ)) (xs : List Lexeme) (name : List ℕ) → AreNamed more xs → is_known (names_in (names ++ more)) name ≡ (is_known (names_in names) name || list_any (λ x. bytes_eq name x.text) xs)
known_more names more xs name same = ap (λ (k : List (List ℕ)). is_known k name) (names_append names more ∙ ap (λ (k : List (List ℕ)). names_in names ++ k) same)
    ∙ list_any-append (bytes_eq name) (names_in names) (map (λ x. x.text) xs) ∙ ap (λ (b : Bool). is_known (names_in names) name || b) (named_any name xs)

pub defines_more : (old mid new : NamesValue) (xs ys : List Lexeme) (more others equs constants : List (List ℕ × ℤ)) → AreNamed more xs → Defines old mid xs more equs → Defines mid new ys others constants
    → Defines old new (xs ++ ys) (more ++ others) (equs ++ constants)
defines_more old mid new xs ys more others equs constants same first second names known has consts =
    let a = first names known has consts in
    let b = second (names ++ more) (known ++ equs) a.1 a.2 in (
      twice_behind (names_in names) (names_in (names ++ more)) xs ys a.0 (λ name. known_more names more xs name same) ∙ b.0,
      (λ name. b.1 name ∙ ap (λ (k : List (List ℕ × ℤ)). value_in k name) (append_assoc names more others)),
      (λ name. b.2 name ∙ ap (λ (k : List (List ℕ × ℤ)). value_in k name) (append_assoc known equs constants)),
    )

pub refuses_more : (old mid : NamesValue) (number : ℕ) (xs ys : List Lexeme) (more equs : List (List ℕ × ℤ)) (fault : AsmFault) → AreNamed more xs → Defines old mid xs more equs → RefusesTwice mid number ys fault
    → RefusesTwice old number (xs ++ ys) fault
refuses_more old mid number xs ys more equs fault same first second names known has consts =
    let a = first names known has consts in
    ap (at_line number) (twice_behind (names_in names) (names_in (names ++ more)) xs ys a.0 (λ name. known_more names more xs name same)) ∙ second (names ++ more) (known ++ equs) a.1 a.2

pub refuses_first : (old : NamesValue) (number : ℕ) (xs ys : List Lexeme) (fault : AsmFault) → RefusesTwice old number xs fault → RefusesTwice old number (xs ++ ys) fault
refuses_first old number xs ys fault first names known has consts = found_first number (names_in names) xs ys fault (first names known has consts)

-- a statement that defines no name
pub defines_none : (old : NamesValue) (does : Statement) → defined_by does ≡ [] → equs_of does ≡ [] → Defines old old (defined_by does) (equs_of does) (equs_of does)
unfolding first_twice
defines_none old does a b names equs has consts = rw a (rw b (refl, (λ name. has name ∙ ap (λ (k : List (List ℕ × ℤ)). value_in k name) (sym (append-nil names))), (λ name. consts name ∙ ap (λ (k : List (List ℕ × ℤ)). value_in k name) (sym (append-nil equs)))))

-- ---- defining labels, one by one

pub labelled_named : (xs : List Lexeme) (address : ℕ) → AreNamed (labelled xs address) xs
labelled_named [] address = refl
labelled_named (x ∷ xs) address = grind (arith, labelled_named xs address)

labels_more : (labels : List written.Lexeme) (i : ℕ) (d : written.Lexeme) → i < length labels → lexemes (take (i + 1) labels) ≡ lexemes (take i labels) ++ lexeme (get_or labels i d) ∷ []
labels_more labels i d lt = rw add-one (ap lexemes (take-suc labels i d lt) ∙ map-append lexeme (take i labels) (get_or labels i d ∷ []))

pub defines_next : (old mid new : NamesValue) (labels : List written.Lexeme) (i : ℕ) (d : written.Lexeme) (address : ℕ) (value : ℤ) → value ≡ pos address → i < length labels
    → Defines old mid (lexemes (take i labels)) (labelled (lexemes (take i labels)) address) []
    → Defines mid new (lexeme (get_or labels i d) ∷ []) (((lexeme (get_or labels i d)).text, value) ∷ []) []
    → Defines old new (lexemes (take (i + 1) labels)) (labelled (lexemes (take (i + 1) labels)) address) []
defines_next old mid new labels i d address value same lt first given =
    let x = lexeme (get_or labels i d) in
    let xs = lexemes (take i labels) in
    let second : Defines mid new (x ∷ []) ((x.text, pos address) ∷ []) [] = subst (λ (v : ℤ). Defines mid new (x ∷ []) ((x.text, v) ∷ []) []) same given in
    let e : labelled (xs ++ x ∷ []) address ≡ labelled xs address ++ (x.text, pos address) ∷ [] = map-append (λ label. (label.text, pos address)) xs (x ∷ []) in
    rw (labels_more labels i d lt) (rw e (defines_more old mid new xs (x ∷ []) (labelled xs address) ((x.text, pos address) ∷ []) [] [] (labelled_named xs address) first second))

pub refuses_next : (old mid : NamesValue) (number : ℕ) (labels : List written.Lexeme) (i : ℕ) (d : written.Lexeme) (address : ℕ) (fault : AsmFault) → i < length labels
    → Defines old mid (lexemes (take i labels)) (labelled (lexemes (take i labels)) address) []
    → RefusesTwice mid number (lexeme (get_or labels i d) ∷ []) fault
    → RefusesTwice old number (lexemes labels) fault
refuses_next old mid number labels i d address fault lt first second =
    let x = lexeme (get_or labels i d) in
    let xs = lexemes (take i labels) in
    let found = refuses_more old mid number xs (x ∷ []) (labelled xs address) [] fault (labelled_named xs address) first second in
    let cut : (xs ++ x ∷ []) ++ lexemes (drop (i + 1) labels) ≡ lexemes labels =
    ap (λ (k : List Lexeme). k ++ lexemes (drop (i + 1) labels)) (sym (labels_more labels i d lt)) ∙ sym (map-append lexeme (take (i + 1) labels) (drop (i + 1) labels)) ∙ ap lexemes (take-append-drop (i + 1) labels) in
    subst (λ (k : List Lexeme). RefusesTwice old number k fault) cut (refuses_first old number (xs ++ x ∷ []) (lexemes (drop (i + 1) labels)) fault found)

pub defines_all : (old new : NamesValue) (labels : List written.Lexeme) (i : ℕ) (address : ℕ) → i ≡ length labels
    → Defines old new (lexemes (take i labels)) (labelled (lexemes (take i labels)) address) [] → Defines old new (lexemes labels) (labelled (lexemes labels) address) []
defines_all old new labels i address end so_far = subst (λ (k : List written.Lexeme). Defines old new (lexemes k) (labelled (lexemes k) address) []) (ap (λ (k : ℕ). take k labels) end ∙ take-length labels) so_far
