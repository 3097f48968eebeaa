-- How a layout goes from line to line.
use Rattle.std.proofs.Common.{◌≡◌, ℕ, suc, ◌+◌, ◌*◌, Bool, true, false, List, [], ◌∷◌, ◌++◌, length, map, Option, Some, None, refl, ap, sym, subst, ◌∙◌, arith, length-append}
use Rattle.std.specs.Prelude.{cond, if◌then◌else◌, ℤ, ◌==◌, not}
use Rattle.std.specs.List.{AllZip, filter, sum_by}
use Rattle.std.proofs.lemmas.List.Sums.{sum_by-cons}
use Rattle.std.proofs.lemmas.List.Elements.{All-nil, All-cons, All-append, filter-append}
use Rattle.asm_parse.specs.declared.fault.AsmCause.{AsmCause}
use Rattle.asm_parse.specs.declared.fault.AsmFault.{AsmFault}
use Rattle.asm_parse.specs.declared.place.Place.{Place}
use Rattle.asm_parse.specs.declared.statement.Line.{Line}
use Rattle.asm_operands.specs.Tokens.{code_of}
use Rattle.asm_operands.specs.Operands.{Lexeme, lexemes_of}
use Rattle.asm_operands.specs.Meanings.{lexemes}
use Rattle.asm_operands.specs.NameTable.{NamesValue, HasConstants}
use Rattle.asm_parse.specs.ReadLines.{IsReadAs, asked_by, fault_of}
use Rattle.asm_parse.specs.Assembly.{Before, Step, Statement, at_start, at_line, after_step, step_of, first_of, placing_fault, first_twice, defined_by, equs_of, here, items_of, moved, labels_of, statement_of}
use Rattle.asm_parse.specs.Items as items
use Rattle.asm_link.specs.declared.layout.Layout.{Layout}
use Rattle.asm_link.specs.Defined.{Defines, RefusesTwice, labelled, names_in}
use Rattle.asm_link.specs.Rounds.{IsLayout, IsStep, IsNamed, before_of, has_items, kept_of, runs_of, next_step, room_fault, AddsLine, RefusesLine}
use Rattle.asm_link.proofs.NameLaws.{defines_more, labelled_named}

abbrev pub so_far : List Step → Before
so_far steps = before_of at_start steps

-- the step, by the line as it was read
abbrev pub told : List Step → Line → Step
told steps read = record {
  number = length steps + 1;
  place = (so_far steps).place;
  labels = lexemes read.labels.items;
  does = items.statement_of read.does;
  fault = placing_fault (so_far steps) (lexemes read.labels.items) (items.statement_of read.does);
}

first_of_one : {A : Type 0} (x : Option A) → first_of (x ∷ []) ≡ x
unfolding first_of
first_of_one None = refl
first_of_one (Some a) = refl

first_of_two : {A : Type 0} (x y : Option A) → x ≡ None → first_of (x ∷ y ∷ []) ≡ y
unfolding first_of
first_of_two x y none = rw none (first_of_one y)

first_of_some : {A : Type 0} (x : Option A) (xs : List (Option A)) (a : A) → x ≡ Some a → first_of (x ∷ xs) ≡ Some a
unfolding first_of
first_of_some x xs a some = rw some refl

pub read_step : (steps : List Step) (line : List ℕ) (read : Line) → IsReadAs (so_far steps).place (so_far steps).equs line read → next_step steps line ≡ told steps read
unfolding step_of
read_step steps line read r =
    let b = so_far steps in
    let f : first_of (fault_of b.place b.equs line ∷ placing_fault b (lexemes read.labels.items) (items.statement_of read.does) ∷ []) ≡ placing_fault b (lexemes read.labels.items) (items.statement_of read.does) =
    first_of_two (fault_of b.place b.equs line) (placing_fault b (lexemes read.labels.items) (items.statement_of read.does)) r.faultless in
    rw (sym r.labels) (rw (sym r.does) (rw f refl))

pub before_append : (b : Before) (steps : List Step) (step : Step) → before_of b (steps ++ step ∷ []) ≡ after_step (before_of b steps) step
unfolding before_of
before_append b [] step = refl
before_append b (s ∷ steps) step = before_append (after_step b s) steps step

-- ---- faults

placing_is : (b : Before) (labels : List Lexeme) (does : Statement) → first_twice (names_in b.names) (labels ++ defined_by does) ≡ None → placing_fault b labels does ≡ room_fault b does
unfolding placing_fault first_of
placing_is b labels does none = rw none refl

placing_twice : (b : Before) (labels : List Lexeme) (does : Statement) (cause : AsmCause) → first_twice (names_in b.names) (labels ++ defined_by does) ≡ Some cause → placing_fault b labels does ≡ Some cause
unfolding placing_fault first_of
placing_twice b labels does cause some = rw some refl

at_some : (number : ℕ) (found : Option AsmCause) (fault : AsmFault) → at_line number found ≡ Some fault → (cause : AsmCause) × (found ≡ Some cause) × (AsmFault.At number cause ≡ fault)
at_some number None fault e = absurd (grind (arith, e))
at_some number (Some cause) fault e = (cause, refl, grind (arith, e))

step_reading : (n : ℕ) (b : Before) (line : List ℕ) (fault : AsmFault) → at_line n (fault_of b.place b.equs line) ≡ Some fault → at_line n (step_of n b line).fault ≡ Some fault
unfolding step_of
step_reading n b line fault e =
    let s = at_some n (fault_of b.place b.equs line) fault e in
    ap (at_line n) (first_of_some (fault_of b.place b.equs line) (placing_fault b (labels_of (lexemes_of (code_of line))) (statement_of (asked_by b.place b.equs line)) ∷ []) s.0 s.1) ∙ ap Some s.2

-- the line can't be read
pub refuses_reading : (layout : Layout) (line : List ℕ) (fault : AsmFault)
    → ((equs : List (List ℕ × ℤ)) → HasConstants layout.names equs → at_line layout.number (fault_of layout.place equs line) ≡ Some fault) → RefusesLine line layout fault
refuses_reading layout line fault found steps h =
    let e : at_line (length steps + 1) (fault_of (so_far steps).place (so_far steps).equs line) ≡ Some fault = rw (sym h.number) (rw (sym h.place) (found (so_far steps).equs h.equs)) in
    rw h.number (step_reading (length steps + 1) (so_far steps) line fault e)

-- one of its names was defined before
pub refuses_names : (layout : Layout) (line : List ℕ) (read : Line) (fault : AsmFault)
    → ((equs : List (List ℕ × ℤ)) → HasConstants layout.names equs → IsReadAs layout.place equs line read)
    → RefusesTwice layout.names layout.number (lexemes read.labels.items ++ defined_by (items.statement_of read.does)) fault → RefusesLine line layout fault
refuses_names layout line read fault reads refuses steps h =
    let b = so_far steps in
    let r : IsReadAs b.place b.equs line read = subst (λ (p : Place). IsReadAs p b.equs line read) h.place (reads b.equs h.equs) in
    let found = lexemes read.labels.items ++ defined_by (items.statement_of read.does) in
    let s = at_some layout.number (first_twice (names_in b.names) found) fault (refuses b.names b.equs h.names h.equs) in
    ap (λ (k : Step). at_line layout.number k.fault) (read_step steps line read r) ∙ ap (at_line layout.number) (placing_twice b (lexemes read.labels.items) (items.statement_of read.does) s.0 s.1) ∙ ap Some s.2

-- there is no room for what it does
pub refuses_room : (layout : Layout) (line : List ℕ) (read : Line) (cause : AsmCause) (names : NamesValue) (more equs : List (List ℕ × ℤ))
    → ((equs : List (List ℕ × ℤ)) → HasConstants layout.names equs → IsReadAs layout.place equs line read)
    → Defines layout.names names (lexemes read.labels.items ++ defined_by (items.statement_of read.does)) more equs
    → ((b : Before) → b.place ≡ layout.place → IsNamed layout.memory b.runs → Some cause ≡ room_fault b (items.statement_of read.does)) → RefusesLine line layout (AsmFault.At layout.number cause)
refuses_room layout line read cause names more equs reads defines no_room steps h =
    let b = so_far steps in
    let does = items.statement_of read.does in
    let r : IsReadAs b.place b.equs line read = subst (λ (p : Place). IsReadAs p b.equs line read) h.place (reads b.equs h.equs) in
    let d = defines b.names b.equs h.names h.equs in
    let e : placing_fault b (lexemes read.labels.items) does ≡ Some cause = placing_is b (lexemes read.labels.items) does d.0 ∙ sym (no_room b (sym h.place) h.memory) in
    ap (λ (k : Step). at_line layout.number k.fault) (read_step steps line read r) ∙ ap (at_line layout.number) e

-- ---- the next layout

pub AllZip_append : {A B : Type 0} (R : A → B → Type 0) (xs : List A) (ys : List B) (us : List A) (vs : List B) → AllZip R xs ys → AllZip R us vs → AllZip R (xs ++ us) (ys ++ vs)
AllZip_append R [] [] us vs a b = b
AllZip_append R (x ∷ xs) [] us vs a b = absurd a
AllZip_append R [] (y ∷ ys) us vs a b = absurd a
AllZip_append R (x ∷ xs) (y ∷ ys) us vs a b = (a.0, AllZip_append R xs ys us vs a.1 b)

zip_if : {A B : Type 0} (R : A → B → Type 0) (test : Bool) (x : A) (y : B) → R x y → AllZip R (if test then x ∷ [] else []) (cond test (y ∷ []) [])
zip_if R true x y r = (r, tt)
zip_if R false x y r = tt

kept_one : (old : Layout) (steps : List Step) (read : Line) → items.IsSound old.place.in_data read.does → IsLayout old steps → AllZip IsStep (kept_of old.number old.place read.does) (filter has_items (told steps read ∷ []))
kept_one old steps read sound h =
    let is : IsStep (record { number = old.number; in_data = old.place.in_data; address = here old.place; does = read.does }) (told steps read) =
    record { number = h.number; in_data = ap (λ (p : Place). p.in_data) h.place; address = ap here h.place; items = refl; sound = sound } in
    zip_if IsStep (not (length (items_of (items.statement_of read.does)) == 0)) _ _ is

pub adds : (old new : Layout) (line : List ℕ) (read : Line)
    → ((equs : List (List ℕ × ℤ)) → HasConstants old.names equs → IsReadAs old.place equs line read)
    → Defines old.names new.names (lexemes read.labels.items ++ defined_by (items.statement_of read.does)) (labelled (lexemes read.labels.items) (here old.place) ++ equs_of (items.statement_of read.does))
    (equs_of (items.statement_of read.does))
    → ((b : Before) → b.place ≡ old.place → IsNamed old.memory b.runs → None ≡ room_fault b (items.statement_of read.does))
    → new.number ≡ old.number + 1
    → new.place ≡ moved (items.statement_of read.does) old.place
    → ((runs : List (ℕ × ℕ)) → IsNamed old.memory runs → IsNamed new.memory (runs_of old.place (items.statement_of read.does) ++ runs))
    → new.steps.items ≡ old.steps.items ++ kept_of old.number old.place read.does
    → items.IsSound old.place.in_data read.does
    → AddsLine line old new
unfolding after_step
adds old new line read reads defines room number place memory kept sound steps h =
    let b = so_far steps in
    let does = items.statement_of read.does in
    let labels = lexemes read.labels.items in
    let r : IsReadAs b.place b.equs line read = subst (λ (p : Place). IsReadAs p b.equs line read) h.place (reads b.equs h.equs) in
    let d = defines b.names b.equs h.names h.equs in
    let fault : placing_fault b labels does ≡ None = placing_is b labels does d.0 ∙ sym (room b (sym h.place) h.memory) in
    let more : so_far (steps ++ told steps read ∷ []) ≡ after_step b (told steps read) = before_append at_start steps (told steps read) in
    rw (read_step steps line read r) record {
      number = number ∙ ap (λ (n : ℕ). n + 1) h.number ∙ sym (ap (λ (n : ℕ). n + 1) (length-append steps (told steps read ∷ [])));
      faultless = All-append (λ step. step.fault ≡ None) steps (told steps read ∷ []) h.faultless (All-cons (λ step. step.fault ≡ None) (told steps read) [] fault (All-nil (λ step. step.fault ≡ None)));
      place = rw more (rw (sym h.place) place);
      names = rw more (rw (sym h.place) d.1);
      equs = rw more d.2;
      memory = rw more (rw (sym h.place) (memory b.runs h.memory));
      kept = rw kept (rw (filter-append has_items steps (told steps read ∷ [])) (AllZip_append IsStep old.steps.items (filter has_items steps) (kept_of old.number old.place read.does) (filter has_items (told steps read ∷ [])) h.kept (kept_one old steps read sound h)));
    }

pub mul_more : (w n : ℕ) → w + w * n ≡ w * suc n
mul_more w n = grind arith

-- so many items of one width
pub size_of_items : {A B : Type 0} (width : ℕ) (f : A → B) (xs : List A) → sum_by (λ (item : ℕ × B). item.0) (map (λ item. (width, item)) (map f xs)) ≡ width * length xs
size_of_items {A} {B} width f [] = grind arith
size_of_items {A} {B} width f (x ∷ xs) = sum_by-cons (λ (item : ℕ × B). item.0) (width, f x) (map (λ item. (width, item)) (map f xs)) ∙ ap (λ (n : ℕ). width + n) (size_of_items width f xs) ∙ mul_more width (length xs)

-- labels, and then a constant
pub defines_all : (old mid new : NamesValue) (labels found : List Lexeme) (address : ℕ) (constants : List (List ℕ × ℤ)) → Defines old mid labels (labelled labels address) [] → Defines mid new found constants constants
    → Defines old new (labels ++ found) (labelled labels address ++ constants) constants
defines_all old mid new labels found address constants first second =
    defines_more old mid new labels found (labelled labels address) constants [] constants (labelled_named labels address) first second
