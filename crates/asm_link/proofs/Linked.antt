-- From the lines that are kept to all lines of a source.
use Rattle.std.proofs.Common.{◌≡◌, ℕ, Bool, true, false, List, [], ◌∷◌, ◌++◌, length, map, Option, Some, None, refl, ap, sym, ◌∙◌, arith}
use Rattle.std.specs.Prelude.{ℤ, pos, not, ◌==◌, cond, if◌then◌else◌}
use Rattle.std.specs.List.{All, AllZip, filter, flat_map}
use Rattle.std.proofs.lemmas.List.Elements.{All-nil, All-cons, All-head, All-tail}
use Rattle.asm_operands.specs.Numbers.{value_in}
use Rattle.asm_operands.specs.Operands.{Expr, expr_value, sum_if, value_of_name}
use Rattle.asm_parse.specs.Mnemonics.{Code, Item, Known, Numbered, Distant}
use Rattle.asm_parse.specs.Assembly.{Step, at_line, codes_of, code_at, first_fault, first_of, here, items_of, later_fault, named_number_fault, placed, placed_from, reach_fault, unknown_item, unknown_name}
use Rattle.asm_link.specs.declared.step.Step as kept
use Rattle.asm_link.specs.Placed.{codes_in, faults_in, faults_of}
use Rattle.asm_link.specs.Filled.{items_at, step_fault, step_codes, text_codes}
use Rattle.asm_link.specs.Rounds.{IsStep, has_items}

-- ---- names that have the same values

abbrev pub AreSame : List (List ℕ × ℤ) → List (List ℕ × ℤ) → Type 0
AreSame names others = (name : List ℕ) → value_in names name ≡ value_in others name

same_if : (names others : List (List ℕ × ℤ)) (name : Option (List ℕ)) (number : Option ℤ) → AreSame names others → sum_if (value_of_name names name) number ≡ sum_if (value_of_name others name) number
same_if names others None number same = refl
same_if names others (Some name) number same = rw (same name) refl

same_unknown_name : (names others : List (List ℕ × ℤ)) (name : Option (List ℕ)) (column : ℕ) → AreSame names others → unknown_name names name column ≡ unknown_name others name column
same_unknown_name names others None column same = refl
same_unknown_name names others (Some name) column same = rw (same name) refl

same_expr : (names others : List (List ℕ × ℤ)) (expr : Expr) → AreSame names others → expr_value names expr ≡ expr_value others expr
same_expr names others expr same = same_if names others expr.name expr.number same

same_unknown : (names others : List (List ℕ × ℤ)) (item : Item) → AreSame names others → unknown_item names item ≡ unknown_item others item
same_unknown names others (Known code) same = refl
same_unknown names others (Numbered expr at fits gives) same = same_unknown_name names others expr.name expr.column same
same_unknown names others (Distant expr fits gives) same = same_unknown_name names others expr.name expr.column same

same_number : (names others : List (List ℕ × ℤ)) (item : Item) → AreSame names others → named_number_fault names item ≡ named_number_fault others item
same_number names others (Known code) same = refl
same_number names others (Numbered expr at fits gives) same = rw (same_expr names others expr same) refl
same_number names others (Distant expr fits gives) same = rw (same_expr names others expr same) refl

same_reach : (names others : List (List ℕ × ℤ)) (own : ℤ) (item : Item) → AreSame names others → reach_fault names own item ≡ reach_fault others own item
same_reach names others own (Known code) same = refl
same_reach names others own (Numbered expr at fits gives) same = refl
same_reach names others own (Distant expr fits gives) same = rw (same_expr names others expr same) refl

same_code : (names others : List (List ℕ × ℤ)) (address : ℕ) (item : Item) → AreSame names others → code_at names address item ≡ code_at others address item
same_code names others address (Known code) same = refl
same_code names others address (Numbered expr at fits gives) same = rw (same_expr names others expr same) refl
same_code names others address (Distant expr fits gives) same = rw (same_expr names others expr same) refl

map_same : {A B : Type 0} (f g : A → B) (xs : List A) → ((x : A) → f x ≡ g x) → map f xs ≡ map g xs
map_same f g [] same = refl
map_same f g (x ∷ xs) same = rw (same x) (ap (λ k. g x ∷ k) (map_same f g xs same))

same_faults : (names others : List (List ℕ × ℤ)) (items : List (ℕ × Item)) → AreSame names others → faults_of names items ≡ faults_of others items
unfolding faults_of
same_faults names others items same =
    rw (map_same (λ (item : ℕ × Item). unknown_item names item.1) (λ (item : ℕ × Item). unknown_item others item.1) items (λ item. same_unknown names others item.1 same))
    (rw (map_same (λ (item : ℕ × Item). named_number_fault names item.1) (λ (item : ℕ × Item). named_number_fault others item.1) items (λ item. same_number names others item.1 same))
    (rw (map_same (λ (item : ℕ × Item). reach_fault names (pos item.0) item.1) (λ (item : ℕ × Item). reach_fault others (pos item.0) item.1) items (λ item. same_reach names others (pos item.0) item.1 same)) refl))

-- ---- a line that is kept, and its step

-- a kept line's fault is its step's
pub fault_is : (names others : List (List ℕ × ℤ)) (step : kept.Step) (of : Step) → AreSame names others → IsStep step of → step_fault names step ≡ later_fault others of
unfolding later_fault placed faults_of
fault_is names others step of same is =
    same_faults names others (placed_from step.address (items_at step)) same
    ∙ ap (λ (n : ℕ). faults_in others n (items_at step)) is.address ∙ ap (λ (k : List (ℕ × Item)). faults_in others (here of.place) k) is.items

pub codes_are : (names others : List (List ℕ × ℤ)) (step : kept.Step) (of : Step) → AreSame names others → IsStep step of → step_codes names step ≡ codes_of others of
unfolding placed
codes_are names others step of same is =
    map_same (λ (item : ℕ × Item). code_at names item.0 item.1) (λ (item : ℕ × Item). code_at others item.0 item.1) (placed_from step.address (items_at step)) (λ item. same_code names others item.0 item.1 same)
    ∙ ap (λ (n : ℕ). codes_in others n (items_at step)) is.address ∙ ap (λ (k : List (ℕ × Item)). codes_in others (here of.place) k) is.items

-- ---- lines without items

empty_if : {A : Type 0} (xs : List A) → not (length xs == 0) ≡ false → xs ≡ []
empty_if [] none = refl
empty_if (x ∷ xs) none = absurd (grind (arith, none))

-- nothing comes of a step without items
pub no_items : (names : List (List ℕ × ℤ)) (step : Step) → has_items step ≡ false → items_of step.does ≡ []
no_items names step none = empty_if (items_of step.does) none

pub no_fault : (names : List (List ℕ × ℤ)) (step : Step) → has_items step ≡ false → later_fault names step ≡ None
unfolding later_fault placed placed_from first_of
no_fault names step none = rw (no_items names step none) refl

pub no_codes : (names : List (List ℕ × ℤ)) (step : Step) → has_items step ≡ false → codes_of names step ≡ []
unfolding placed placed_from
no_codes names step none = rw (no_items names step none) refl

-- ---- from lines that are kept to all steps

first_cons : {A : Type 0} (x : Option A) (xs ys : List (Option A)) → first_of xs ≡ first_of ys → first_of (x ∷ xs) ≡ first_of (x ∷ ys)
unfolding first_of
first_cons None xs ys same = same
first_cons (Some a) xs ys same = refl

kept_first : (names others : List (List ℕ × ℤ)) (steps : List kept.Step) (of : List Step) → AreSame names others → AllZip IsStep steps of
    → first_of (map (λ step. at_line step.number (step_fault names step)) steps) ≡ first_of (map (λ step. at_line step.number (later_fault others step)) of)
unfolding first_of
kept_first names others [] [] same zip = refl
kept_first names others (s ∷ ss) [] same zip = absurd zip
kept_first names others [] (o ∷ os) same zip = absurd zip
kept_first names others (s ∷ ss) (o ∷ os) same zip =
    rw (fault_is names others s o same zip.0) (rw zip.0.number (first_cons (at_line o.number (later_fault others o)) _ _ (kept_first names others ss os same zip.1)))

filter_first_if : {A B : Type 0} (g : A → Option B) (p : A → Bool) (x : A) (xs : List A) (test : Bool) → p x ≡ test → ((x : A) → p x ≡ false → g x ≡ None) → first_of (map g (filter p xs)) ≡ first_of (map g xs)
    → first_of (map g (filter p (x ∷ xs))) ≡ first_of (g x ∷ map g xs)
unfolding first_of
filter_first_if g p x xs true is none rest = rw is (first_cons (g x) (map g (filter p xs)) (map g xs) rest)
filter_first_if g p x xs false is none rest = rw is (rw (none x is) rest)

filter_first : {A B : Type 0} (g : A → Option B) (p : A → Bool) (xs : List A) → ((x : A) → p x ≡ false → g x ≡ None) → first_of (map g (filter p xs)) ≡ first_of (map g xs)
unfolding first_of
filter_first g p [] none = refl
filter_first g p (x ∷ xs) none = filter_first_if g p x xs (p x) refl none (filter_first g p xs none)

-- the second round's fault of a source
pub later_is : (names others : List (List ℕ × ℤ)) (steps : List kept.Step) (of : List Step) → AreSame names others → AllZip IsStep steps (filter has_items of)
    → first_of (map (λ step. at_line step.number (step_fault names step)) steps) ≡ first_fault (later_fault others) of
later_is names others steps of same zip =
    kept_first names others steps (filter has_items of) same zip
    ∙ filter_first (λ step. at_line step.number (later_fault others step)) has_items of (λ step none. ap (at_line step.number) (no_fault others step none))

abbrev pub text_step : List (List ℕ × ℤ) → Step → List Code
text_step names step = if step.place.in_data then [] else codes_of names step

kept_codes : (names others : List (List ℕ × ℤ)) (steps : List kept.Step) (of : List Step) → AreSame names others → AllZip IsStep steps of → flat_map (text_codes names) steps ≡ flat_map (text_step others) of
kept_codes names others [] [] same zip = refl
kept_codes names others (s ∷ ss) [] same zip = absurd zip
kept_codes names others [] (o ∷ os) same zip = absurd zip
kept_codes names others (s ∷ ss) (o ∷ os) same zip =
    let here : text_codes names s ≡ text_step others o = rw zip.0.in_data (ap (λ (k : List Code). if o.place.in_data then [] else k) (codes_are names others s o same zip.0)) in
    rw here (ap (λ (k : List Code). text_step others o ++ k) (kept_codes names others ss os same zip.1))

filter_flat_if : {A B : Type 0} (h : A → List B) (p : A → Bool) (x : A) (xs : List A) (test : Bool) → p x ≡ test → ((x : A) → p x ≡ false → h x ≡ []) → flat_map h (filter p xs) ≡ flat_map h xs
    → flat_map h (filter p (x ∷ xs)) ≡ h x ++ flat_map h xs
filter_flat_if h p x xs true is none rest = rw is (ap (λ (k : List _). h x ++ k) rest)
filter_flat_if h p x xs false is none rest = rw is (rw (none x is) rest)

filter_flat : {A B : Type 0} (h : A → List B) (p : A → Bool) (xs : List A) → ((x : A) → p x ≡ false → h x ≡ []) → flat_map h (filter p xs) ≡ flat_map h xs
filter_flat h p [] none = refl
filter_flat h p (x ∷ xs) none = filter_flat_if h p x xs (p x) refl none (filter_flat h p xs none)

cond_flat : {A B : Type 0} (f : A → List B) (test : Bool) (o : A) (ys : List A) → flat_map f (cond (not test) (o ∷ ys) ys) ≡ (if test then [] else f o) ++ flat_map f ys
cond_flat f true o ys = refl
cond_flat f false o ys = refl

if_same : (test : Bool) → ◌≡◌ {A = List Code} (if test then [] else []) []
if_same true = refl
if_same false = refl

no_text : (names : List (List ℕ × ℤ)) (step : Step) → has_items step ≡ false → text_step names step ≡ []
no_text names step none = rw (no_codes names step none) (if_same step.place.in_data)

text_filter : (names : List (List ℕ × ℤ)) (of : List Step) → flat_map (text_step names) of ≡ flat_map (codes_of names) (filter (λ step. not step.place.in_data) of)
text_filter names [] = refl
text_filter names (o ∷ os) =
    ap (λ (k : List Code). text_step names o ++ k) (text_filter names os) ∙ sym (cond_flat (codes_of names) o.place.in_data o (filter (λ step. not step.place.in_data) os))

-- the text of a source
pub text_is : (names others : List (List ℕ × ℤ)) (steps : List kept.Step) (of : List Step) → AreSame names others → AllZip IsStep steps (filter has_items of)
    → flat_map (text_codes names) steps ≡ flat_map (codes_of others) (filter (λ step. not step.place.in_data) of)
text_is names others steps of same zip =
    kept_codes names others steps (filter has_items of) same zip ∙ filter_flat (text_step others) has_items of (λ step none. no_text others step none) ∙ text_filter others of

-- ---- what holds of all steps

pub zip_all : {A B : Type 0} (R : A → B → Type 0) (Q : A → Type 0) (P : B → Type 0) (xs : List A) (ys : List B) → ((x : A) (y : B) → Q x → R x y → P y) → AllZip R xs ys → All Q xs → All P ys
zip_all R Q P [] [] gives zip all = All-nil P
zip_all R Q P (x ∷ xs) [] gives zip all = absurd zip
zip_all R Q P [] (y ∷ ys) gives zip all = absurd zip
zip_all R Q P (x ∷ xs) (y ∷ ys) gives zip all = All-cons P y ys (gives x y (All-head Q x xs all) zip.0) (zip_all R Q P xs ys gives zip.1 (All-tail Q x xs all))

all_filter_if : {A : Type 0} (P : A → Type 0) (p : A → Bool) (x : A) (xs : List A) (test : Bool) → p x ≡ test → ((x : A) → p x ≡ false → P x) → All P (filter p (x ∷ xs)) → (All P (filter p xs) → All P xs) → All P (x ∷ xs)
all_filter_if P p x xs true is other all rest =
    let parts : All P (x ∷ filter p xs) = rw is at all in
    All-cons P x xs (All-head P x (filter p xs) parts) (rest (All-tail P x (filter p xs) parts))
all_filter_if P p x xs false is other all rest = All-cons P x xs (other x is) (rest (rw is at all))

pub all_filter : {A : Type 0} (P : A → Type 0) (p : A → Bool) (xs : List A) → ((x : A) → p x ≡ false → P x) → All P (filter p xs) → All P xs
all_filter P p [] other all = All-nil P
all_filter P p (x ∷ xs) other all = all_filter_if P p x xs (p x) refl other all (all_filter P p xs other)
