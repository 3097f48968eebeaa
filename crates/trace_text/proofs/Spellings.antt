-- How lines are spelled, without their newlines, and the fields that they have.
use Rattle.std.proofs.Common.{◌≡◌, ℕ, zero, suc, ◌^◌, ◌<◌, ◌≤◌, List, [], ◌∷◌, ◌++◌, length, get_or, Some, None, Bool, true, false, not, refl, sym, ap, ◌∙◌, subst, append_assoc, arith, codes, decimal}
use Rattle.std.specs.Prelude.{◌==◌, ◌&&◌, nat_le, if◌then◌else◌}
use Rattle.std.specs.Char.{is_ascii_digit}
use Rattle.std.specs.List.{All, list_all, slice_split}
use Rattle.std.specs.Str.{bytes_eq}
use Rattle.std.specs.Str.Parse.{digits_value}
use Rattle.std.proofs.lemmas.Bool.Decides.{nat_tests}
use Rattle.std.proofs.lemmas.Fmt.{decimal-digits_value, decimal_digit, decimal_nonempty, digits_decimal, digits_value-decimal, first_decimal}
use Rattle.std.proofs.lemmas.List.Folds.{list_all-append}
use Rattle.std.proofs.lemmas.List.Splits.{slice_split_at, slice_split_none}
use Rattle.std.proofs.lemmas.List.Sums.{AllPass-from_list_all}
use Rattle.std.proofs.lemmas.Slice.Eq.{bytes_eq-Decides}
use Rattle.pmsi_model.specs.declared.Action.{Action}
use Rattle.pmsi_model.specs.declared.Action.TheVariants.{Idle, Post, Fill, PostFill, Back}
use Rattle.pmsi_model.specs.declared.Name.{Name}
use Rattle.pmsi_model.specs.declared.Name.TheVariants.{GetS, GetM, Upg}
use Rattle.pmsi_model.specs.Lines.{action_line, action_text, kept_text, name_text}
use Rattle.trace_text.specs.declared.trace.TheConstants.{MAX_LINE}
use Rattle.trace_text.specs.Text.{HasLine}
use Rattle.trace_text.specs.Reading.{action_in, fields_of, has_plain_start, is_numeral, is_space, kept_in, name_in, number_in, idle_in, fill_in, long_in}
use Rattle.trace_text.proofs.Numerals.{AreDigits, are_digits, own, some_digit}

-- ---- parts without a mark

abbrev pub lacks : ℕ → List ℕ → Bool
lacks mark bytes = list_all (λ byte. not (byte == mark)) bytes

pub plain : (mark : ℕ) (bytes : List ℕ) → lacks mark bytes ≡ true → All (λ byte. (byte == mark) ≡ false) bytes
plain mark bytes is k d low = let here = AllPass-from_list_all (λ byte. not (byte == mark)) bytes is k d low in grind arith

pub cut_at : (mark : ℕ) (part rest : List ℕ) → lacks mark part ≡ true → slice_split (λ byte. byte == mark) (part ++ mark ∷ rest) ≡ part ∷ slice_split (λ byte. byte == mark) rest
cut_at mark part rest is = slice_split_at (λ byte. byte == mark) part mark rest (plain mark part is) (grind (arith, nat_tests))

pub whole_part : (mark : ℕ) (part : List ℕ) → lacks mark part ≡ true → slice_split (λ byte. byte == mark) part ≡ part ∷ []
whole_part mark part is = slice_split_none (λ byte. byte == mark) part (plain mark part is)

pub lacks_both : (mark : ℕ) (a b : List ℕ) → lacks mark a ≡ true → lacks mark b ≡ true → lacks mark (a ++ b) ≡ true
lacks_both mark a b first second = list_all-append (λ byte. not (byte == mark)) a b ∙ rw (first, second) refl

-- ---- numbers

digit_is_no : (mark byte : ℕ) → mark < 48 → is_ascii_digit byte ≡ true → not (byte == mark) ≡ true
digit_is_no mark byte low is = grind (arith, nat_tests)

and_parts : (a b : Bool) → (a && b) ≡ true → (a ≡ true) × (b ≡ true)
and_parts true b is = (refl, is)
and_parts false b is = absurd cc

pub digits_lack : (mark : ℕ) (field : List ℕ) → mark < 48 → AreDigits field → lacks mark field ≡ true
digits_lack mark [] low is = refl
digits_lack mark (byte ∷ field) low is =
    let parts = and_parts (is_ascii_digit byte) (list_all is_ascii_digit field) is in
    rw (digit_is_no mark byte low parts.0, digits_lack mark field low parts.1) refl

pub decimal_lacks : (mark n : ℕ) → mark < 48 → n < 2 ^ 64 → lacks mark (decimal n) ≡ true
decimal_lacks mark n low small = digits_lack mark (decimal n) low (digits_decimal own n small)

plain_by : (field : List ℕ) → 0 < length field → 48 < get_or field 0 0 → has_plain_start field ≡ true
plain_by [] some high = absurd (omega arith)
plain_by (digit ∷ []) some high = refl
plain_by (digit ∷ next ∷ digits) some high = grind (arith, nat_tests)

plain_decimal : (n : ℕ) → n < 2 ^ 64 → has_plain_start (decimal n) ≡ true
plain_decimal zero small = rw (decimal_digit 0 (omega arith)) refl
plain_decimal (suc n) small = plain_by (decimal (suc n)) (decimal_nonempty (suc n) small) (first_decimal (suc n) (omega arith) small)

pub numeral_of : (n : ℕ) → n < 2 ^ 64 → is_numeral (decimal n) ≡ true
numeral_of n small = rw (plain_decimal n small, digits_decimal own n small) refl

pub number_again : (most n : ℕ) → n ≤ most → n < 2 ^ 64 → number_in most (decimal n) ≡ Some n
unfolding number_in
number_again most n low small =
    let fits : nat_le n most ≡ true = grind (arith, nat_tests) in
    rw (numeral_of n small, digits_value-decimal own n small, fits) refl

zero_alone : (field : List ℕ) → has_plain_start field ≡ true → get_or field 0 0 ≡ 48 → length field ≡ 1
zero_alone [] is first = absurd cc
zero_alone (digit ∷ []) is first = refl
zero_alone (digit ∷ next ∷ digits) is first = absurd (grind (arith, nat_tests))

-- a field that is a number is how that number is spelled
pub spelled : (field : List ℕ) → is_numeral field ≡ true → digits_value 10 field < 2 ^ 64 → field ≡ decimal (digits_value 10 field)
spelled field is small =
    let parts = and_parts (has_plain_start field) (list_all is_ascii_digit field) is in
    sym (decimal-digits_value own field (are_digits field is) (some_digit field is) (zero_alone field parts.0) small)

if_parts : {A : Type 0} (test : Bool) (a b : A) → (if test then Some a else None) ≡ Some b → (test ≡ true) × (a ≡ b)
if_parts true a b is = (refl, cc)
if_parts false a b is = absurd cc

pub number_spelled : (most : ℕ) (field : List ℕ) (n : ℕ) → most < 2 ^ 64 → number_in most field ≡ Some n → (field ≡ decimal n) × (n ≤ most)
unfolding number_in
number_spelled most field n small is =
    let read = if_parts (is_numeral field && nat_le (digits_value 10 field) most) (digits_value 10 field) n is in
    let tests = and_parts (is_numeral field) (nat_le (digits_value 10 field) most) read.0 in
    let low : digits_value 10 field ≤ most = grind (arith, nat_tests) in
    (spelled field tests.0 (omega arith) ∙ ap decimal read.1, subst (λ k. k ≤ most) read.1 low)

-- ---- texts

pub same_bytes : (text : List ℕ) → bytes_eq text text ≡ true
same_bytes text = (bytes_eq-Decides text text).1 refl

pub is_text : (field text : List ℕ) → bytes_eq field text ≡ true → field ≡ text
is_text field text = (bytes_eq-Decides field text).0

-- ---- actions

line_small : (n : ℕ) → n ≤ MAX_LINE → n < 2 ^ 64
line_small n low = omega arith

line_again : (n : ℕ) → n ≤ MAX_LINE → number_in MAX_LINE (decimal n) ≡ Some n
line_again n low = number_again MAX_LINE n low (line_small n low)

one_more : (n : ℕ) → n ≤ MAX_LINE → slice_split is_space (decimal n) ≡ decimal n ∷ []
one_more n low = whole_part 32 (decimal n) (decimal_lacks 32 n (omega arith) (line_small n low))

back_text : (n : ℕ) (kept : Bool) → action_text (Back n kept) ≡ codes "back " ++ (decimal n ++ (32 ∷ kept_text kept))
back_text n kept = simp append_assoc

back_fields : (n : ℕ) (kept : Bool) → n ≤ MAX_LINE → slice_split is_space (kept_text kept) ≡ kept_text kept ∷ [] → fields_of (action_text (Back n kept)) ≡ codes "back" ∷ decimal n ∷ kept_text kept ∷ []
back_fields n kept low whole =
    ap fields_of (back_text n kept)
    ∙ ap (λ (parts : List (List ℕ)). codes "back" ∷ parts) (cut_at 32 (decimal n) (kept_text kept) (decimal_lacks 32 n (omega arith) (line_small n low)) ∙ ap (λ (parts : List (List ℕ)). decimal n ∷ parts) whole)

post_again : (n : ℕ) (name : Name) → n ≤ MAX_LINE → long_in (codes "post") (name_text name) (decimal n) ≡ Some (Post name n)
unfolding long_in name_in
post_again n GetS low = rw (line_again n low) refl
post_again n GetM low = rw (line_again n low) refl
post_again n Upg low = rw (line_again n low) refl

postfill_again : (n : ℕ) (name : Name) → n ≤ MAX_LINE → long_in (codes "postfill") (name_text name) (decimal n) ≡ Some (PostFill name n)
unfolding long_in name_in
postfill_again n GetS low = rw (line_again n low) refl
postfill_again n GetM low = rw (line_again n low) refl
postfill_again n Upg low = rw (line_again n low) refl

back_again : (n : ℕ) (kept : Bool) → n ≤ MAX_LINE → long_in (codes "back") (decimal n) (kept_text kept) ≡ Some (Back n kept)
unfolding long_in kept_in
back_again n true low = rw (line_again n low) refl
back_again n false low = rw (line_again n low) refl

post_fields : (n : ℕ) (name : Name) → n ≤ MAX_LINE → fields_of (action_text (Post name n)) ≡ codes "post" ∷ name_text name ∷ decimal n ∷ []
post_fields n GetS low = ap (λ (parts : List (List ℕ)). codes "post" ∷ codes "GetS" ∷ parts) (one_more n low)
post_fields n GetM low = ap (λ (parts : List (List ℕ)). codes "post" ∷ codes "GetM" ∷ parts) (one_more n low)
post_fields n Upg low = ap (λ (parts : List (List ℕ)). codes "post" ∷ codes "Upg" ∷ parts) (one_more n low)

postfill_fields : (n : ℕ) (name : Name) → n ≤ MAX_LINE → fields_of (action_text (PostFill name n)) ≡ codes "postfill" ∷ name_text name ∷ decimal n ∷ []
postfill_fields n GetS low = ap (λ (parts : List (List ℕ)). codes "postfill" ∷ codes "GetS" ∷ parts) (one_more n low)
postfill_fields n GetM low = ap (λ (parts : List (List ℕ)). codes "postfill" ∷ codes "GetM" ∷ parts) (one_more n low)
postfill_fields n Upg low = ap (λ (parts : List (List ℕ)). codes "postfill" ∷ codes "Upg" ∷ parts) (one_more n low)

fill_again : (n : ℕ) → n ≤ MAX_LINE → fill_in (codes "fill") (decimal n) ≡ Some (Fill n)
unfolding fill_in
fill_again n low = rw (line_again n low) refl

idle_again : idle_in (codes "idle") ≡ Some Idle
unfolding idle_in
idle_again = refl

-- an action's text tells it
pub action_again : (action : Action) → HasLine action → action_in (fields_of (action_text action)) ≡ Some action
action_again Idle low = idle_again
action_again (Post name n) low = ap action_in (post_fields n name low) ∙ post_again n name low
action_again (Fill n) low = ap action_in (ap (λ (parts : List (List ℕ)). codes "fill" ∷ parts) (one_more n low)) ∙ fill_again n low
action_again (PostFill name n) low = ap action_in (postfill_fields n name low) ∙ postfill_again n name low
action_again (Back n true) low = ap action_in (back_fields n true low refl) ∙ back_again n true low
action_again (Back n false) low = ap action_in (back_fields n false low refl) ∙ back_again n false low

line_lacks : (n : ℕ) → n ≤ MAX_LINE → lacks 10 (decimal n) ≡ true
line_lacks n low = decimal_lacks 10 n (omega arith) (line_small n low)

back_lacks : (n : ℕ) (kept : Bool) → n ≤ MAX_LINE → lacks 10 (kept_text kept) ≡ true → lacks 10 (action_text (Back n kept)) ≡ true
back_lacks n kept low whole = ap (lacks 10) (back_text n kept) ∙ lacks_both 10 (codes "back ") (decimal n ++ (32 ∷ kept_text kept)) refl (lacks_both 10 (decimal n) (32 ∷ kept_text kept) (line_lacks n low) whole)

pub action_lacks : (action : Action) → HasLine action → lacks 10 (action_text action) ≡ true
action_lacks Idle low = refl
action_lacks (Post GetS n) low = line_lacks n low
action_lacks (Post GetM n) low = line_lacks n low
action_lacks (Post Upg n) low = line_lacks n low
action_lacks (Fill n) low = line_lacks n low
action_lacks (PostFill GetS n) low = line_lacks n low
action_lacks (PostFill GetM n) low = line_lacks n low
action_lacks (PostFill Upg n) low = line_lacks n low
action_lacks (Back n true) low = back_lacks n true low refl
action_lacks (Back n false) low = back_lacks n false low refl

-- ---- lines

abbrev pub slot_text : ℕ → ℕ → Action → List ℕ
slot_text slot c action = codes "slot " ++ (decimal slot ++ (codes " core " ++ (decimal c ++ (codes " " ++ action_text action))))

regroup : (a b c d e f n rest : List ℕ) → ((((((a ++ b) ++ c) ++ d) ++ e) ++ f) ++ n) ++ rest ≡ (a ++ (b ++ (c ++ (d ++ (e ++ f))))) ++ (n ++ rest)
regroup a b c d e f n rest = simp append_assoc

pub line_is : (slot c : ℕ) (action : Action) (rest : List ℕ) → action_line slot c action ++ rest ≡ slot_text slot c action ++ (10 ∷ rest)
unfolding action_line
line_is slot c action rest = regroup (codes "slot ") (decimal slot) (codes " core ") (decimal c) (codes " ") (action_text action) (codes "\n") rest

pub slot_fields : (slot c : ℕ) (action : Action) → slot < 2 ^ 64 → c < 2 ^ 64 → fields_of (slot_text slot c action) ≡ codes "slot" ∷ decimal slot ∷ codes "core" ∷ decimal c ∷ fields_of (action_text action)
slot_fields slot c action low small =
    ap (λ (parts : List (List ℕ)). codes "slot" ∷ parts) (cut_at 32 (decimal slot) (codes "core " ++ (decimal c ++ (32 ∷ action_text action))) (decimal_lacks 32 slot (omega arith) low))
    ∙ ap (λ (parts : List (List ℕ)). codes "slot" ∷ decimal slot ∷ codes "core" ∷ parts) (cut_at 32 (decimal c) (action_text action) (decimal_lacks 32 c (omega arith) small))

pub slot_lacks : (slot c : ℕ) (action : Action) → slot < 2 ^ 64 → c < 2 ^ 64 → HasLine action → lacks 10 (slot_text slot c action) ≡ true
slot_lacks slot c action low small line =
    lacks_both 10 (codes "slot ") (decimal slot ++ (codes " core " ++ (decimal c ++ (codes " " ++ action_text action)))) refl
    (lacks_both 10 (decimal slot) (codes " core " ++ (decimal c ++ (codes " " ++ action_text action))) (decimal_lacks 10 slot (omega arith) low)
    (lacks_both 10 (codes " core ") (decimal c ++ (codes " " ++ action_text action)) refl
    (lacks_both 10 (decimal c) (codes " " ++ action_text action) (decimal_lacks 10 c (omega arith) small) (action_lacks action line))))
