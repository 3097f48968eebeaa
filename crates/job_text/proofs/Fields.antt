-- Fields, one by one from the front.
use Rattle.std.proofs.Common.{◌≡◌, ◌⊎◌, inl, inr, not, zero, suc, ℕ, ◌+◌, ◌<◌, ◌≤◌, Bool, true, false, cond, List, [], ◌∷◌, length, take, drop, get_or, refl, sym, ap, ◌∙◌, subst, arith, add-one, one-add, length-drop, length-take}
use Rattle.std.specs.List.{prefix_len, position_or_len, slice_split}
use Rattle.std.specs.Str.{IsUtf8, IsCharBoundary}
use Rattle.std.proofs.lemmas.Str.{IsCharBoundary-start, IsCharBoundary-end, IsCharBoundary-before_ascii, IsCharBoundary-after_ascii}
use Rattle.std.proofs.lemmas.List.Splits.{slice_split-cons_yes, slice_split_none, slice_split_first}
use Rattle.std.proofs.lemmas.List.Sums.{prefix_len_passes, prefix_len_stops, prefix_len-le-length, passes_at_first, fails_before_first}
use Rattle.std.proofs.Math.Seq.{drop-cons}
use Rattle.std.proofs.lemmas.List.{take_all}
use Rattle.std.proofs.lemmas.Bool.Decides.{nat_tests}
use Rattle.job_text.specs.Cutting.{is_blank, fields_between}

-- a blank in front
pub blank_first : (byte : ℕ) (text : List ℕ) → is_blank byte ≡ true → fields_between (byte ∷ text) ≡ fields_between text
unfolding fields_between
blank_first byte text e = rw (slice_split-cons_yes is_blank byte text e) refl

skip_by : (byte : ℕ) (text : List ℕ) (blank : Bool) → is_blank byte ≡ blank → fields_between (drop (prefix_len is_blank text) text) ≡ fields_between text
    → fields_between (drop (cond blank (1 + prefix_len is_blank text) 0) (byte ∷ text)) ≡ fields_between (byte ∷ text)
skip_by byte text true e rest = rw one-add (rest ∙ sym (blank_first byte text e))
skip_by byte text false e rest = refl

-- blanks in front
pub skip : (text : List ℕ) → fields_between (drop (prefix_len is_blank text) text) ≡ fields_between text
skip [] = refl
skip (byte ∷ text) = skip_by byte text (is_blank byte) refl (skip text)

-- a field in front
pub first_before : (field rest : List ℕ) (text : List ℕ) → 0 < length field → slice_split is_blank text ≡ field ∷ slice_split is_blank rest → fields_between text ≡ field ∷ fields_between rest
unfolding fields_between
first_before [] rest text some e = absurd (omega arith)
first_before (byte ∷ field) rest text some e = rw e refl

none_left : fields_between [] ≡ []
unfolding fields_between
none_left = refl

first_some : (text : List ℕ) → 0 < length text → is_blank (get_or text 0 0) ≡ false → 0 < position_or_len is_blank text
first_some [] some e = absurd (omega arith)
first_some (byte ∷ text) some e = grind (arith, nat_tests)

first_up_to : (text : List ℕ) → 0 < position_or_len is_blank text → position_or_len is_blank text < length text
    → fields_between text ≡ take (position_or_len is_blank text) text ∷ fields_between (drop (position_or_len is_blank text) text)
first_up_to text some low =
    let end = position_or_len is_blank text in
    let field : 0 < length (take (position_or_len is_blank text) text) = omega (arith, length-take (position_or_len is_blank text) text) in
    let here : drop end text ≡ get_or text end 0 ∷ drop (end + 1) text = rw add-one (drop-cons text end 0 low) in
    let behind : fields_between (drop end text) ≡ fields_between (drop (end + 1) text) = ap fields_between here ∙ blank_first (get_or text end 0) (drop (end + 1) text) (passes_at_first is_blank text 0 low) in
    first_before (take end text) (drop (end + 1) text) text field (slice_split_first is_blank text 0 low) ∙ ap (λ (fields : List (List ℕ)). take end text ∷ fields) (sym behind)

first_whole : (text : List ℕ) → 0 < length text → position_or_len is_blank text ≡ length text → fields_between text ≡ text ∷ []
unfolding fields_between
first_whole [] some e = absurd (omega arith)
first_whole (byte ∷ text) some e =
    rw (slice_split_none is_blank (byte ∷ text) (λ k d low. fails_before_first is_blank (byte ∷ text) k d (omega arith))) refl

drop_end : (text : List ℕ) (n : ℕ) → n ≡ length text → drop n text ≡ []
drop_end [] n e = rw e refl
drop_end (byte ∷ text) n e = rw e (drop_end text (length text) refl)

first_by : (text : List ℕ) → 0 < length text → 0 < position_or_len is_blank text → (position_or_len is_blank text < length text) ⊎ (position_or_len is_blank text ≡ length text)
    → fields_between text ≡ take (position_or_len is_blank text) text ∷ fields_between (drop (position_or_len is_blank text) text)
first_by text some far (inl low) = first_up_to text far low
first_by text some far (inr all) =
    rw (drop_end text (position_or_len is_blank text) all, take_all (position_or_len is_blank text) text (omega arith)) (first_whole text some all ∙ ap (λ (fields : List (List ℕ)). text ∷ fields) (sym none_left))

-- the text up to its first blank is a field, where it doesn't begin with one
pub first_field : (text : List ℕ) → 0 < length text → is_blank (get_or text 0 0) ≡ false
    → fields_between text ≡ take (position_or_len is_blank text) text ∷ fields_between (drop (position_or_len is_blank text) text)
first_field text some e =
    let inside : position_or_len is_blank text ≤ length text = prefix_len-le-length (λ byte. not (is_blank byte)) text in
    first_by text some (first_some text some e) (grind arith)

-- ---- where a text may be cut

blank_ascii : (byte : ℕ) → is_blank byte ≡ true → byte < 128
blank_ascii byte e = grind (arith, nat_tests)

boundary_at : (text : List ℕ) (n : ℕ) → IsUtf8 text → n ≤ length text → ((k : ℕ) → k < n → is_blank (get_or text k 0) ≡ true) → IsCharBoundary text n
boundary_at text zero fits inside blanks = IsCharBoundary-start text fits
boundary_at text (suc n) fits inside blanks = subst (IsCharBoundary text) (add-one n) (IsCharBoundary-after_ascii text n fits (omega arith) (blank_ascii (get_or text n 0) (blanks n (omega arith))))

pub behind_blanks : (text : List ℕ) → IsUtf8 text → IsCharBoundary text (prefix_len is_blank text)
behind_blanks text fits =
    boundary_at text (prefix_len is_blank text) fits (prefix_len-le-length is_blank text) (λ k low. prefix_len_passes is_blank text k 0 low)

boundary_by : (text : List ℕ) (n : ℕ) → (n < length text) ⊎ (n ≡ length text) → (n < length text → is_blank (get_or text n 0) ≡ true) → IsCharBoundary text n
boundary_by text n (inl low) blank = IsCharBoundary-before_ascii text n low (blank_ascii (get_or text n 0) (blank low))
boundary_by text n (inr all) blank = rw all (IsCharBoundary-end text)

pub before_blank : (text : List ℕ) → IsCharBoundary text (position_or_len is_blank text)
before_blank text =
    let inside : position_or_len is_blank text ≤ length text = prefix_len-le-length (λ byte. not (is_blank byte)) text in
    boundary_by text (position_or_len is_blank text) (grind arith) (passes_at_first is_blank text 0)

-- ---- the field that a text's first blanks and its next bytes give

pub at_blanks : (text bytes : List ℕ) (n : ℕ) → IsUtf8 text → bytes ≡ text → n ≡ prefix_len is_blank bytes → IsCharBoundary text n
at_blanks text bytes n fits same e = rw (e, same) (behind_blanks text fits)

pub at_end : (text bytes : List ℕ) (n : ℕ) → bytes ≡ text → n ≡ position_or_len is_blank bytes → IsCharBoundary text n
at_end text bytes n same e = rw (e, same) (before_blank text)

first_plain : (text : List ℕ) → 0 < length (drop (prefix_len is_blank text) text) → is_blank (get_or (drop (prefix_len is_blank text) text) 0 0) ≡ false
first_plain text some =
    let n = prefix_len is_blank text in
    let low : prefix_len is_blank text < length text = omega (arith, length-drop (prefix_len is_blank text) text) in
    let here : drop n text ≡ get_or text n 0 ∷ drop (n + 1) text = rw add-one (drop-cons text n 0 low) in
    rw here (prefix_len_stops is_blank text 0 low)

pub no_field : (text bytes rest : List ℕ) (n : ℕ) → bytes ≡ text → n ≡ prefix_len is_blank bytes → rest ≡ drop n text → length rest ≡ 0 → fields_between text ≡ []
no_field text bytes [] n same e cut empty = sym (skip text) ∙ ap fields_between (ap (λ (m : ℕ). drop m text) (ap (prefix_len is_blank) (sym same) ∙ sym e) ∙ sym cut) ∙ none_left
no_field text bytes (byte ∷ rest) n same e cut empty = absurd (omega arith)

plain_rest : (text bytes rest : List ℕ) (n : ℕ) → bytes ≡ text → n ≡ prefix_len is_blank bytes → rest ≡ drop n text → 0 < length rest → is_blank (get_or rest 0 0) ≡ false
plain_rest text bytes rest n same e cut some =
    let is : drop (prefix_len is_blank text) text ≡ rest = ap (λ (m : ℕ). drop m text) (ap (prefix_len is_blank) (sym same) ∙ sym e) ∙ sym cut in
    let more : 0 < length (drop (prefix_len is_blank text) text) = rw is some in
    subst (λ (part : List ℕ). is_blank (get_or part 0 0) ≡ false) is (first_plain text more)

pub one_field : (text bytes rest rest_bytes field after : List ℕ) (n end : ℕ) → bytes ≡ text → n ≡ prefix_len is_blank bytes → rest ≡ drop n text → 0 < length rest
    → rest_bytes ≡ rest → end ≡ position_or_len is_blank rest_bytes → field ≡ take end rest → after ≡ drop end rest → fields_between text ≡ field ∷ fields_between after
one_field text bytes rest rest_bytes field after n end same e cut some rest_same end_is front back =
    let is : drop (prefix_len is_blank text) text ≡ rest = ap (λ (m : ℕ). drop m text) (ap (prefix_len is_blank) (sym same) ∙ sym e) ∙ sym cut in
    let stop : end ≡ position_or_len is_blank rest = end_is ∙ ap (position_or_len is_blank) rest_same in
    rw (front, back, stop) (sym (skip text) ∙ ap fields_between is ∙ first_field rest some (plain_rest text bytes rest n same e cut some))

pub field_shorter : (text bytes rest rest_bytes after : List ℕ) (n end : ℕ) → bytes ≡ text → n ≡ prefix_len is_blank bytes → rest ≡ drop n text → 0 < length rest
    → rest_bytes ≡ rest → end ≡ position_or_len is_blank rest_bytes → after ≡ drop end rest → length after < length text
field_shorter text bytes rest rest_bytes after n end same e cut some rest_same end_is back =
    let stop : end ≡ position_or_len is_blank rest = end_is ∙ ap (position_or_len is_blank) rest_same in
    let far : 0 < end = rw stop (first_some rest some (plain_rest text bytes rest n same e cut some)) in
    omega (arith, ap length back, ap length cut, length-drop n text, length-drop end rest)
