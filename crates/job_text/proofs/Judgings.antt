-- What all lines say, looked at place by place.
use Rattle.std.proofs.Common.{◌≡◌, ℕ, ◌+◌, ◌<◌, ◌≤◌, Bool, true, false, cond, List, [], ◌∷◌, ◌++◌, map, length, take, drop, get_or, Option, Some, None, refl, sym, ◌∙◌, ap, subst, arith, append-nil, option_map}
use Rattle.std.specs.Prelude.{is_none, nat_le}
use Rattle.std.specs.List.{filter, find, range_with_len}
use Rattle.std.proofs.lemmas.List.Elements.{filter_more}
use Rattle.std.proofs.lemmas.List.FromFn.{length-range_with_len, get_or-range_with_len}
use Rattle.job_text.specs.declared.job_fault.HeadWord.{HeadWord}
use Rattle.job_text.specs.declared.job_fault.HeadWord.TheVariants as head
use Rattle.job_text.specs.declared.job_fault.JobFault.TheVariants.{Limit}
use Rattle.job_text.specs.declared.saying.Saying.{Saying}
use Rattle.job_text.specs.Faults.{core_limit, cores_in, first_of, head_limit, is_within, least, least_with, program_of, shape_heads, value_of}
use Rattle.job_text.proofs.Searches.{find_next, find_here, find_end, first_next, first_here}

-- ---- limits of heads

pub limit_next : (said : List Saying) (items : List HeadWord) (i line_words number : ℕ) (d : HeadWord) (within : Bool) → items ≡ shape_heads → i < length items → line_words ≡ value_of head.Line said
    → number ≡ value_of (get_or items i d) said → within ≡ is_within line_words (get_or items i d) number → within ≡ true
    → first_of (map (head_limit said) (drop i shape_heads)) ≡ first_of (map (head_limit said) (drop (i + 1) shape_heads))
limit_next said items i line_words number d within same low line is test ok =
    let passes : is_within (value_of head.Line said) (get_or shape_heads i d) (value_of (get_or shape_heads i d) said) ≡ true =
    subst (λ (xs : List HeadWord). is_within (value_of head.Line said) (get_or xs i d) (value_of (get_or xs i d) said) ≡ true) same
    (ap (λ n. is_within (value_of head.Line said) (get_or items i d) n) (sym is) ∙ ap (λ l. is_within l (get_or items i d) number) (sym line) ∙ sym test ∙ ok) in
    first_next (head_limit said) shape_heads i d (subst (λ (xs : List HeadWord). i < length xs) same low) (rw passes refl)

pub limit_here : (said : List Saying) (items : List HeadWord) (i line_words number : ℕ) (d : HeadWord) (within : Bool) → items ≡ shape_heads → i < length items → line_words ≡ value_of head.Line said
    → number ≡ value_of (get_or items i d) said → within ≡ is_within line_words (get_or items i d) number → within ≡ false
    → first_of (map (head_limit said) (drop i shape_heads)) ≡ Some (Limit (get_or items i d) number)
limit_here said items i line_words number d within same low line is test bad =
    let fails : is_within (value_of head.Line said) (get_or shape_heads i d) (value_of (get_or shape_heads i d) said) ≡ false =
    subst (λ (xs : List HeadWord). is_within (value_of head.Line said) (get_or xs i d) (value_of (get_or xs i d) said) ≡ false) same
    (ap (λ n. is_within (value_of head.Line said) (get_or items i d) n) (sym is) ∙ ap (λ l. is_within l (get_or items i d) number) (sym line) ∙ sym test ∙ bad) in
    let value : value_of (get_or shape_heads i d) said ≡ number = sym (subst (λ (xs : List HeadWord). number ≡ value_of (get_or xs i d) said) same is) in
    first_here (head_limit said) shape_heads i d (Limit (get_or items i d) number) (subst (λ (xs : List HeadWord). i < length xs) same low) (rw (fails, value, same) refl)

-- ---- the least number from a start on

swapped : (m n : ℕ) (found : Option ℕ) → least_with m (least_with n found) ≡ least_with n (least_with m found)
swapped m n None = ap Some (omega arith)
swapped m n (Some k) = ap Some (omega arith)

least_push : (ns : List ℕ) (n : ℕ) → least (ns ++ n ∷ []) ≡ least_with n (least ns)
unfolding least
least_push [] n = refl
least_push (m ∷ ns) n = rw (least_push ns n) (swapped m n (least ns))

pub least_more : (numbers : List ℕ) (start i : ℕ) (found : Option ℕ) → i < length numbers → found ≡ least (filter (λ number. nat_le start number) (take i numbers)) → nat_le start (get_or numbers i 0) ≡ true
    → least_with (get_or numbers i 0) found ≡ least (filter (λ number. nat_le start number) (take (i + 1) numbers))
least_more numbers start i found low is passes =
    let more : filter (λ number. nat_le start number) (take (i + 1) numbers) ≡ filter (λ number. nat_le start number) (take i numbers) ++ get_or numbers i 0 ∷ [] =
    filter_more (λ number. nat_le start number) numbers i 0 low ∙ rw passes refl in
    rw more (ap (least_with (get_or numbers i 0)) is ∙ sym (least_push (filter (λ number. nat_le start number) (take i numbers)) (get_or numbers i 0)))

pub least_same : (numbers : List ℕ) (start i : ℕ) (found : Option ℕ) → i < length numbers → found ≡ least (filter (λ number. nat_le start number) (take i numbers)) → nat_le start (get_or numbers i 0) ≡ false
    → found ≡ least (filter (λ number. nat_le start number) (take (i + 1) numbers))
least_same numbers start i found low is fails =
    let same : filter (λ number. nat_le start number) (take (i + 1) numbers) ≡ filter (λ number. nat_le start number) (take i numbers) =
    filter_more (λ number. nat_le start number) numbers i 0 low ∙ rw (fails, append-nil) refl in
    rw same is

step_by : (numbers : List ℕ) (start i : ℕ) (found next : Option ℕ) (passes : Bool) → nat_le start (get_or numbers i 0) ≡ passes → i < length numbers → found ≡ least (filter (λ number. nat_le start number) (take i numbers))
    → next ≡ cond passes (least_with (get_or numbers i 0) found) found → next ≡ least (filter (λ number. nat_le start number) (take (i + 1) numbers))
step_by numbers start i found next true test low is e = e ∙ least_more numbers start i found low is test
step_by numbers start i found next false test low is e = e ∙ least_same numbers start i found low is test

pub least_step : (numbers : List ℕ) (start i : ℕ) (found next : Option ℕ) → i < length numbers → found ≡ least (filter (λ number. nat_le start number) (take i numbers))
    → next ≡ cond (nat_le start (get_or numbers i 0)) (least_with (get_or numbers i 0) found) found → next ≡ least (filter (λ number. nat_le start number) (take (i + 1) numbers))
least_step numbers start i found next low is e = step_by numbers start i found next (nat_le start (get_or numbers i 0)) refl low is e

pub least_start : None ≡ least []
unfolding least
least_start = refl

-- ---- cores

pub core_next : (said : List Saying) (cores i : ℕ) → i < cores → is_none (program_of i said) ≡ false
    → find (λ core. is_none (program_of core said)) (drop i (range_with_len 0 cores)) ≡ find (λ core. is_none (program_of core said)) (drop (i + 1) (range_with_len 0 cores))
core_next said cores i low has =
    let here : get_or (range_with_len 0 cores) i 0 ≡ i = get_or-range_with_len 0 cores i 0 low ∙ omega arith in
    find_next (λ core. is_none (program_of core said)) (range_with_len 0 cores) i 0 (rw (length-range_with_len 0 cores) low) (rw here has)

pub core_here : (said : List Saying) (cores i : ℕ) → i < cores → is_none (program_of i said) ≡ true → find (λ core. is_none (program_of core said)) (drop i (range_with_len 0 cores)) ≡ Some i
core_here said cores i low lacks =
    let here : get_or (range_with_len 0 cores) i 0 ≡ i = get_or-range_with_len 0 cores i 0 low ∙ omega arith in
    find_here (λ core. is_none (program_of core said)) (range_with_len 0 cores) i 0 (rw (length-range_with_len 0 cores) low) (rw here lacks) ∙ ap Some here

pub core_end : (said : List Saying) (cores i : ℕ) → cores ≤ i → find (λ core. is_none (program_of core said)) (drop i (range_with_len 0 cores)) ≡ None
core_end said cores i end = find_end (λ core. is_none (program_of core said)) (range_with_len 0 cores) i (rw (length-range_with_len 0 cores) end)

-- the least core of the lines that isn't below the number of cores
pub core_limit_of : (said : List Saying) (numbers : List ℕ) (cores : ℕ) (found : Option ℕ) → numbers ≡ cores_in said → cores ≡ value_of head.Cores said → found ≡ least (filter (λ number. nat_le cores number) numbers)
    → option_map (λ core. Limit (head.Core core) core) found ≡ core_limit said
unfolding core_limit
core_limit_of said numbers cores found same e is = rw (is, same, e) refl
