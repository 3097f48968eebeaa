-- The bytes of data, line by line: those of the last line that has its own, or zeros that were named.
use Rattle.std.proofs.Common.{◌≡◌, ℕ, zero, suc, ◌+◌, ◌-◌, ◌<◌, ◌≤◌, Bool, true, false, List, [], ◌∷◌, ◌++◌, length, map, replicate, Option, Some, None, refl, ap, sym, ◌∙◌, arith, length-append}
use Rattle.std.specs.Prelude.{ℤ, cond, nat_le, nat_lt, ◌&&◌, ◌||◌, if◌then◌else◌, is_some, slice_get, IsSome}
use Rattle.std.specs.Option.{option_or, option_map}
use Rattle.std.specs.List.{All, filter, find, flat_map, range_with_len}
use Rattle.std.proofs.lemmas.Bool.Decides.{nat_tests}
use Rattle.std.proofs.lemmas.List.Elements.{All-head, All-tail}
use Rattle.std.proofs.lemmas.Simd.{map-map}
use Rattle.std.proofs.lemmas.Option.{slice_get_past}
use Rattle.asm_parse.specs.declared.fault.AsmCause.{AsmCause}
use Rattle.asm_parse.specs.Lines.{lines_of}
use Rattle.asm_parse.specs.Assembly.{Before, Step, Statement, Nothing, Switch, Emit, Zeros, MoveTo, Define, at_start, after_step, byte_at, byte_in, bytes_by, code_at, code_bytes, codes_of, first_of, has_byte, here, items_of, overlap_fault, placed, placed_from, placing_fault, run_by, size_of, step_of, steps_from, steps_of, zeros_of}
use Rattle.asm_link.specs.Rounds.{before_of}
use Rattle.asm_link.proofs.Overwriting.{get_within}
use Rattle.asm_link.proofs.FirstOf.{first_or, or_none, or_three}

-- the bytes that a line has of its own
abbrev own_bytes : List (List ℕ × ℤ) → Step → List ℕ
own_bytes names step = flat_map code_bytes (codes_of names step)

-- the byte that the last line of data with a byte of its own at an address puts there
unfoldable pub last_of : List (List ℕ × ℤ) → List Step → ℕ → Option ℕ
last_of names [] address = None
last_of names (step ∷ steps) address =
    option_or (last_of names steps address) (if step.place.in_data then byte_in address (step.place.data_at, flat_map code_bytes (codes_of names step)) else None)

abbrev pub IsSized : List (List ℕ × ℤ) → Step → Type 0
IsSized names step = step.place.in_data ≡ true → length (bytes_by names step) ≡ size_of step.does

-- ---- bytes of one line

zero_at : (count k : ℕ) → k < count → slice_get {X = ℕ} (replicate count 0 ++ []) k ≡ Some 0
zero_at zero k lt = absurd (omega (arith, lt))
zero_at (suc count) zero lt = refl
zero_at (suc count) (suc k) lt = zero_at count k (omega (arith, lt))

or_some : {A : Type 0} (x : Option A) (a : A) → IsSome x → option_or x (Some a) ≡ x
or_some None a some = absurd (cc)
or_some (Some b) a some = refl

-- a byte of a line is its own, or a zero
own_or_zero : (names : List (List ℕ × ℤ)) (address : ℕ) (does : Statement) (k : ℕ)
    → length (zeros_of does ++ flat_map code_bytes (map (λ item. code_at names item.0 item.1) (placed_from address (items_of does)))) ≡ size_of does → k < size_of does
    → option_or (slice_get (flat_map code_bytes (map (λ item. code_at names item.0 item.1) (placed_from address (items_of does)))) k) (Some 0)
    ≡ slice_get (zeros_of does ++ flat_map code_bytes (map (λ item. code_at names item.0 item.1) (placed_from address (items_of does)))) k
unfolding placed_from
own_or_zero names address Nothing k sized lt = absurd (omega (arith, lt))
own_or_zero names address (Switch in_data) k sized lt = absurd (omega (arith, lt))
own_or_zero names address (Emit items) k sized lt = or_some _ 0 (get_within _ k (rw sized lt))
own_or_zero names address (Zeros count) k sized lt = sym (zero_at count k lt)
own_or_zero names address (MoveTo to) k sized lt = absurd (omega (arith, lt))
own_or_zero names address (Define name n) k sized lt = absurd (omega (arith, lt))

-- ---- no bytes overlap

last_none : {A : Type 0} (xs : List (Option A)) (x : Option A) → first_of (xs ++ x ∷ []) ≡ None → x ≡ None
unfolding first_of
last_none [] None none = refl
last_none [] (Some a) none = absurd (cc)
last_none (None ∷ xs) x none = last_none xs x none
last_none (Some a ∷ xs) x none = absurd (cc)

passed : {A : Type 0} (test : Bool) (x : A) (others : Option A) → cond test (Some x) others ≡ None → (test ≡ false) × (others ≡ None)
passed true x others none = absurd (cc)
passed false x others none = (refl, none)

add-zero : (n : ℕ) → n + 0 ≡ n
add-zero n = omega arith

one_on : (n k : ℕ) → n + suc k ≡ n + 1 + k
one_on n k = omega arith

not_found : (test : ℕ → Bool) (from count k : ℕ) → find test (range_with_len from count) ≡ None → k < count → test (from + k) ≡ false
not_found test from zero k none lt = absurd (omega (arith, lt))
not_found test from (suc count) zero none lt = ap test (add-zero from) ∙ (passed (test from) from (find test (range_with_len (from + 1) count)) none).0
not_found test from (suc count) (suc k) none lt =
    ap test (one_on from k) ∙ not_found test (from + 1) count k (passed (test from) from (find test (range_with_len (from + 1) count)) none).1 (omega (arith, lt))

mapped_none : {A B : Type 0} (f : A → B) (x : Option A) → option_map f x ≡ None → x ≡ None
mapped_none f None none = refl
mapped_none f (Some a) none = absurd (cc)

no_overlap : (b : Before) (does : Statement) (address : ℕ) → b.place.in_data ≡ true → overlap_fault b does ≡ None → b.place.data_at ≤ address → address < b.place.data_at + size_of does → has_byte b.runs address ≡ false
no_overlap b does address there none least most =
    let found : find (has_byte b.runs) (range_with_len b.place.data_at (size_of does)) ≡ None = mapped_none (λ address. AsmCause.Overlap address) _ (rw there at none) in
    let at : b.place.data_at + (address - b.place.data_at) ≡ address = omega arith in
    sym (ap (has_byte b.runs) at) ∙ not_found (has_byte b.runs) b.place.data_at (size_of does) (address - b.place.data_at) found (omega arith)

-- the step of a line has no fault, so its bytes overlap none before
step_apart : (number : ℕ) (b : Before) (line : List ℕ) → (step_of number b line).fault ≡ None → overlap_fault b (step_of number b line).does ≡ None
unfolding step_of placing_fault
step_apart number b line none = last_none (_ ∷ _ ∷ _ ∷ []) _ (last_none (_ ∷ []) _ none)

-- ---- line by line

-- what the lines so far have put at an address: the byte, the last of a line's own, and whether it was named
record Known (named : Bool) (last byte : Option ℕ) : Type 0 where
  some : is_some byte ≡ named
  put : option_or last (if named then Some 0 else None) ≡ byte

known_there : (named : Bool) (last byte : Option ℕ) → Known named last byte → Known named last (option_or byte None)
known_there named last byte known = rw (or_none byte) known

known_here : (last byte own new : Option ℕ) → Known false last byte → IsSome new → option_or own (Some 0) ≡ new → Known true (option_or own last) (option_or byte new)
known_here None None own new known some is = record { some = some; put = ap (λ (k : Option ℕ). option_or k (Some 0)) (or_none own) ∙ is }
known_here (Some a) None own new known some is = absurd (cc known.put)
known_here last (Some b) own new known some is = absurd (cc known.some)

in_bytes : (memory address : ℕ) (bytes : List ℕ) → memory ≤ address → byte_in address (memory, bytes) ≡ slice_get bytes (address - memory)
in_bytes memory address bytes least = grind (arith, nat_tests)

off_bytes : (memory size address : ℕ) (bytes : List ℕ) → (nat_le memory address && nat_lt address (memory + size)) ≡ false → length bytes ≤ size → byte_in address (memory, bytes) ≡ None
off_bytes memory size address bytes off short = grind (arith, nat_tests, slice_get_past bytes (address - memory))

runs_more : (memory size address : ℕ) (runs : List (ℕ × ℕ)) → has_byte ((if nat_lt 0 size then (memory, size) ∷ [] else []) ++ runs) address ≡ ((nat_le memory address && nat_lt address (memory + size)) || has_byte runs address)
runs_more memory size address runs = grind (arith, nat_tests)

data_more : (runs : List (ℕ × ℕ)) (last byte : Option ℕ) (memory size address : ℕ) (own bytes : List ℕ) (within : Bool) → (nat_le memory address && nat_lt address (memory + size)) ≡ within → Known (has_byte runs address) last byte
    → length bytes ≡ size → length own ≤ size → ((k : ℕ) → k < size → option_or (slice_get own k) (Some 0) ≡ slice_get bytes k)
    → (memory ≤ address → address < memory + size → has_byte runs address ≡ false)
    → Known (has_byte ((if nat_lt 0 size then (memory, size) ∷ [] else []) ++ runs) address) (option_or (byte_in address (memory, own)) last) (option_or byte (byte_in address (memory, bytes)))
data_more runs last byte memory size address own bytes true is known sized short own_or apart =
    let least : memory ≤ address = grind (arith, nat_tests, is) in
    let most : address < memory + size = grind (arith, nat_tests, is) in
    let within : address - memory < size = omega arith in
    let free : has_byte runs address ≡ false = apart least most in
    let before : Known false last byte = rw free at known in
    let some : IsSome (slice_get bytes (address - memory)) = get_within bytes (address - memory) (omega arith) in
    rw (runs_more memory size address runs) (rw is (rw (in_bytes memory address own least) (rw (in_bytes memory address bytes least)
    (known_here last byte (slice_get own (address - memory)) (slice_get bytes (address - memory)) before some (own_or (address - memory) within)))))
data_more runs last byte memory size address own bytes false is known sized short own_or apart =
    rw (runs_more memory size address runs) (rw is (rw (off_bytes memory size address own is short) (rw (off_bytes memory size address bytes is (omega arith)) (known_there (has_byte runs address) last byte known))))

own_short : (names : List (List ℕ × ℤ)) (step : Step) → length (own_bytes names step) ≤ length (bytes_by names step)
own_short names step = omega (arith, length-append (zeros_of step.does) (own_bytes names step))

line_more : (runs : List (ℕ × ℕ)) (last byte : Option ℕ) (memory size address : ℕ) (own bytes : List ℕ) (in_data : Bool) → Known (has_byte runs address) last byte
    → (in_data ≡ true → length bytes ≡ size) → length own ≤ length bytes → (length bytes ≡ size → (k : ℕ) → k < size → option_or (slice_get own k) (Some 0) ≡ slice_get bytes k)
    → (in_data ≡ true → memory ≤ address → address < memory + size → has_byte runs address ≡ false)
    → Known (has_byte ((if in_data && nat_lt 0 size then (memory, size) ∷ [] else []) ++ runs) address) (option_or (if in_data then byte_in address (memory, own) else None) last)
    (option_or byte (if in_data then byte_in address (memory, bytes) else None))
line_more runs last byte memory size address own bytes true known sized short own_or apart =
    let long = sized refl in
    data_more runs last byte memory size address own bytes _ refl known long (omega (arith, short, long)) (own_or long) (apart refl)
line_more runs last byte memory size address own bytes false known sized short own_or apart = known_there (has_byte runs address) last byte known

-- what one line more puts there
known_more : (names : List (List ℕ × ℤ)) (step : Step) (runs : List (ℕ × ℕ)) (last byte : Option ℕ) (address : ℕ) → Known (has_byte runs address) last byte → IsSized names step
    → (step.place.in_data ≡ true → step.place.data_at ≤ address → address < step.place.data_at + size_of step.does → has_byte runs address ≡ false)
    → Known (has_byte (run_by step ++ runs) address) (option_or (if step.place.in_data then byte_in address (step.place.data_at, own_bytes names step) else None) last)
    (option_or byte (if step.place.in_data then byte_in address (step.place.data_at, bytes_by names step) else None))
unfolding placed
known_more names step runs last byte address known sized apart =
    let own = own_or_zero names (here step.place) step.does in
    line_more runs last byte step.place.data_at (size_of step.does) address (own_bytes names step) (bytes_by names step) step.place.in_data known sized (own_short names step) (λ long k lt. own k long lt) apart

-- the bytes of the lines of data, with their addresses
abbrev pub data_in : List (List ℕ × ℤ) → List Step → List (ℕ × List ℕ)
data_in names steps = map (λ step. (step.place.data_at, bytes_by names step)) (filter (λ step. step.place.in_data) steps)

first_filtered : {A B : Type 0} (test : A → Bool) (f : A → Option B) (x : A) (xs : List A) (here : Bool) → test x ≡ here
    → first_of (map f (filter test (x ∷ xs))) ≡ option_or (if test x then f x else None) (first_of (map f (filter test xs)))
unfolding first_of
first_filtered test f x xs true is = rw is (first_or (f x) (map f (filter test xs)))
first_filtered test f x xs false is = rw is refl

pub byte_next : (names : List (List ℕ × ℤ)) (step : Step) (steps : List Step) (address : ℕ)
    → byte_at (data_in names (step ∷ steps)) address ≡ option_or (if step.place.in_data then byte_in address (step.place.data_at, bytes_by names step) else None) (byte_at (data_in names steps) address)
unfolding byte_at
byte_next names step steps address =
    let run : Step → ℕ × List ℕ = λ step. (step.place.data_at, bytes_by names step) in
    let in_data : Step → Bool = λ step. step.place.in_data in
    ap first_of (map-map (byte_in address) run (filter in_data (step ∷ steps))) ∙ first_filtered in_data (λ step. byte_in address (run step)) step steps step.place.in_data refl
    ∙ ap (λ k. option_or (if step.place.in_data then byte_in address (run step) else None) (first_of k)) (sym (map-map (byte_in address) run (filter in_data steps)))

pub no_bytes : (address : ℕ) → byte_at [] address ≡ None
unfolding byte_at first_of
no_bytes address = refl

known_as : (named : Bool) (last other byte next : Option ℕ) → Known named last byte → last ≡ other → byte ≡ next → Known named other next
known_as named last other byte next known e f = rw (sym e) (rw (sym f) known)

known_all : (names : List (List ℕ × ℤ)) (address number : ℕ) (b : Before) (lines : List (List ℕ)) (last byte : Option ℕ)
    → All (λ step. step.fault ≡ None) (steps_from number b lines) → All (IsSized names) (steps_from number b lines) → Known (has_byte b.runs address) last byte
    → Known (has_byte (before_of b (steps_from number b lines)).runs address) (option_or (last_of names (steps_from number b lines) address) last) (option_or byte (byte_at (data_in names (steps_from number b lines)) address))
unfolding steps_from before_of after_step step_of last_of
known_all names address number b [] last byte faultless sized known = rw (no_bytes address) (known_there (has_byte b.runs address) last byte known)
known_all names address number b (line ∷ lines) last byte faultless sized known =
    let step = step_of number b line in
    let later = steps_from (number + 1) (after_step b step) lines in
    let own = (if step.place.in_data then byte_in address (step.place.data_at, own_bytes names step) else None) in
    let new = (if step.place.in_data then byte_in address (step.place.data_at, bytes_by names step) else None) in
    let apart : step.place.in_data ≡ true → step.place.data_at ≤ address → address < step.place.data_at + size_of step.does → has_byte b.runs address ≡ false =
    λ there least most. no_overlap b step.does address there (step_apart number b line (All-head (λ step. step.fault ≡ None) step later faultless)) least most in
    let now = known_more names step b.runs last byte address known (All-head (IsSized names) step later sized) apart in
    let rest = known_all names address (number + 1) (after_step b step) lines (option_or own last) (option_or byte new) (All-tail (λ step. step.fault ≡ None) step later faultless) (All-tail (IsSized names) step later sized) now in
    known_as (has_byte (before_of (after_step b step) later).runs address) _ _ _ _ rest (or_three (last_of names later address) own last)
    (sym (or_three byte new (byte_at (data_in names later) address)) ∙ ap (option_or byte) (sym (byte_next names step later address)))

pub data_bytes_are : (source : List ℕ) (names : List (List ℕ × ℤ)) → All (λ step. step.fault ≡ None) (steps_of source) → All (IsSized names) (steps_of source) → (address : ℕ)
    → option_or (last_of names (steps_of source) address) (if has_byte (before_of at_start (steps_of source)).runs address then Some 0 else None)
    ≡ byte_at (map (λ step. (step.place.data_at, bytes_by names step)) (filter (λ step. step.place.in_data) (steps_of source))) address
unfolding steps_of
data_bytes_are source names faultless sized address =
    let known = known_all names address 1 at_start (lines_of source) None None faultless sized (record { some = refl; put = refl }) in
    rw (or_none (last_of names (steps_from 1 at_start (lines_of source)) address)) at known.put
