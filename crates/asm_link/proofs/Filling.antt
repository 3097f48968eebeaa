-- Lines that are put into text and data.
use Rattle.std.proofs.Common.{Vec, Global, ◌≡◌, ℕ, ◌+◌, ◌-◌, ◌<◌, true, List, [], ◌∷◌, ◌++◌, length, map, take, drop, get_or, Option, Some, None, refl, ap, sym, subst, ◌∙◌, arith, add-one, append-nil}
use Rattle.std.specs.Prelude.{ℤ}
use Rattle.std.specs.Option.{option_or}
use Rattle.std.specs.List.{All, AllZip, flat_map}
use Rattle.std.proofs.Math.Seq.{take-suc}
use Rattle.std.proofs.lemmas.Bool.Decides.{nat_tests}
use Rattle.std.proofs.lemmas.Grind.{flat_map-append}
use Rattle.std.proofs.lemmas.List.{map-append, take-append-drop}
use Rattle.std.proofs.lemmas.List.Elements.{All-nil, All-cons, All-head, All-tail, All-append}
use Rattle.std.proofs.lemmas.Option.{slice_get_past}
use Rattle.asm_operands.specs.declared.expr.Expr as written
use Rattle.asm_parse.specs.declared.fault.AsmCause.{AsmCause}
use Rattle.asm_parse.specs.declared.fault.AsmFault.{AsmFault}
use Rattle.asm_parse.specs.declared.item.Width.{Width}
use Rattle.asm_parse.specs.declared.statement.Statement as read
use Rattle.asm_parse.specs.declared.statement.Statement.TheVariants as does
use Rattle.asm_parse.specs.Mnemonics.{Code}
use Rattle.asm_parse.specs.Items.{IsSound, statement_of}
use Rattle.asm_parse.specs.Assembly.{at_line, byte_in, code_bytes, first_of, items_of, placed_from, IsWordOf}
use Rattle.asm_link.specs.declared.step.Step.{Step}
use Rattle.asm_link.specs.Bytes.{byte_of, Overwrites}
use Rattle.asm_link.specs.Placed.{Appends, codes_in, number_bytes}
use Rattle.asm_link.specs.Filled.{data_bytes, PutsBytes, last_byte}
use Rattle.asm_link.proofs.Emitted.{number_codes}
use Rattle.asm_link.proofs.Overwriting.{get_within}
use Rattle.asm_link.proofs.FirstOf.{first_append, first_here, or_three}
use Rattle.asm_link.proofs.Laying.{AllZip_append}

-- a line of data that has no numbers has no bytes of its own
no_numbers : (names : List (List ℕ × ℤ)) (address : ℕ) (statement : read.Statement) → IsSound true statement → ((width : Width) (numbers : Vec written.Expr Global) → statement ≡ does.Numbers width numbers → ⊥)
    → flat_map code_bytes (codes_in names address (items_of (statement_of statement))) ≡ []
unfolding placed_from
no_numbers names address does.Nothing sound other = refl
no_numbers names address (does.Switch to_data) sound other = refl
no_numbers names address (does.Instrs instrs) sound other = absurd (grind (arith, sound.0))
no_numbers names address (does.Numbers width numbers) sound other = absurd (other width numbers refl)
no_numbers names address (does.Zeros count) sound other = refl
no_numbers names address (does.MoveTo to) sound other = refl
no_numbers names address (does.Define name n) sound other = refl

pub other_bytes : (names : List (List ℕ × ℤ)) (step : Step) → step.in_data ≡ true → IsSound step.in_data step.does → ((width : Width) (numbers : Vec written.Expr Global) → step.does ≡ does.Numbers width numbers → ⊥)
    → data_bytes names step ≡ []
other_bytes names step here sound other = rw here (no_numbers names step.address step.does (rw here at sound) other)

pub numbers_bytes : (names : List (List ℕ × ℤ)) (step : Step) (width : Width) (numbers : Vec written.Expr Global) → step.in_data ≡ true → step.does ≡ does.Numbers width numbers
    → data_bytes names step ≡ flat_map (number_bytes names width) numbers.items
numbers_bytes names step width numbers here e = rw here (rw e (number_codes names width step.address numbers.items))

put_byte : (bytes : List ℕ) (old new : List (Option ℕ)) (at : ℕ) → Overwrites old new at bytes → (address : ℕ) → byte_of new address ≡ option_or (byte_in address (at, bytes)) (byte_of old address)
put_byte bytes old new at over address = grind (arith, nat_tests, over address, slice_get_past bytes (address - at), get_within bytes (address - at))

-- bytes that are put are those of the line
pub puts_bytes : (names : List (List ℕ × ℤ)) (step : Step) (bytes : List ℕ) (old new : List (Option ℕ)) → data_bytes names step ≡ bytes → Overwrites old new step.address bytes → PutsBytes names step old new
puts_bytes names step bytes old new e over address = rw e (put_byte bytes old new step.address over address)

pub puts_none : (names : List (List ℕ × ℤ)) (step : Step) (memory : List (Option ℕ)) → data_bytes names step ≡ [] → PutsBytes names step memory memory
puts_none names step memory e address = rw e (grind (arith, nat_tests))

-- one line more
pub last_more : (names : List (List ℕ × ℤ)) (steps : List Step) (step : Step) (address : ℕ)
    → last_byte names (steps ++ step ∷ []) address ≡ option_or (byte_in address (step.address, data_bytes names step)) (last_byte names steps address)
unfolding last_byte
last_more names [] step address = grind arith
last_more names (s ∷ steps) step address = grind (arith, last_more names steps step address)

-- ---- line by line

pub take_more : {A : Type 0} (xs : List A) (i : ℕ) (x : A) → i < length xs → x ≡ get_or xs i x → take (i + 1) xs ≡ take i xs ++ x ∷ []
take_more xs i x lt is = rw add-one (take-suc xs i x lt ∙ ap (λ k. take i xs ++ k ∷ []) (sym is))

pub all_more : {A : Type 0} (P : A → Type 0) (xs : List A) (i : ℕ) (x : A) → i < length xs → x ≡ get_or xs i x → All P (take i xs) → P x → All P (take (i + 1) xs)
all_more P xs i x lt is so_far here = rw (take_more xs i x lt is) (All-append P (take i xs) (x ∷ []) so_far (All-cons P x [] here (All-nil P)))

pub words_more : (f : Step → List Code) (xs : List Step) (i : ℕ) (x : Step) (old new : List ℕ) → i < length xs → x ≡ get_or xs i x → AllZip IsWordOf (flat_map f (take i xs)) old → Appends (f x) old new
    → AllZip IsWordOf (flat_map f (take (i + 1) xs)) new
words_more f xs i x old new lt is so_far added =
    let cut : flat_map f (take (i + 1) xs) ≡ flat_map f (take i xs) ++ f x =
    ap (flat_map f) (take_more xs i x lt is) ∙ flat_map-append f (take i xs) (x ∷ []) ∙ ap (λ (k : List Code). flat_map f (take i xs) ++ k) (append-nil (f x)) in
    rw cut (rw added.1 (AllZip_append IsWordOf (flat_map f (take i xs)) old (f x) added.0 so_far added.2))

pub bytes_more : (names : List (List ℕ × ℤ)) (xs : List Step) (i : ℕ) (x : Step) (start old new : List (Option ℕ)) → i < length xs → x ≡ get_or xs i x
    → ((address : ℕ) → byte_of old address ≡ option_or (last_byte names (take i xs) address) (byte_of start address)) → PutsBytes names x old new
    → (address : ℕ) → byte_of new address ≡ option_or (last_byte names (take (i + 1) xs) address) (byte_of start address)
bytes_more names xs i x start old new lt is so_far put address =
    rw (take_more xs i x lt is) (rw (last_more names (take i xs) x address)
    (put address ∙ ap (λ (k : Option ℕ). option_or (byte_in address (x.address, data_bytes names x)) k) (so_far address) ∙ or_three (byte_in address (x.address, data_bytes names x)) (last_byte names (take i xs) address) (byte_of start address)))

pub none_first : {A B : Type 0} (f : A → Option B) (xs : List A) → All (λ x. f x ≡ None) xs → first_of (map f xs) ≡ None
unfolding first_of
none_first f [] none = refl
none_first f (x ∷ xs) none = rw (All-head (λ x. f x ≡ None) x xs none) (none_first f xs (All-tail (λ x. f x ≡ None) x xs none))

-- the first fault of some lines
pub fault_at : (fault : Step → Option AsmCause) (xs : List Step) (i : ℕ) (x : Step) (e : AsmFault) → i < length xs → x ≡ get_or xs i x → All (λ step. fault step ≡ None) (take i xs) → at_line x.number (fault x) ≡ Some e
    → first_of (map (λ step. at_line step.number (fault step)) xs) ≡ Some e
fault_at fault xs i x e lt is none here =
    let f = λ (step : Step). at_line step.number (fault step) in
    let clear : first_of (map f (take i xs)) ≡ None = none_first f (take i xs) (λ k d within. ap (at_line (get_or (take i xs) k d).number) (none k d within)) in
    let there : f (get_or xs i x) ≡ Some e = subst (λ (s : Step). f s ≡ Some e) is here in
    ap (λ (k : List Step). first_of (map f k)) (sym (take-append-drop i xs)) ∙ ap first_of (map-append f (take i xs) (drop i xs)) ∙ first_append (map f (take i xs)) (map f (drop i xs))
    ∙ rw clear (first_here f xs i x e lt there)
