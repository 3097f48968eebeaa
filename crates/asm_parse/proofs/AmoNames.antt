-- The names of AMOs, cut in front of their suffixes.
use Rattle.std.proofs.Common.{get_or, map, rules, arith, reverse, ◌≡◌, ◌≢◌, ◌∙◌, ℕ, Bool, true, false, if◌then◌else◌, List, [], ◌∷◌, ◌++◌, codes, Some, refl, sym, ap}
use Rattle.std.specs.List.{AllByRecursion, flat_map}
use Rattle.std.specs.Option.{option_map}
use Rattle.std.specs.Str.{bytes_eq}
use Rattle.std.proofs.lemmas.Bool.Decides.{same_from_decides}
use Rattle.std.proofs.lemmas.List.{append-nil, reverse-append, append_cancel_right}
use Rattle.std.proofs.lemmas.Slice.Eq.{bytes_eq-Decides}
use Rattle.pmsi_model.specs.declared.instr.AmoOp.{AmoOp}
use Rattle.asm_operands.specs.Numbers.{value_in}
use Rattle.asm_parse.specs.Mnemonics.{Form, amo_ops, amo_forms, amo_rows, orderings}
use Rattle.asm_parse.specs.Forms.{IsCut}
use Rattle.asm_parse.proofs.MnemonicTables.{not_named}

-- ---- texts with suffixes

last_first : (a b s t : List ℕ) → a ++ s ≡ b ++ t → reverse s ++ reverse a ≡ reverse t ++ reverse b
last_first a b s t e = sym (reverse-append a s) ∙ ap reverse e ∙ reverse-append b t

-- texts whose suffixes differ at the k-th byte from the end
apart_at : (k : ℕ) (a b s t : List ℕ) → get_or (reverse s ++ reverse a) k 0 ≢ get_or (reverse t ++ reverse b) k 0 → a ++ s ≢ b ++ t
apart_at k a b s t differ e = differ (ap (λ bytes. get_or bytes k 0) (last_first a b s t e))

aq_not_rl : (a b : List ℕ) → a ++ codes ".aq" ≢ b ++ codes ".rl"
aq_not_rl a b = apart_at 0 a b (codes ".aq") (codes ".rl") (λ e. omega arith)

aq_not_both : (a b : List ℕ) → a ++ codes ".aq" ≢ b ++ codes ".aqrl"
aq_not_both a b = apart_at 0 a b (codes ".aq") (codes ".aqrl") (λ e. omega arith)

rl_not_both : (a b : List ℕ) → a ++ codes ".rl" ≢ b ++ codes ".aqrl"
rl_not_both a b = apart_at 2 a b (codes ".rl") (codes ".aqrl") (λ e. omega arith)

same_suffix : (a b s : List ℕ) → bytes_eq (a ++ s) (b ++ s) ≡ bytes_eq a b
same_suffix a b s =
    let whole = bytes_eq-Decides (a ++ s) (b ++ s) in
    let fronts = bytes_eq-Decides a b in
    same_from_decides {P = a ≡ b} _ _ ((λ e. append_cancel_right a b s (whole.0 e)), (λ e. whole.1 (ap (λ front. front ++ s) e))) fronts

-- ---- an operation's rows

abbrev op_rows : List ℕ → AmoOp → List (List ℕ × List Form)
op_rows n op = map (λ suffix. (n ++ suffix.0, amo_forms op suffix.1)) orderings

-- a text ends in `w`
abbrev EndsInWord : List ℕ → Type 0
EndsInWord text = get_or (reverse text) 0 0 ≡ 119

word_apart : (n front s : List ℕ) → EndsInWord n → get_or (reverse s ++ reverse front) 0 0 ≢ 119 → n ≢ front ++ s
word_apart n front s word differ e = differ (ap (λ bytes. get_or bytes 0 0) (sym (reverse-append front s)) ∙ ap (λ text. get_or (reverse text) 0 0) (sym e) ∙ word)

-- the rows of an operation have a text that was cut just where what was left of it is the operation's name
picks : (n : List ℕ) (op : AmoOp) (rest : List (List ℕ × List Form)) (text stem : List ℕ) (aq rl : Bool) → EndsInWord n → IsCut text stem aq rl
    → value_in (op_rows n op ++ rest) text ≡ (if bytes_eq n stem then Some (amo_forms op (aq, rl)) else value_in rest text)
picks n op rest text stem true true word cut =
    let none = not_named (n ++ codes "") text (λ e. word_apart n stem (codes ".aqrl") word (λ d. omega arith) (sym (append-nil n) ∙ e ∙ cut)) in
    let aq = not_named (n ++ codes ".aq") text (λ e. aq_not_both n stem (e ∙ cut)) in
    let rl = not_named (n ++ codes ".rl") text (λ e. rl_not_both n stem (e ∙ cut)) in
    let both = ap (bytes_eq (n ++ codes ".aqrl")) cut ∙ same_suffix n stem (codes ".aqrl") in
    grind (arith, none, aq, rl, both)
picks n op rest text stem true false word cut =
    let none = not_named (n ++ codes "") text (λ e. word_apart n stem (codes ".aq") word (λ d. omega arith) (sym (append-nil n) ∙ e ∙ cut)) in
    let aq = ap (bytes_eq (n ++ codes ".aq")) cut ∙ same_suffix n stem (codes ".aq") in
    let rl = not_named (n ++ codes ".rl") text (λ e. aq_not_rl stem n (sym (e ∙ cut))) in
    let both = not_named (n ++ codes ".aqrl") text (λ e. aq_not_both stem n (sym (e ∙ cut))) in
    grind (arith, none, aq, rl, both)
picks n op rest text stem false true word cut =
    let none = not_named (n ++ codes "") text (λ e. word_apart n stem (codes ".rl") word (λ d. omega arith) (sym (append-nil n) ∙ e ∙ cut)) in
    let aq = not_named (n ++ codes ".aq") text (λ e. aq_not_rl n stem (e ∙ cut)) in
    let rl = ap (bytes_eq (n ++ codes ".rl")) cut ∙ same_suffix n stem (codes ".rl") in
    let both = not_named (n ++ codes ".aqrl") text (λ e. rl_not_both stem n (sym (e ∙ cut))) in
    grind (arith, none, aq, rl, both)
picks n op rest text stem false false word cut =
    let none = ap (λ key. bytes_eq key text) (append-nil n) ∙ ap (bytes_eq n) cut.0 in
    let aq = not_named (n ++ codes ".aq") text (λ e. cut.2 n (sym e)) in
    let rl = not_named (n ++ codes ".rl") text (λ e. cut.3 n (sym e)) in
    let both = not_named (n ++ codes ".aqrl") text (λ e. cut.1 n (sym e)) in
    grind (arith, none, aq, rl, both)

-- ---- all rows

value_of_cut : (table : List (List ℕ × AmoOp)) → AllByRecursion (λ row. EndsInWord row.0) table → (text stem : List ℕ) (aq rl : Bool) → IsCut text stem aq rl
    → value_in (flat_map (λ row. op_rows row.0 row.1) table) text ≡ option_map (λ op. amo_forms op (aq, rl)) (value_in table stem)
value_of_cut [] words text stem aq rl cut = refl
value_of_cut (row ∷ table) words text stem aq rl cut =
    grind (arith, picks row.0 row.1 (flat_map (λ row. op_rows row.0 row.1) table) text stem aq rl words.0 cut, value_of_cut table words.1 text stem aq rl cut)

pub amo_value : (text stem : List ℕ) (aq rl : Bool) → IsCut text stem aq rl → value_in amo_rows text ≡ option_map (λ op. amo_forms op (aq, rl)) (value_in amo_ops stem)
amo_value text stem aq rl cut = value_of_cut amo_ops (search rules) text stem aq rl cut
