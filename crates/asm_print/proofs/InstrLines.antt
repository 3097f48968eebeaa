-- The text of each word stands for it.
use Rattle.std.proofs.Common.{◌≡◌, Bool, Option, ℕ, ◌+◌, ◌%◌, ◌^◌, ◌<◌, ◌≤◌, false, true, List, [], ◌∷◌, ◌++◌, length, codes, Some, None, refl, ap, subst, sym, ◌∙◌, arith, append_assoc, append-nil, eqb-true}
use Rattle.std.specs.Prelude.{ℤ, pos, ◌+ℤ◌, decimal, ◌==◌}
use Rattle.std.specs.Fmt.{signed_decimal}
use Rattle.pmsi_model.specs.declared.instr.Instr.{Instr}
use Rattle.pmsi_model.specs.declared.instr.Instr.TheVariants.{Lui, Auipc, Jal, Jalr, Branch, Load, Store, OpImm, Op, Amo, Fence, Ecall, Ebreak}
use Rattle.pmsi_model.specs.declared.instr.BranchOp.{BranchOp}
use Rattle.pmsi_model.specs.declared.instr.ImmOp.{ImmOp}
use Rattle.pmsi_model.specs.declared.instr.RegOp.{RegOp}
use Rattle.pmsi_model.specs.declared.instr.AmoOp.{AmoOp}
use Rattle.pmsi_model.specs.Instruction.{IsEncodingOf, instr_of}
use Rattle.pmsi_model.specs.Lines.{hex_word}
use Rattle.pmsi_model.specs.Words.{word_of}
use Rattle.pmsi_model.proofs.Encodings.{reads_one_way}
use Rattle.pmsi_model.proofs.Cases.{by_bool}
use Rattle.rv_decode.specs.Ranges.{IsSigned, IsOffset, IsImmOf}
use Rattle.rv_decode.proofs.Exports.{IsPutBack, encoding_back}
use Rattle.asm_operands.specs.declared.token.TokenKind.TheVariants.{Word, Number}
use Rattle.asm_parse.specs.declared.place.Place.{Place}
use Rattle.asm_operands.specs.Tokens.{is_name_byte, kind_of}
use Rattle.asm_operands.specs.Numbers.{number_spelt, is_number}
use Rattle.asm_operands.specs.Operands.{take_kind, take_literal, take_expr, take_exprs, take_more}
use Rattle.asm_parse.specs.Mnemonics.{Item, Known, Instruction, forms_named, mnemonics, ready, with_imm, jump_to, branch_to, reaches, is_imm_12, is_imm_20, fence_word, form_ri, form_rm}
use Rattle.asm_parse.specs.Assembly.{Asks, Reads, Emit, asked, labels_of, behind_labels, directive_named, directives, number_item, first_of}
use Rattle.asm_print.specs.InstrText.{spelled, word_text, target_text, fence_text, instr_text}
use Rattle.asm_print.specs.ListingText.{text_of}
use Rattle.asm_print.specs.Names.{branch_name, load_name, store_name, imm_name, op_name, amo_name, ordering_suffix}
use Rattle.asm_print.specs.Operands.{register_text, offset_text, direct_text}
use Rattle.asm_print.proofs.Spelling.{Part, Run, Gap, spelling, written}
use Rattle.asm_print.proofs.Spelling.{spelled as read_spelled}
use Rattle.asm_print.proofs.Spelt.{hex_run, hex_spelt}
use Rattle.asm_print.proofs.OperandTexts.{number_then, number_text, number_parts, number_expr, number_imm, register_then, register_parts, direct_then, direct_parts, comma_then, comma_parts}
use Rattle.asm_print.proofs.FormTexts.{next_column, reads_ri, reads_re, reads_rm, reads_rri, reads_rre, reads_rrr, reads_rrb}
use Rattle.asm_print.proofs.Ranges.{imm_12, imm_12_number, imm_20, natural_number, reach_20, reach_12, target_20, target_12}
use Rattle.asm_print.proofs.TextLines.{IsTextLine, IsGood, IsNamed, IsImmNamed, good_ready, good_imm, good_target, good_word, with_operands, alone, lui_named, auipc_named, jal_named, jalr_named, branch_named, load_named, store_named, imm_named, op_named, amo_named, fence_named, ecall_named, ebreak_named}

-- ---- texts

two_text : (name : List ℕ) (r : ℕ) (text : List ℕ) (parts : List Part) → spelling parts ≡ text → spelling (Run Word name ∷ Gap ∷ register_then r (comma_then parts)) ≡ spelled name (register_text r ∷ text ∷ [])
two_text name r text parts e = rw e (rw (append-nil (44 ∷ 32 ∷ text)) (sym (append_assoc name (32 ∷ []) (register_text r ++ (44 ∷ 32 ∷ text)))))

three_text : (name : List ℕ) (r t : ℕ) (text : List ℕ) (parts : List Part) → spelling parts ≡ text →
    spelling (Run Word name ∷ Gap ∷ register_then r (comma_then (register_then t (comma_then parts)))) ≡ spelled name (register_text r ∷ register_text t ∷ text ∷ [])
three_text name r t text parts e =
    rw e (simp (append_assoc, append-nil))

number_alone : (z : ℤ) → spelling (number_then z []) ≡ signed_decimal z
number_alone z = number_text z [] ∙ append-nil (signed_decimal z)

offset_alone : (z : ℤ) (r : ℕ) → spelling (number_then z (direct_then r [])) ≡ offset_text z r
offset_alone z r = number_text z (direct_then r [])

register_alone : (r : ℕ) → spelling (register_then r []) ≡ register_text r
register_alone r = append-nil (register_text r)

direct_alone : (r : ℕ) → spelling (direct_then r []) ≡ direct_text r
direct_alone r = refl

as_text : {address word : ℕ} {line : List ℕ} (text : List ℕ) → line ≡ text → IsTextLine address line word → IsTextLine address text word
as_text {address} {word} text e stands = subst (λ t. IsTextLine address t word) e stands

-- ---- instructions

-- the column of the operands behind a name
abbrev operands_at : List ℕ → ℕ
operands_at name = 1 + length name + 1

upper_line : (address word rd imm : ℕ) (name : List ℕ) (make : ℕ → ℕ → Instr) → rd < 32 → imm < 2 ^ 20 → IsEncodingOf word (make rd imm) →
    IsNamed name (form_ri (λ r i. with_imm is_imm_20 (λ n. make r (word_of n)) i ∷ [])) → IsTextLine address (spelled name (register_text rd ∷ decimal imm ∷ [])) word
upper_line address word rd imm name make low within encodes named =
    let is : is_number (pos imm) ≡ true = natural_number imm (omega arith) in
    let column : ℕ = next_column (operands_at name) rd in
    let item : Item = with_imm is_imm_20 (λ n. make rd (word_of n)) (number_imm column (pos imm)) in
    let good : IsGood address item word = good_imm address column is_imm_20 (λ n. make rd (word_of n)) (pos imm) word (imm_20 imm within) encodes in
    as_text (spelled name (register_text rd ∷ decimal imm ∷ [])) (two_text name rd (decimal imm) (number_then (pos imm) []) (number_alone (pos imm)))
    (with_operands address name _ rd (comma_then (number_then (pos imm) [])) item word named
    (register_parts rd (comma_then (number_then (pos imm) [])) low refl (comma_parts (number_then (pos imm) []) (number_parts (pos imm) [] is refl tt)))
    (reads_ri (λ r i. with_imm is_imm_20 (λ n. make r (word_of n)) i ∷ []) rd (operands_at name) (pos imm) low is)
    good)

jal_line : (address word rd : ℕ) (z : ℤ) → address ≤ 65536 → rd < 32 → IsOffset 21 z → IsEncodingOf word (Jal rd z) → IsTextLine address (spelled (codes "jal") (register_text rd ∷ target_text address z ∷ [])) word
jal_line address word rd z near low in_range encodes =
    let to : ℤ = pos address +ℤ z in
    let is : is_number to ≡ true = target_20 address z near in_range in
    let column : ℕ = next_column (operands_at (codes "jal")) rd in
    let good : IsGood address (jump_to rd (number_expr column to)) word = good_target address column (reaches 1048576) (Jal rd) z word (reach_20 z in_range) encodes in
    as_text (spelled (codes "jal") (register_text rd ∷ target_text address z ∷ [])) (two_text (codes "jal") rd (signed_decimal to) (number_then to []) (number_alone to))
    (with_operands address (codes "jal") _ rd (comma_then (number_then to [])) (jump_to rd (number_expr column to)) word jal_named
    (register_parts rd (comma_then (number_then to [])) low refl (comma_parts (number_then to []) (number_parts to [] is refl tt)))
    (reads_re (λ r target. jump_to r target ∷ []) rd (operands_at (codes "jal")) to low is)
    good)

branch_line : (address word : ℕ) (op : BranchOp) (rs1 rs2 : ℕ) (z : ℤ) → address ≤ 65536 → rs1 < 32 → rs2 < 32 → IsOffset 13 z → IsEncodingOf word (Branch op rs1 rs2 z) →
    IsTextLine address (spelled (branch_name op) (register_text rs1 ∷ register_text rs2 ∷ target_text address z ∷ [])) word
branch_line address word op rs1 rs2 z near low low' in_range encodes =
    let to : ℤ = pos address +ℤ z in
    let is : is_number to ≡ true = target_12 address z near in_range in
    let name : List ℕ = branch_name op in
    let column : ℕ = next_column (next_column (operands_at name) rs1) rs2 in
    let good : IsGood address (branch_to op rs1 rs2 (number_expr column to)) word = good_target address column (reaches 4096) (Branch op rs1 rs2) z word (reach_12 z in_range) encodes in
    as_text (spelled name (register_text rs1 ∷ register_text rs2 ∷ target_text address z ∷ [])) (three_text name rs1 rs2 (signed_decimal to) (number_then to []) (number_alone to))
    (with_operands address name _ rs1 (comma_then (register_then rs2 (comma_then (number_then to [])))) (branch_to op rs1 rs2 (number_expr column to)) word (branch_named op)
    (register_parts rs1 (comma_then (register_then rs2 (comma_then (number_then to [])))) low refl
    (comma_parts (register_then rs2 (comma_then (number_then to []))) (register_parts rs2 (comma_then (number_then to [])) low' refl (comma_parts (number_then to []) (number_parts to [] is refl tt)))))
    (reads_rre (λ a b target. branch_to op a b target ∷ []) rs1 rs2 (operands_at name) to low low' is)
    good)

-- a register and an address: `make` has the register first
memory_line : (address word : ℕ) (name : List ℕ) (make : ℕ → ℕ → ℤ → Instr) (r base : ℕ) (z : ℤ) → r < 32 → base < 32 → IsSigned 12 z → IsEncodingOf word (make r base z) →
    IsNamed name (form_rm (λ a i b. with_imm is_imm_12 (make a b) i ∷ [])) → IsTextLine address (spelled name (register_text r ∷ offset_text z base ∷ [])) word
memory_line address word name make r base z low low' in_range encodes named =
    let is : is_number z ≡ true = imm_12_number z in_range in
    let column : ℕ = next_column (operands_at name) r in
    let item : Item = with_imm is_imm_12 (make r base) (number_imm column z) in
    let good : IsGood address item word = good_imm address column is_imm_12 (make r base) z word (imm_12 z in_range) encodes in
    let parts : List Part = number_then z (direct_then base []) in
    as_text (spelled name (register_text r ∷ offset_text z base ∷ [])) (two_text name r (offset_text z base) parts (offset_alone z base))
    (with_operands address name _ r (comma_then parts) item word named
    (register_parts r (comma_then parts) low refl (comma_parts parts (number_parts z (direct_then base []) is refl (direct_parts base [] low' tt))))
    (reads_rm (λ a i b. with_imm is_imm_12 (make a b) i ∷ []) r base (operands_at name) z low low' is)
    good)

imm_line : (address word : ℕ) (op : ImmOp) (rd rs1 : ℕ) (z : ℤ) → rd < 32 → rs1 < 32 → IsImmOf op z → IsEncodingOf word (OpImm op rd rs1 z) →
    IsTextLine address (spelled (imm_name op) (register_text rd ∷ register_text rs1 ∷ signed_decimal z ∷ [])) word
imm_line address word op rd rs1 z low low' in_range encodes =
    let named : IsImmNamed op z = imm_named op z in_range in
    let name : List ℕ = imm_name op in
    let column : ℕ = next_column (next_column (operands_at name) rd) rs1 in
    let item : Item = with_imm named.fits (OpImm op rd rs1) (number_imm column z) in
    let good : IsGood address item word = good_imm address column named.fits (OpImm op rd rs1) z word named.takes encodes in
    as_text (spelled name (register_text rd ∷ register_text rs1 ∷ signed_decimal z ∷ [])) (three_text name rd rs1 (signed_decimal z) (number_then z []) (number_alone z))
    (with_operands address name _ rd (comma_then (register_then rs1 (comma_then (number_then z [])))) item word named.named
    (register_parts rd (comma_then (register_then rs1 (comma_then (number_then z [])))) low refl
    (comma_parts (register_then rs1 (comma_then (number_then z []))) (register_parts rs1 (comma_then (number_then z [])) low' refl (comma_parts (number_then z []) (number_parts z [] named.number refl tt)))))
    (reads_rri (λ a b i. with_imm named.fits (OpImm op a b) i ∷ []) rd rs1 (operands_at name) z low low' named.number)
    good)

op_line : (address word : ℕ) (op : RegOp) (rd rs1 rs2 : ℕ) → rd < 32 → rs1 < 32 → rs2 < 32 → IsEncodingOf word (Op op rd rs1 rs2) →
    IsTextLine address (spelled (op_name op) (register_text rd ∷ register_text rs1 ∷ register_text rs2 ∷ [])) word
op_line address word op rd rs1 rs2 low low' low'' encodes =
    let name : List ℕ = op_name op in
    let parts : List Part = register_then rs2 [] in
    as_text (spelled name (register_text rd ∷ register_text rs1 ∷ register_text rs2 ∷ [])) (three_text name rd rs1 (register_text rs2) parts (register_alone rs2))
    (with_operands address name _ rd (comma_then (register_then rs1 (comma_then parts))) (Known (Instruction (Op op rd rs1 rs2))) word (op_named op)
    (register_parts rd (comma_then (register_then rs1 (comma_then parts))) low refl
    (comma_parts (register_then rs1 (comma_then parts)) (register_parts rs1 (comma_then parts) low' refl (comma_parts parts (register_parts rs2 [] low'' refl tt)))))
    (reads_rrr (λ a b c. ready (Op op a b c)) rd rs1 rs2 (operands_at name) low low' low'')
    (good_ready address (Op op rd rs1 rs2) word encodes))

amo_line : (address word : ℕ) (op : AmoOp) (rd rs1 rs2 : ℕ) (aq rl : Bool) → rd < 32 → rs1 < 32 → rs2 < 32 → IsEncodingOf word (Amo op rd rs1 rs2 aq rl) →
    IsTextLine address (spelled (amo_name op ++ ordering_suffix aq rl) (register_text rd ∷ register_text rs2 ∷ direct_text rs1 ∷ [])) word
amo_line address word op rd rs1 rs2 aq rl low low' low'' encodes =
    let name : List ℕ = amo_name op ++ ordering_suffix aq rl in
    let parts : List Part = direct_then rs1 [] in
    as_text (spelled name (register_text rd ∷ register_text rs2 ∷ direct_text rs1 ∷ [])) (three_text name rd rs2 (direct_text rs1) parts (direct_alone rs1))
    (with_operands address name _ rd (comma_then (register_then rs2 (comma_then parts))) (Known (Instruction (Amo op rd rs1 rs2 aq rl))) word (amo_named op aq rl)
    (register_parts rd (comma_then (register_then rs2 (comma_then parts))) low refl
    (comma_parts (register_then rs2 (comma_then parts)) (register_parts rs2 (comma_then parts) low'' refl (comma_parts parts (direct_parts rs1 [] low' tt)))))
    (reads_rrb (λ a b c. ready (Amo op a c b aq rl)) rd rs2 rs1 (operands_at name) low low'' low')
    (good_ready address (Amo op rd rs1 rs2 aq rl) word encodes))

-- ---- words as numbers

word_asks : (place : Place) (column column' word : ℕ) → word < 2 ^ 32 → place.in_data ≡ false →
    asked place [] (record { kind = Word; text = codes ".word"; column = column } ∷ record { kind = Number; text = hex_word word; column = column' } ∷ [])
    ≡ Asks (Reads None (Emit ((4, number_item 4 is_number (number_expr column' (pos word))) ∷ [])))
unfolding asked forms_named mnemonics directive_named directives take_exprs take_more take_expr take_literal take_kind first_of
word_asks place column column' word low text =
    let whole : word % 16 ^ 8 ≡ word = omega arith in
    let value : number_spelt (hex_word word) ≡ Some word = hex_spelt 7 word ∙ ap Some whole in
    rw value (rw (natural_number word low) (rw (natural_number word low) refl))

word_parts : ℕ → List Part
word_parts word = Run Word (codes ".word") ∷ Gap ∷ Run Number (hex_word word) ∷ []

word_line : (address word : ℕ) → word < 2 ^ 32 → IsTextLine address (word_text word) word
unfolding word_parts labels_of behind_labels is_name_byte kind_of
word_line address word low = record {
  found = written 1 (word_parts word);
  item = number_item 4 is_number (number_expr 7 (pos word));
  read = read_spelled (word_parts word) (record { some = omega arith; names = refl; first = refl }, refl, (hex_run 8 word, refl, tt));
  labels = refl;
  behind = refl;
  asks = λ place text. word_asks place 1 7 word low text;
  good = good_word address 7 word low;
}

fence_line : (address word : ℕ) → word < 2 ^ 32 → IsEncodingOf word (Fence word) → IsTextLine address (fence_text word) word
fence_line address word low encodes =
    by_bool (word == 0x0ff0000f)
    (λ same. rw same (alone address (codes "fence") _ (Known (Instruction (Fence (fence_word 15 15)))) word fence_named refl
    (good_ready address (Fence (fence_word 15 15)) word (subst (λ n. IsEncodingOf word (Fence n)) (eqb-true word 0x0ff0000f same) encodes))))
    (λ other. rw other (word_line address word low))

-- ---- every word

instr_line : (address word : ℕ) (instr : Instr) → address ≤ 65536 → word < 2 ^ 32 → IsPutBack word instr → IsEncodingOf word instr → IsTextLine address (instr_text instr address) word
unfolding instr_text
instr_line address word (Lui rd imm) near low back encodes = upper_line address word rd imm (codes "lui") Lui back.in_range.0 back.in_range.1 encodes lui_named
instr_line address word (Auipc rd imm) near low back encodes = upper_line address word rd imm (codes "auipc") Auipc back.in_range.0 back.in_range.1 encodes auipc_named
instr_line address word (Jal rd z) near low back encodes = jal_line address word rd z near back.in_range.0 back.in_range.1 encodes
instr_line address word (Jalr rd rs1 z) near low back encodes = memory_line address word (codes "jalr") Jalr rd rs1 z back.in_range.0 back.in_range.1 back.in_range.2 encodes jalr_named
instr_line address word (Branch op rs1 rs2 z) near low back encodes = branch_line address word op rs1 rs2 z near back.in_range.0 back.in_range.1 back.in_range.2 encodes
instr_line address word (Load op rd rs1 z) near low back encodes = memory_line address word (load_name op) (Load op) rd rs1 z back.in_range.0 back.in_range.1 back.in_range.2 encodes (load_named op)
instr_line address word (Store op rs1 rs2 z) near low back encodes =
    memory_line address word (store_name op) (λ a b n. Store op b a n) rs2 rs1 z back.in_range.1 back.in_range.0 back.in_range.2 encodes (store_named op)
instr_line address word (OpImm op rd rs1 z) near low back encodes = imm_line address word op rd rs1 z back.in_range.0 back.in_range.1 back.in_range.2 encodes
instr_line address word (Op op rd rs1 rs2) near low back encodes = op_line address word op rd rs1 rs2 back.in_range.0 back.in_range.1 back.in_range.2 encodes
instr_line address word (Amo op rd rs1 rs2 aq rl) near low back encodes = amo_line address word op rd rs1 rs2 aq rl back.in_range.0 back.in_range.1 back.in_range.2 encodes
instr_line address word (Fence other) near low back encodes =
    let same : other ≡ word = back.is in
    subst (λ n. IsTextLine address (fence_text n) word) (sym same) (fence_line address word low (subst (λ n. IsEncodingOf word (Fence n)) same encodes))
instr_line address word Ecall near low back encodes = alone address (codes "ecall") _ (Known (Instruction Ecall)) word ecall_named refl (good_ready address Ecall word encodes)
instr_line address word Ebreak near low back encodes = alone address (codes "ebreak") _ (Known (Instruction Ebreak)) word ebreak_named refl (good_ready address Ebreak word encodes)

line_of : (address word : ℕ) (found : Option Instr) → instr_of word ≡ found → address ≤ 65536 → word < 2 ^ 32 → IsTextLine address (text_of found address word) word
line_of address word None e near low = word_line address word low
line_of address word (Some instr) e near low =
    let encodes : IsEncodingOf word instr = (reads_one_way word instr low).1 e in
    instr_line address word instr near low (encoding_back word instr encodes) encodes

-- the line of a word at an address
pub text_line_of : (address word : ℕ) → address ≤ 65536 → word < 2 ^ 32 → IsTextLine address (text_of (instr_of word) address word) word
text_line_of address word near low = line_of address word (instr_of word) refl near low
