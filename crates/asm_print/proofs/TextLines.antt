-- A line of a word's text stands for that word.
use Rattle.std.proofs.Common.{◌≡◌, Bool, ℕ, ◌+◌, ◌^◌, ◌<◌, false, true, List, [], ◌∷◌, ◌++◌, length, codes, Some, None, refl, subst, sym, arith, zero-add, append-nil}
use Rattle.std.specs.Prelude.{ℤ, pos, ◌+ℤ◌, not, ◌&&◌}
use Rattle.std.specs.List.{list_all}
use Rattle.std.specs.Char.{is_ascii_digit}
use borrow.Author.Tests.{tests}
use Rattle.pmsi_model.specs.declared.instr.Instr.{Instr}
use Rattle.pmsi_model.specs.declared.instr.Instr.TheVariants.{Lui, Auipc, Jalr, Load, Store, OpImm, Op, Amo, Fence, Ecall, Ebreak}
use Rattle.pmsi_model.specs.declared.instr.BranchOp.{BranchOp}
use Rattle.pmsi_model.specs.declared.instr.BranchOp.TheVariants.{Beq, Bne, Blt, Bge, Bltu, Bgeu}
use Rattle.pmsi_model.specs.declared.instr.LoadOp.{LoadOp}
use Rattle.pmsi_model.specs.declared.instr.LoadOp.TheVariants.{Lb, Lh, Lw, Lbu, Lhu}
use Rattle.pmsi_model.specs.declared.instr.StoreOp.{StoreOp}
use Rattle.pmsi_model.specs.declared.instr.StoreOp.TheVariants.{Sb, Sh, Sw}
use Rattle.pmsi_model.specs.declared.instr.ImmOp.{ImmOp}
use Rattle.pmsi_model.specs.declared.instr.ImmOp.TheVariants.{Addi, Slli, Slti, Sltiu, Xori, Srli, Srai, Ori, Andi}
use Rattle.pmsi_model.specs.declared.instr.RegOp.{RegOp}
use Rattle.pmsi_model.specs.declared.instr.RegOp.TheVariants.{Add, Sub, Sll, Slt, Sltu, Xor, Srl, Sra, Or, And}
use Rattle.pmsi_model.specs.declared.instr.AmoOp.{AmoOp}
use Rattle.pmsi_model.specs.declared.instr.AmoOp.TheVariants.{Amoadd, Amoswap, Amoxor, Amoor, Amoand, Amomin, Amomax, Amominu, Amomaxu}
use Rattle.pmsi_model.specs.Instruction.{IsEncodingOf}
use Rattle.pmsi_model.specs.Words.{word_of}
use Rattle.rv_decode.specs.Ranges.{IsSigned, IsShift, IsImmOf}
use Rattle.asm_operands.specs.declared.token.TokenKind.TheVariants.{Word}
use Rattle.asm_parse.specs.declared.place.Place.{Place}
use Rattle.asm_operands.specs.Tokens.{is_name_byte, kind_of}
use Rattle.asm_operands.specs.Numbers.{is_number}
use Rattle.asm_operands.specs.Operands.{Lexeme, Taken}
use Rattle.asm_parse.specs.Mnemonics.{Item, Known, Distant, Instruction, Form, take_forms, forms_named, mnemonics, ready, with_imm, jump_to, branch_to, is_imm_12, is_imm_20, is_shift, no_operands, form_rrr, form_ri, form_rri, form_rm, form_rrb, form_re, form_rre, form_r, form_e, form_ff, fence_word}
use Rattle.asm_parse.specs.Assembly.{Asks, Reads, Emit, asked, first_of, labels_of, behind_labels, wrong_item, unknown_item, named_number_fault, reach_fault, code_at, IsWordOf, number_item}
use Rattle.asm_print.specs.Names.{branch_name, load_name, store_name, imm_name, op_name, amo_name, ordering_suffix}
use Rattle.asm_print.proofs.Spelling.{Part, Run, Gap, spelling, written, AreParts, IsRun, IsRead, spelled}
use Rattle.asm_print.proofs.OperandTexts.{register_then, number_expr, number_imm}
use Rattle.asm_print.proofs.Ranges.{zero_plus, distance, natural_number, imm_12, imm_12_number, shift, shift_number}

-- ---- items

-- an item without a fault, which stands for a word at an address
pub record IsGood (address : ℕ) (item : Item) (word : ℕ) : Type 0 where
  pub right : wrong_item item ≡ None
  pub known : unknown_item [] item ≡ None
  pub fits : named_number_fault [] item ≡ None
  pub reached : reach_fault [] (pos address) item ≡ None
  pub stands : IsWordOf (code_at [] address item) word

pub good_ready : (address : ℕ) (instr : Instr) (word : ℕ) → IsEncodingOf word instr → IsGood address (Known (Instruction instr)) word
good_ready address instr word encodes = record { right = refl; known = refl; fits = refl; reached = refl; stands = encodes }

pub good_imm : (address column : ℕ) (fits : ℤ → Bool) (make : ℤ → Instr) (z : ℤ) (word : ℕ) → fits z ≡ true → IsEncodingOf word (make z) → IsGood address (with_imm fits make (number_imm column z)) word
good_imm address column fits make z word fit encodes = record {
  right = rw fit refl;
  known = refl;
  fits = rw (zero_plus z) (rw fit refl);
  reached = refl;
  stands = rw (zero_plus z) encodes;
}

pub good_target : (address column : ℕ) (fits : ℤ → Bool) (make : ℤ → Instr) (z : ℤ) (word : ℕ) → fits z ≡ true → IsEncodingOf word (make z) →
    IsGood address (Distant (number_expr column (pos address +ℤ z)) fits (λ n. Instruction (make n))) word
good_target address column fits make z word fit encodes = record {
  right = refl;
  known = refl;
  fits = refl;
  reached = rw (zero_plus (pos address +ℤ z), distance address z) (rw fit refl);
  stands = rw (zero_plus (pos address +ℤ z), distance address z) encodes;
}

pub good_word : (address column word : ℕ) → word < 2 ^ 32 → IsGood address (number_item 4 is_number (number_expr column (pos word))) word
good_word address column word low = record {
  right = rw (natural_number word low) refl;
  known = refl;
  fits = rw (zero-add word) (rw (natural_number word low) refl);
  reached = refl;
  stands = rw (zero-add word) refl;
}

-- ---- lines

-- a line that stands for a word at an address
pub record IsTextLine (address : ℕ) (line : List ℕ) (word : ℕ) : Type 0 where
  pub found : List Lexeme
  pub item : Item
  pub read : IsRead line found
  pub labels : labels_of found ≡ []
  pub behind : behind_labels found ≡ found
  pub asks : (place : Place) → place.in_data ≡ false → asked place [] found ≡ Asks (Reads None (Emit ((4, item) ∷ [])))
  pub good : IsGood address item word

-- a name whose first form is this one
pub record IsNamed (name : List ℕ) (form : Form) : Type 0 where
  pub others : List Form
  pub forms : forms_named name ≡ Some (form ∷ others)
  pub run : IsRun Word name

first_form : (form : Form) (others : List Form) (found : List Lexeme) (items : List Item) → form [] found ≡ Taken items [] → take_forms (form ∷ others) [] found ≡ Taken items []
unfolding take_forms
first_form form [] found items e = e
first_form form (other ∷ others) found items e = rw e refl

right_alone : (item : Item) → wrong_item item ≡ None → first_of (wrong_item item ∷ []) ≡ None
unfolding first_of
right_alone item right = rw right refl

asks_form : (place : Place) (name : List ℕ) (form : Form) (column : ℕ) (found : List Lexeme) (item : Item) → place.in_data ≡ false → IsNamed name form → wrong_item item ≡ None → form [] found ≡ Taken (item ∷ []) [] →
    asked place [] (record { kind = Word; text = name; column = column } ∷ found) ≡ Asks (Reads None (Emit ((4, item) ∷ [])))
unfolding asked
asks_form place name form column found item text named right took =
    rw named.forms (rw text (rw (first_form form named.others found (item ∷ []) took) (rw (right_alone item right) refl)))

-- a name and operands, the first of them a register
pub with_operands : (address : ℕ) (name : List ℕ) (form : Form) (r : ℕ) (parts : List Part) (item : Item) (word : ℕ) → IsNamed name form → AreParts (register_then r parts) →
    form [] (written (1 + length name + 1) (register_then r parts)) ≡ Taken (item ∷ []) [] → IsGood address item word → IsTextLine address (spelling (Run Word name ∷ Gap ∷ register_then r parts)) word
unfolding labels_of behind_labels
with_operands address name form r parts item word named fit took good = record {
  found = written 1 (Run Word name ∷ Gap ∷ register_then r parts);
  item = item;
  read = spelled (Run Word name ∷ Gap ∷ register_then r parts) (named.run, refl, fit);
  labels = refl;
  behind = refl;
  asks = λ place text. asks_form place name form 1 (written (1 + length name + 1) (register_then r parts)) item text named good.right took;
  good = good;
}

-- a name alone
pub alone : (address : ℕ) (name : List ℕ) (form : Form) (item : Item) (word : ℕ) → IsNamed name form → form [] [] ≡ Taken (item ∷ []) [] → IsGood address item word → IsTextLine address (spelling (Run Word name ∷ [])) word
unfolding labels_of behind_labels
alone address name form item word named took good = record {
  found = written 1 (Run Word name ∷ []);
  item = item;
  read = spelled (Run Word name ∷ []) (named.run, refl, tt);
  labels = refl;
  behind = refl;
  asks = λ place text. asks_form place name form 1 [] item text named good.right took;
  good = good;
}

-- ---- names

-- a name begins with no digit
is_word_name : List ℕ → Bool
is_word_name [] = false
is_word_name (b ∷ bytes) = list_all is_name_byte (b ∷ bytes) && not (is_ascii_digit b)

letter_kind : (b : ℕ) → is_name_byte b ≡ true → is_ascii_digit b ≡ false → kind_of b ≡ Some Word
unfolding kind_of
letter_kind b name other = rw other (rw name refl)

word_run : (name : List ℕ) → is_word_name name ≡ true → IsRun Word name
unfolding is_word_name
word_run [] is = absurd (cc)
word_run (b ∷ bytes) is =
    record { some = omega arith; names = grind (arith, tests); first = letter_kind b (grind (arith, tests)) (grind (arith, tests)) }

named_by : (name : List ℕ) (form : Form) (others : List Form) → forms_named name ≡ Some (form ∷ others) → is_word_name name ≡ true → IsNamed name form
named_by name form others forms is = record { others = others; forms = forms; run = word_run name is }

pub lui_named : IsNamed (codes "lui") (form_ri (λ rd imm. with_imm is_imm_20 (λ n. Lui rd (word_of n)) imm ∷ []))
unfolding forms_named mnemonics is_name_byte is_word_name
lui_named = named_by _ _ [] refl refl

pub auipc_named : IsNamed (codes "auipc") (form_ri (λ rd imm. with_imm is_imm_20 (λ n. Auipc rd (word_of n)) imm ∷ []))
unfolding forms_named mnemonics is_name_byte is_word_name
auipc_named = named_by _ _ [] refl refl

pub jal_named : IsNamed (codes "jal") (form_re (λ rd target. jump_to rd target ∷ []))
unfolding forms_named mnemonics is_name_byte is_word_name
jal_named = named_by _ _ (form_e (λ target. jump_to 1 target ∷ []) ∷ []) refl refl

pub jalr_named : IsNamed (codes "jalr") (form_rm (λ rd imm rs1. with_imm is_imm_12 (Jalr rd rs1) imm ∷ []))
unfolding forms_named mnemonics is_name_byte is_word_name
jalr_named = named_by _ _ (form_rri (λ rd rs1 imm. with_imm is_imm_12 (Jalr rd rs1) imm ∷ []) ∷ form_r (λ rs. ready (Jalr 1 rs (pos 0))) ∷ []) refl refl

pub branch_named : (op : BranchOp) → IsNamed (branch_name op) (form_rre (λ rs1 rs2 target. branch_to op rs1 rs2 target ∷ []))
unfolding forms_named mnemonics is_name_byte is_word_name
branch_named Beq = named_by _ _ [] refl refl
branch_named Bne = named_by _ _ [] refl refl
branch_named Blt = named_by _ _ [] refl refl
branch_named Bge = named_by _ _ [] refl refl
branch_named Bltu = named_by _ _ [] refl refl
branch_named Bgeu = named_by _ _ [] refl refl

pub load_named : (op : LoadOp) → IsNamed (load_name op) (form_rm (λ rd imm rs1. with_imm is_imm_12 (Load op rd rs1) imm ∷ []))
unfolding forms_named mnemonics is_name_byte is_word_name
load_named Lb = named_by _ _ [] refl refl
load_named Lh = named_by _ _ [] refl refl
load_named Lw = named_by _ _ [] refl refl
load_named Lbu = named_by _ _ [] refl refl
load_named Lhu = named_by _ _ [] refl refl

pub store_named : (op : StoreOp) → IsNamed (store_name op) (form_rm (λ rs2 imm rs1. with_imm is_imm_12 (Store op rs1 rs2) imm ∷ []))
unfolding forms_named mnemonics is_name_byte is_word_name
store_named Sb = named_by _ _ [] refl refl
store_named Sh = named_by _ _ [] refl refl
store_named Sw = named_by _ _ [] refl refl

-- an operation whose form takes an immediate
pub record IsImmNamed (op : ImmOp) (z : ℤ) : Type 0 where
  pub fits : ℤ → Bool
  pub named : IsNamed (imm_name op) (form_rri (λ rd rs1 imm. with_imm fits (OpImm op rd rs1) imm ∷ []))
  pub takes : fits z ≡ true
  pub number : is_number z ≡ true

of_12_bits : (op : ImmOp) (z : ℤ) → IsNamed (imm_name op) (form_rri (λ rd rs1 imm. with_imm is_imm_12 (OpImm op rd rs1) imm ∷ [])) → IsSigned 12 z → IsImmNamed op z
of_12_bits op z named in_range = record { fits = is_imm_12; named = named; takes = imm_12 z in_range; number = imm_12_number z in_range }

of_shift : (op : ImmOp) (z : ℤ) → IsNamed (imm_name op) (form_rri (λ rd rs1 imm. with_imm is_shift (OpImm op rd rs1) imm ∷ [])) → IsShift z → IsImmNamed op z
of_shift op z named in_range = record { fits = is_shift; named = named; takes = shift z in_range; number = shift_number z in_range }

pub imm_named : (op : ImmOp) (z : ℤ) → IsImmOf op z → IsImmNamed op z
unfolding forms_named mnemonics is_name_byte is_word_name
imm_named Addi z in_range = of_12_bits Addi z (named_by _ _ [] refl refl) in_range
imm_named Slli z in_range = of_shift Slli z (named_by _ _ [] refl refl) in_range
imm_named Slti z in_range = of_12_bits Slti z (named_by _ _ [] refl refl) in_range
imm_named Sltiu z in_range = of_12_bits Sltiu z (named_by _ _ [] refl refl) in_range
imm_named Xori z in_range = of_12_bits Xori z (named_by _ _ [] refl refl) in_range
imm_named Srli z in_range = of_shift Srli z (named_by _ _ [] refl refl) in_range
imm_named Srai z in_range = of_shift Srai z (named_by _ _ [] refl refl) in_range
imm_named Ori z in_range = of_12_bits Ori z (named_by _ _ [] refl refl) in_range
imm_named Andi z in_range = of_12_bits Andi z (named_by _ _ [] refl refl) in_range

pub op_named : (op : RegOp) → IsNamed (op_name op) (form_rrr (λ rd rs1 rs2. ready (Op op rd rs1 rs2)))
unfolding forms_named mnemonics is_name_byte is_word_name
op_named Add = named_by _ _ [] refl refl
op_named Sub = named_by _ _ [] refl refl
op_named Sll = named_by _ _ [] refl refl
op_named Slt = named_by _ _ [] refl refl
op_named Sltu = named_by _ _ [] refl refl
op_named Xor = named_by _ _ [] refl refl
op_named Srl = named_by _ _ [] refl refl
op_named Sra = named_by _ _ [] refl refl
op_named Or = named_by _ _ [] refl refl
op_named And = named_by _ _ [] refl refl

-- an AMO's name for each pair of its ordering bits
pub record AreNamed (op : AmoOp) : Type 0 where
  pub plain : IsNamed (amo_name op) (form_rrb (λ rd rs2 rs1. ready (Amo op rd rs1 rs2 false false)))
  pub acquire : IsNamed (amo_name op ++ codes ".aq") (form_rrb (λ rd rs2 rs1. ready (Amo op rd rs1 rs2 true false)))
  pub release : IsNamed (amo_name op ++ codes ".rl") (form_rrb (λ rd rs2 rs1. ready (Amo op rd rs1 rs2 false true)))
  pub both : IsNamed (amo_name op ++ codes ".aqrl") (form_rrb (λ rd rs2 rs1. ready (Amo op rd rs1 rs2 true true)))

amos_named : (op : AmoOp) → AreNamed op
unfolding forms_named mnemonics is_name_byte is_word_name
amos_named Amoadd = record { plain = named_by _ _ [] refl refl; acquire = named_by _ _ [] refl refl; release = named_by _ _ [] refl refl; both = named_by _ _ [] refl refl }
amos_named Amoswap = record { plain = named_by _ _ [] refl refl; acquire = named_by _ _ [] refl refl; release = named_by _ _ [] refl refl; both = named_by _ _ [] refl refl }
amos_named Amoxor = record { plain = named_by _ _ [] refl refl; acquire = named_by _ _ [] refl refl; release = named_by _ _ [] refl refl; both = named_by _ _ [] refl refl }
amos_named Amoor = record { plain = named_by _ _ [] refl refl; acquire = named_by _ _ [] refl refl; release = named_by _ _ [] refl refl; both = named_by _ _ [] refl refl }
amos_named Amoand = record { plain = named_by _ _ [] refl refl; acquire = named_by _ _ [] refl refl; release = named_by _ _ [] refl refl; both = named_by _ _ [] refl refl }
amos_named Amomin = record { plain = named_by _ _ [] refl refl; acquire = named_by _ _ [] refl refl; release = named_by _ _ [] refl refl; both = named_by _ _ [] refl refl }
amos_named Amomax = record { plain = named_by _ _ [] refl refl; acquire = named_by _ _ [] refl refl; release = named_by _ _ [] refl refl; both = named_by _ _ [] refl refl }
amos_named Amominu = record { plain = named_by _ _ [] refl refl; acquire = named_by _ _ [] refl refl; release = named_by _ _ [] refl refl; both = named_by _ _ [] refl refl }
amos_named Amomaxu = record { plain = named_by _ _ [] refl refl; acquire = named_by _ _ [] refl refl; release = named_by _ _ [] refl refl; both = named_by _ _ [] refl refl }

pub amo_named : (op : AmoOp) (aq rl : Bool) → IsNamed (amo_name op ++ ordering_suffix aq rl) (form_rrb (λ rd rs2 rs1. ready (Amo op rd rs1 rs2 aq rl)))
amo_named op false false = subst (λ name. IsNamed name (form_rrb (λ rd rs2 rs1. ready (Amo op rd rs1 rs2 false false)))) (sym (append-nil (amo_name op))) (amos_named op).plain
amo_named op true false = (amos_named op).acquire
amo_named op false true = (amos_named op).release
amo_named op true true = (amos_named op).both

pub fence_named : IsNamed (codes "fence") (no_operands (ready (Fence (fence_word 15 15))))
unfolding forms_named mnemonics is_name_byte is_word_name
fence_named = named_by _ _ (form_ff (λ before after. ready (Fence (fence_word before after))) ∷ []) refl refl

pub ecall_named : IsNamed (codes "ecall") (no_operands (ready Ecall))
unfolding forms_named mnemonics is_name_byte is_word_name
ecall_named = named_by _ _ [] refl refl

pub ebreak_named : IsNamed (codes "ebreak") (no_operands (ready Ebreak))
unfolding forms_named mnemonics is_name_byte is_word_name
ebreak_named = named_by _ _ [] refl refl
