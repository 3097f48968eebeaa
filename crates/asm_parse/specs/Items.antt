-- What the code's instructions, numbers and statements stand for.
use Rattle.std.specs.Prelude.{◌≡◌, ℕ, ◌/◌, ◌%◌, ◌^◌, ℤ, Bool, false, true, nat_lt, ◌==◌, ◌&&◌, List, [], ◌∷◌, map}
use Rattle.pmsi_model.specs.declared.instr.Instr.{Instr}
use Rattle.pmsi_model.specs.declared.instr.Instr.TheVariants.{Lui, Auipc, Jal, Jalr, Branch, Load, Store, OpImm, Op, Amo, Fence, Ecall, Ebreak}
use Rattle.pmsi_model.specs.declared.instr.ImmOp.{ImmOp}
use Rattle.pmsi_model.specs.declared.instr.ImmOp.TheVariants.{Addi, Slli, Slti, Sltiu, Xori, Srli, Srai, Ori, Andi}
use Rattle.pmsi_model.specs.Words.{word_of}
use Rattle.asm_parse.specs.declared.item.Item as code_item
use Rattle.asm_parse.specs.declared.item.Item.TheVariants as item
use Rattle.asm_parse.specs.declared.item.Instrs.{Instrs}
use Rattle.asm_parse.specs.declared.item.Instrs.TheVariants.{One, Two}
use Rattle.asm_parse.specs.declared.item.Width.{Width}
use Rattle.asm_parse.specs.declared.item.Width.TheVariants.{Byte, Half, Word}
use Rattle.asm_parse.specs.declared.statement.Statement as code_statement
use Rattle.asm_parse.specs.declared.statement.Statement.TheVariants as statement
use Rattle.asm_operands.specs.declared.expr.Expr as code_expr
use Rattle.asm_operands.specs.Numbers.{is_number}
use Rattle.asm_parse.specs.Mnemonics.{Item, Known, Numbered, Distant, Instruction, part_of, with_imm, is_imm_12, is_imm_20, is_shift, reaches}
use Rattle.asm_operands.specs.Meanings.{lexeme, expr, imm}
use Rattle.asm_parse.specs.Assembly.{Statement, Nothing, Switch, Emit, Zeros, MoveTo, Define, number_item, is_byte, is_half}

-- an instruction with another immediate or offset
abbrev pub filled : Instr → ℤ → Instr
filled (Lui rd imm) n = Lui rd (word_of n)
filled (Auipc rd imm) n = Auipc rd (word_of n)
filled (Jal rd offset) n = Jal rd n
filled (Jalr rd rs1 imm) n = Jalr rd rs1 n
filled (Branch op rs1 rs2 offset) n = Branch op rs1 rs2 n
filled (Load op rd rs1 imm) n = Load op rd rs1 n
filled (Store op rs1 rs2 imm) n = Store op rs1 rs2 n
filled (OpImm op rd rs1 imm) n = OpImm op rd rs1 n
filled (Op op rd rs1 rs2) n = Op op rd rs1 rs2
filled (Amo op rd rs1 rs2 aq rl) n = Amo op rd rs1 rs2 aq rl
filled (Fence word) n = Fence word
filled Ecall n = Ecall
filled Ebreak n = Ebreak

abbrev pub op_takes : ImmOp → ℤ → Bool
op_takes Addi n = is_imm_12 n
op_takes Slli n = is_shift n
op_takes Slti n = is_imm_12 n
op_takes Sltiu n = is_imm_12 n
op_takes Xori n = is_imm_12 n
op_takes Srli n = is_shift n
op_takes Srai n = is_shift n
op_takes Ori n = is_imm_12 n
op_takes Andi n = is_imm_12 n

-- the immediates and offsets that an instruction takes
abbrev pub takes : Instr → ℤ → Bool
takes (Lui rd imm) n = is_imm_20 n
takes (Auipc rd imm) n = is_imm_20 n
takes (Jal rd offset) n = reaches 1048576 n
takes (Jalr rd rs1 imm) n = is_imm_12 n
takes (Branch op rs1 rs2 offset) n = reaches 4096 n
takes (Load op rd rs1 imm) n = is_imm_12 n
takes (Store op rs1 rs2 imm) n = is_imm_12 n
takes (OpImm op rd rs1 imm) n = op_takes op n
takes (Op op rd rs1 rs2) n = is_imm_12 n
takes (Amo op rd rs1 rs2 aq rl) n = is_imm_12 n
takes (Fence word) n = is_imm_12 n
takes Ecall n = is_imm_12 n
takes Ebreak n = is_imm_12 n

abbrev pub item_of : code_item.Item → Item
item_of (item.Known instr) = Known (Instruction instr)
item_of (item.Immediate instr i) = with_imm (takes instr) (filled instr) (imm i)
item_of (item.Address instr part e) = Numbered (expr e) e.column is_number (λ n. Instruction (filled instr (part_of part n)))
item_of (item.Target instr e) = Distant (expr e) (takes instr) (λ n. Instruction (filled instr n))

abbrev pub instrs_of : Instrs → List Item
instrs_of (One a) = item_of a ∷ []
instrs_of (Two a b) = item_of a ∷ item_of b ∷ []

-- ---- numbers

abbrev pub bytes_in : Width → ℕ
bytes_in Byte = 1
bytes_in Half = 2
bytes_in Word = 4

abbrev pub fits_in : Width → ℤ → Bool
fits_in Byte n = is_byte n
fits_in Half n = is_half n
fits_in Word n = is_number n

abbrev pub number_of : Width → code_expr.Expr → Item
number_of width e = number_item (bytes_in width) (fits_in width) (expr e)

-- ---- statements

abbrev pub statement_of : code_statement.Statement → Statement
statement_of statement.Nothing = Nothing
statement_of (statement.Switch to_data) = Switch to_data
statement_of (statement.Instrs instrs) = Emit (map (λ item. (4, item)) (instrs_of instrs))
statement_of (statement.Numbers width numbers) = Emit (map (λ item. (bytes_in width, item)) (map (number_of width) numbers.items))
statement_of (statement.Zeros count) = Zeros count
statement_of (statement.MoveTo address) = MoveTo address
statement_of (statement.Define name n) = Define (lexeme name) n

-- ---- what every item of the code keeps to

abbrev pub is_fence : ℕ → Bool
is_fence word = nat_lt word (2 ^ 32) && (word % 2 ^ 7 == 0xf) && (word / 2 ^ 12 % 2 ^ 3 == 0)

-- an instruction has an immediate or offset that it takes, and a fence is one
abbrev pub is_ready : Instr → Bool
is_ready (Lui rd imm) = nat_lt imm (2 ^ 20)
is_ready (Auipc rd imm) = nat_lt imm (2 ^ 20)
is_ready (Jal rd offset) = reaches 1048576 offset
is_ready (Jalr rd rs1 imm) = is_imm_12 imm
is_ready (Branch op rs1 rs2 offset) = reaches 4096 offset
is_ready (Load op rd rs1 imm) = is_imm_12 imm
is_ready (Store op rs1 rs2 imm) = is_imm_12 imm
is_ready (OpImm op rd rs1 imm) = op_takes op imm
is_ready (Op op rd rs1 rs2) = true
is_ready (Amo op rd rs1 rs2 aq rl) = true
is_ready (Fence word) = is_fence word
is_ready Ecall = true
is_ready Ebreak = true

-- the instruction is ready, and takes each part of an address that is loaded
abbrev pub IsReady : code_item.Item → Type 0
IsReady (item.Known instr) = is_ready instr ≡ true
IsReady (item.Immediate instr i) = is_ready instr ≡ true
IsReady (item.Address instr part e) = (is_ready instr ≡ true) × ((n : ℤ) → takes instr (part_of part n) ≡ true)
IsReady (item.Target instr e) = is_ready instr ≡ true

abbrev pub AreReady : Instrs → Type 0
AreReady (One a) = IsReady a
AreReady (Two a b) = IsReady a × IsReady b

-- what was read in text or in data: instructions are ready and stand in text, and numbers in text are words
abbrev pub IsSound : Bool → code_statement.Statement → Type 0
IsSound in_data statement.Nothing = Unit {0}
IsSound in_data (statement.Switch to_data) = Unit {0}
IsSound in_data (statement.Instrs instrs) = (in_data ≡ false) × AreReady instrs
IsSound in_data (statement.Numbers width numbers) = in_data ≡ false → width ≡ Word
IsSound in_data (statement.Zeros count) = Unit {0}
IsSound in_data (statement.MoveTo address) = Unit {0}
IsSound in_data (statement.Define name n) = Unit {0}
