-- The worked examples: the checker computes each value.
use Rattle.std.proofs.Common.{refl}
use Rattle.std.specs.Fmt.{digits}
use Rattle.pmsi_model.specs.Examples.{AddsAndExits, TakesNoSlot, StoresAndLoads, TwoWriters, OpenAtTheEnd, ReaderBehindAnOwner, ReadBeforeWrite, SharedHoldersStore, ModifiedVictim, VictimAlreadyDemanded, LeastRecentlyUsed, TwoSets, ByteLanes, CountsUp, ExecutesInstructions, LargestBound}
use Rattle.pmsi_model.specs.ExampleWords.{ReadsWords}
use Rattle.pmsi_model.specs.Instruction.{instr_of}
use Rattle.pmsi_model.specs.Phase.{instruction, instructions, instruction_touches, phase, phase_touches, phases, phases_touches}
use Rattle.pmsi_model.specs.Bus.{post, fill, write_back, action_of, after_action}
use Rattle.pmsi_model.specs.Run.{start_of, slot_done, machine_at, records, touches_of}
use Rattle.pmsi_model.specs.Rows.{rows_of}
use Rattle.pmsi_model.specs.Lines.{shape_line, core_line, regs_line, held_line, memory_line, row_line, open_row_line, waits_line, action_line, action_lines, touch_line}
use Rattle.pmsi_model.specs.Listing.{listing_of}
use Rattle.pmsi_model.specs.Named.{behind_of, state_in}

pub adds_and_exits : AddsAndExits
unfolding instr_of instruction instructions instruction_touches phase phase_touches phases phases_touches post fill write_back action_of after_action start_of slot_done machine_at records touches_of rows_of listing_of shape_line core_line regs_line held_line memory_line row_line open_row_line waits_line action_line action_lines touch_line behind_of state_in digits
adds_and_exits = record { core = refl; memory = refl; rows = refl; open_rows = refl; bound = refl; listing = refl }

pub takes_no_slot : TakesNoSlot
unfolding instr_of instruction instructions instruction_touches phase phase_touches phases phases_touches post fill write_back action_of after_action start_of slot_done machine_at records touches_of rows_of listing_of shape_line core_line regs_line held_line memory_line row_line open_row_line waits_line action_line action_lines touch_line behind_of state_in digits
takes_no_slot = record { core = refl; memory = refl; rows = refl; open_rows = refl }

pub stores_and_loads : StoresAndLoads
unfolding instr_of instruction instructions instruction_touches phase phase_touches phases phases_touches post fill write_back action_of after_action start_of slot_done machine_at records touches_of rows_of listing_of shape_line core_line regs_line held_line memory_line row_line open_row_line waits_line action_line action_lines touch_line behind_of state_in digits
stores_and_loads = record { listing = refl }

pub two_writers : TwoWriters
unfolding instr_of instruction instructions instruction_touches phase phase_touches phases phases_touches post fill write_back action_of after_action start_of slot_done machine_at records touches_of rows_of listing_of shape_line core_line regs_line held_line memory_line row_line open_row_line waits_line action_line action_lines touch_line behind_of state_in digits
two_writers = record { actions = refl; core_0 = refl; core_1 = refl; halted_owner = refl; memory = refl; rows = refl; waits = refl; open_rows = refl; touches = refl; left_0 = refl; left_1 = refl; bound = refl; listing = refl }

pub open_at_the_end : OpenAtTheEnd
unfolding instr_of instruction instructions instruction_touches phase phase_touches phases phases_touches post fill write_back action_of after_action start_of slot_done machine_at records touches_of rows_of listing_of shape_line core_line regs_line held_line memory_line row_line open_row_line waits_line action_line action_lines touch_line behind_of state_in digits
open_at_the_end = record { core_0 = refl; core_1 = refl; rows = refl; open_rows = refl; ages = refl; listing = refl }

pub reader_behind_an_owner : ReaderBehindAnOwner
unfolding instr_of instruction instructions instruction_touches phase phase_touches phases phases_touches post fill write_back action_of after_action start_of slot_done machine_at records touches_of rows_of listing_of shape_line core_line regs_line held_line memory_line row_line open_row_line waits_line action_line action_lines touch_line behind_of state_in digits
reader_behind_an_owner = record { actions = refl; core_0 = refl; core_1 = refl; memory = refl; waits = refl; states_0 = refl; states_1 = refl; left = refl; left_none = refl }

pub read_before_write : ReadBeforeWrite
unfolding instr_of instruction instructions instruction_touches phase phase_touches phases phases_touches post fill write_back action_of after_action start_of slot_done machine_at records touches_of rows_of listing_of shape_line core_line regs_line held_line memory_line row_line open_row_line waits_line action_line action_lines touch_line behind_of state_in digits
read_before_write = record { actions = refl; core_0 = refl; core_1 = refl; core_2 = refl; memory = refl; waits = refl; states = refl; bound = refl; left_1 = refl; left_2 = refl }

pub shared_holders_store : SharedHoldersStore
unfolding instr_of instruction instructions instruction_touches phase phase_touches phases phases_touches post fill write_back action_of after_action start_of slot_done machine_at records touches_of rows_of listing_of shape_line core_line regs_line held_line memory_line row_line open_row_line waits_line action_line action_lines touch_line behind_of state_in digits
shared_holders_store = record { actions = refl; rows = refl; waits = refl; memory = refl }

pub modified_victim : ModifiedVictim
unfolding instr_of instruction instructions instruction_touches phase phase_touches phases phases_touches post fill write_back action_of after_action start_of slot_done machine_at records touches_of rows_of listing_of shape_line core_line regs_line held_line memory_line row_line open_row_line waits_line action_line action_lines touch_line behind_of state_in digits
modified_victim = record { actions = refl; core = refl; memory = refl; waits = refl; left = refl }

pub victim_already_demanded : VictimAlreadyDemanded
unfolding instr_of instruction instructions instruction_touches phase phase_touches phases phases_touches post fill write_back action_of after_action start_of slot_done machine_at records touches_of rows_of listing_of shape_line core_line regs_line held_line memory_line row_line open_row_line waits_line action_line action_lines touch_line behind_of state_in digits
victim_already_demanded = record { actions = refl; core_0 = refl; core_1 = refl; rows = refl; waits = refl; states = refl; left_0 = refl }

pub least_recently_used : LeastRecentlyUsed
unfolding instr_of instruction instructions instruction_touches phase phase_touches phases phases_touches post fill write_back action_of after_action start_of slot_done machine_at records touches_of rows_of listing_of shape_line core_line regs_line held_line memory_line row_line open_row_line waits_line action_line action_lines touch_line behind_of state_in digits
least_recently_used = record { actions = refl; core = refl; used_again = refl; line_1_gone = refl; waits = refl }

pub two_sets : TwoSets
unfolding instr_of instruction instructions instruction_touches phase phase_touches phases phases_touches post fill write_back action_of after_action start_of slot_done machine_at records touches_of rows_of listing_of shape_line core_line regs_line held_line memory_line row_line open_row_line waits_line action_line action_lines touch_line behind_of state_in digits
two_sets = record { actions = refl; line_0_gone = refl; core = refl }

pub byte_lanes : ByteLanes
unfolding instr_of instruction instructions instruction_touches phase phase_touches phases phases_touches post fill write_back action_of after_action start_of slot_done machine_at records touches_of rows_of listing_of shape_line core_line regs_line held_line memory_line row_line open_row_line waits_line action_line action_lines touch_line behind_of state_in digits
byte_lanes = record { actions = refl; core_0 = refl; core_1 = refl; memory = refl; touches = refl }

pub counts_up : CountsUp
unfolding instr_of instruction instructions instruction_touches phase phase_touches phases phases_touches post fill write_back action_of after_action start_of slot_done machine_at records touches_of rows_of listing_of shape_line core_line regs_line held_line memory_line row_line open_row_line waits_line action_line action_lines touch_line behind_of state_in digits
counts_up = record { actions = refl; core_0 = refl; core_3 = refl; memory = refl; rows = refl; sixteen = refl; sixteen_open = refl }

pub reads_words : ReadsWords
unfolding instr_of
reads_words = record {
  lui = refl;
  auipc = refl;
  addi = refl;
  slli = refl;
  slti = refl;
  sltiu = refl;
  xori = refl;
  srli = refl;
  srai = refl;
  ori = refl;
  andi = refl;
  add = refl;
  sub = refl;
  sll = refl;
  slt = refl;
  sltu = refl;
  xor = refl;
  srl = refl;
  sra = refl;
  or_ = refl;
  and_ = refl;
  jal = refl;
  jal_back = refl;
  jalr = refl;
  beq = refl;
  bne = refl;
  blt = refl;
  bge = refl;
  bltu = refl;
  bgeu = refl;
  lb = refl;
  lh = refl;
  lw = refl;
  lbu = refl;
  lhu = refl;
  sb = refl;
  sh = refl;
  sw = refl;
  fence = refl;
  fence_tso = refl;
  ecall = refl;
  ebreak = refl;
  amoadd = refl;
  amoswap = refl;
  amoxor = refl;
  amoor = refl;
  amoand = refl;
  amomin = refl;
  amomax = refl;
  amominu = refl;
  amomaxu = refl;
  no_word = refl;
  all_ones = refl;
  fence_i = refl;
  lr = refl;
  sc = refl;
  mul = refl;
  csrrw = refl;
  mret = refl;
  ld = refl;
  slli_32 = refl;
  no_branch = refl;
  amoadd_d = refl;
  ecall_rd = refl;
}

pub executes_instructions : ExecutesInstructions
unfolding instr_of instruction instructions instruction_touches phase phase_touches phases phases_touches post fill write_back action_of after_action start_of slot_done machine_at records touches_of rows_of listing_of shape_line core_line regs_line held_line memory_line row_line open_row_line waits_line action_line action_lines touch_line behind_of state_in digits
executes_instructions = record {
  swap = refl;
  swapped = refl;
  jump = refl;
  branch = refl;
  misaligned = refl;
  range = refl;
  jalr = refl;
  sltiu = refl;
  srai = refl;
  lb = refl;
  lhu = refl;
  amomin = refl;
  amominu = refl;
}

pub largest_bound : LargestBound
unfolding instr_of instruction instructions instruction_touches phase phase_touches phases phases_touches post fill write_back action_of after_action start_of slot_done machine_at records touches_of rows_of listing_of shape_line core_line regs_line held_line memory_line row_line open_row_line waits_line action_line action_lines touch_line behind_of state_in digits
largest_bound = record { bound = refl }
