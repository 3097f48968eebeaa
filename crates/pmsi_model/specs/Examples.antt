-- Worked examples: small jobs, and what the definitions say of their runs. The instructions are given as words.
use Rattle.std.specs.Prelude.{pos, negsuc, slice_set, ◌++◌, codes, ◌≡◌, ℕ, ◌+◌, List, [], ◌∷◌, replicate, map, true, false, ◌==◌, if◌then◌else◌, Option, Some, None}
use Rattle.pmsi_model.specs.declared.job.Geometry.{Geometry}
use Rattle.pmsi_model.specs.declared.Action.TheVariants.{Idle, Post, Fill, PostFill, Back}
use Rattle.pmsi_model.specs.declared.Halt.TheVariants.{Exit, JumpMisaligned, Misaligned, Range}
use Rattle.pmsi_model.specs.declared.Keep.{Keep}
use Rattle.pmsi_model.specs.declared.Kind.{Kind}
use Rattle.pmsi_model.specs.declared.Kind.TheVariants.{Read, Write}
use Rattle.pmsi_model.specs.declared.Mode.{Mode}
use Rattle.pmsi_model.specs.declared.Mode.TheVariants.{Shared, Modified}
use Rattle.pmsi_model.specs.declared.Name.TheVariants.{GetS, GetM, Upg}
use Rattle.pmsi_model.specs.declared.Row.{Row}
use Rattle.pmsi_model.specs.declared.State.{State}
use Rattle.pmsi_model.specs.declared.State.TheVariants.{I, S, ISD, ISDI, IMD, MSWB, MIWB}
use Rattle.pmsi_model.specs.declared.Status.{Status}
use Rattle.pmsi_model.specs.declared.Status.TheVariants.{Running, Halted}
use Rattle.pmsi_model.specs.declared.Touch.{Touch}
use Rattle.pmsi_model.specs.declared.AccessOp.TheVariants.{Load, Amo}
use Rattle.pmsi_model.specs.declared.instr.Instr.TheVariants.{Jalr, OpImm}
use Rattle.pmsi_model.specs.declared.instr.ImmOp.TheVariants.{Sltiu, Srai}
use Rattle.pmsi_model.specs.declared.instr.LoadOp.TheVariants.{Lb, Lhu}
use Rattle.pmsi_model.specs.declared.instr.AmoOp.TheVariants.{Amomin, Amominu}
use Rattle.pmsi_model.specs.Access.{access_value, access_bytes}
use Rattle.pmsi_model.specs.Effect.{effect_of, Next}
use Rattle.pmsi_model.specs.Job.{JobValue}
use Rattle.pmsi_model.specs.Slots.{plan_of, bound_of}
use Rattle.pmsi_model.specs.Machine.{CoreState}
use Rattle.pmsi_model.specs.Run.{machine_at, records, touches_of}
use Rattle.pmsi_model.specs.Rows.{rows_of, open_rows_of, wait_of, age_of}
use Rattle.pmsi_model.specs.Waiting.{slots_left}
use Rattle.pmsi_model.specs.Listing.{listing_of}
use Rattle.pmsi_model.specs.Named.{state_of}

-- ---- instructions

abbrev pub nop : ℕ
nop = 0x00000013

-- addi x5, x0, 7
abbrev pub addi_x5_7 : ℕ
addi_x5_7 = 0x00700293

-- lw x5, 0(x0) and so on
abbrev pub lw_x5_0 : ℕ
lw_x5_0 = 0x00002283

abbrev pub lw_x6_0 : ℕ
lw_x6_0 = 0x00002303

abbrev pub lw_x6_16 : ℕ
lw_x6_16 = 0x01002303

abbrev pub lw_x7_0 : ℕ
lw_x7_0 = 0x00002383

abbrev pub lw_x8_32 : ℕ
lw_x8_32 = 0x02002403

abbrev pub sw_x5_0 : ℕ
sw_x5_0 = 0x00502023

abbrev pub sw_x10_0 : ℕ
sw_x10_0 = 0x00a02023

abbrev pub sw_x11_0 : ℕ
sw_x11_0 = 0x00b02023

abbrev pub sw_x11_16 : ℕ
sw_x11_16 = 0x00b02823

abbrev pub ecall : ℕ
ecall = 0x00000073

-- ---- jobs

-- lines of four words, one set of so many ways, and 64 bytes of memory
abbrev pub small : ℕ → ℕ → ℕ → Geometry
small cores ways slots = record { cores = cores; quantum = 1; line_words = 4; sets = 1; ways = ways; memory = 64; slots = slots }

abbrev pub job_of : Geometry → List (List ℕ) → JobValue
job_of shape texts = record { shape = shape; texts = texts; start = replicate 64 0 }

-- no history is asked for, or both are
abbrev pub keep_neither : Keep
keep_neither = record { trace = false; touches = false }

abbrev pub keep_both : Keep
keep_both = record { trace = true; touches = true }

-- ---- what is read off a run

-- the numbers of a list that aren't 0, each with its place
abbrev pub nonzero_from : ℕ → List ℕ → List (ℕ × ℕ)
nonzero_from place [] = []
nonzero_from place (n ∷ ns) = if n == 0 then nonzero_from (place + 1) ns else (place, n) ∷ nonzero_from (place + 1) ns

-- how a core ends: its registers and memory's bytes are given where they aren't 0
pub record CoreEnd : Type 0 where
  pub pc : ℕ
  pub retired : ℕ
  pub status : Status
  pub regs : List (ℕ × ℕ)
  pub held : List (ℕ × Mode)

abbrev pub core_end : ℕ → ℕ → Status → List (ℕ × ℕ) → List (ℕ × Mode) → CoreEnd
core_end pc retired status regs held = record { pc = pc; retired = retired; status = status; regs = regs; held = held }

abbrev pub end_of : CoreState → CoreEnd
end_of k = core_end k.pc k.retired k.status (nonzero_from 0 k.regs) k.held

abbrev pub core_at_end : JobValue → ℕ → CoreEnd
core_at_end job c = end_of ((machine_at job job.shape.slots).cores c)

abbrev pub memory_at_end : JobValue → List (ℕ × ℕ)
memory_at_end job = nonzero_from 0 (machine_at job job.shape.slots).memory

abbrev pub row : ℕ → ℕ → Kind → ℕ → ℕ → ℕ → Row
row core line kind issue post fill = record { core = core; line = line; kind = kind; issue = issue; post = post; fill = fill }

abbrev pub touch : ℕ → ℕ → Kind → ℕ → ℕ → ℕ → Touch
touch slot core kind address old new = record { slot = slot; core = core; address = address; width = 4; kind = kind; old = old; new = new }

-- the state of line 0 in a core at a boundary
abbrev pub state_at : JobValue → ℕ → ℕ → State
state_at job slot c = state_of (machine_at job slot) c 0

abbrev pub left_at : JobValue → ℕ → ℕ → Option ℕ
left_at job slot c = slots_left (plan_of job) (machine_at job slot) c

abbrev pub exited : ℕ → Status
exited code = Halted (Exit code)

-- ---- one core adds and exits

abbrev pub adds_and_exits : JobValue
adds_and_exits = job_of (small 1 1 4) ((addi_x5_7 ∷ ecall ∷ []) ∷ [])

pub record AddsAndExits : Type 0 where
  pub core : core_at_end adds_and_exits 0 ≡ core_end 4 1 (exited 0) ((5, 7) ∷ (11, 1) ∷ []) []
  pub memory : memory_at_end adds_and_exits ≡ []
  pub rows : rows_of adds_and_exits 4 ≡ []
  pub open_rows : open_rows_of adds_and_exits 4 ≡ []
  pub bound : bound_of (plan_of adds_and_exits) ≡ 8
  pub listing : listing_of adds_and_exits keep_neither ≡
      codes "pmsi listing 1\n"
      ++ codes "cores 1 quantum 1 line 4 sets 1 ways 1 memory 64 slots 4\n"
      ++ codes "core 0 pc 0x00000004 retired 1 exit 0\n"
      ++ codes "regs x5=0x00000007 x11=0x00000001\n"
      ++ codes "held\n"
      ++ codes "waits 0 count 0 greatest 0 sum 0\n"
      ++ codes "bound 8\n"
      ++ codes "end\n"

-- ---- the same job before its first slot

abbrev pub takes_no_slot : JobValue
takes_no_slot = job_of (small 1 1 0) ((addi_x5_7 ∷ ecall ∷ []) ∷ [])

pub record TakesNoSlot : Type 0 where
  pub core : core_at_end takes_no_slot 0 ≡ core_end 0 0 Running ((11, 1) ∷ []) []
  pub memory : memory_at_end takes_no_slot ≡ []
  pub rows : rows_of takes_no_slot 0 ≡ []
  pub open_rows : open_rows_of takes_no_slot 0 ≡ []

-- ---- one core adds, stores, loads what it stored, and exits

abbrev pub stores_and_loads : JobValue
stores_and_loads = job_of (small 1 1 4) ((addi_x5_7 ∷ sw_x5_0 ∷ lw_x6_0 ∷ ecall ∷ []) ∷ [])

pub record StoresAndLoads : Type 0 where
  pub listing : listing_of stores_and_loads keep_neither ≡
      codes "pmsi listing 1\n"
      ++ codes "cores 1 quantum 1 line 4 sets 1 ways 1 memory 64 slots 4\n"
      ++ codes "core 0 pc 0x0000000c retired 3 exit 0\n"
      ++ codes "regs x5=0x00000007 x6=0x00000007 x11=0x00000001\n"
      ++ codes "held 0:M\n"
      ++ codes "mem 0x00000000 07000000000000000000000000000000\n"
      ++ codes "row core 0 line 0 write issue 1 post 1 fill 1 wait 1\n"
      ++ codes "waits 0 count 1 greatest 1 sum 1\n"
      ++ codes "bound 8\n"
      ++ codes "end\n"

-- ---- two cores write one word; the first owner halts, and still writes the line back

abbrev pub two_writers : JobValue
two_writers = let text : List ℕ = addi_x5_7 ∷ sw_x5_0 ∷ ecall ∷ [] in job_of (small 2 1 6) (text ∷ text ∷ [])

pub record TwoWriters : Type 0 where
  pub actions : records two_writers 6 ≡ Idle ∷ PostFill GetM 0 ∷ Post GetM 0 ∷ Back 0 false ∷ Fill 0 ∷ Idle ∷ []
  pub core_0 : core_at_end two_writers 0 ≡ core_end 8 2 (exited 0) ((5, 7) ∷ (11, 2) ∷ []) ((0, Modified) ∷ [])
  pub core_1 : core_at_end two_writers 1 ≡ core_end 8 2 (exited 1) ((5, 7) ∷ (10, 1) ∷ (11, 2) ∷ []) []
  pub halted_owner : ((machine_at two_writers 3).cores 1).status ≡ exited 1
  pub memory : memory_at_end two_writers ≡ (0, 7) ∷ []
  pub rows : rows_of two_writers 6 ≡ row 1 0 Write 1 1 1 ∷ row 0 0 Write 1 2 4 ∷ []
  pub waits : map wait_of (rows_of two_writers 6) ≡ 1 ∷ 4 ∷ []
  pub open_rows : open_rows_of two_writers 6 ≡ []
  pub touches : touches_of two_writers 6 ≡ touch 1 1 Write 0 0 7 ∷ touch 4 0 Write 0 7 7 ∷ []
  pub left_0 : map (λ slot. left_at two_writers slot 0) (2 ∷ 3 ∷ 4 ∷ []) ≡ Some 25 ∷ Some 5 ∷ Some 3 ∷ []
  pub left_1 : map (λ slot. left_at two_writers slot 1) (2 ∷ 3 ∷ 4 ∷ []) ≡ None ∷ None ∷ None ∷ []
  pub bound : bound_of (plan_of two_writers) ≡ 36
  pub listing : listing_of two_writers keep_both ≡
      codes "pmsi listing 1\n"
      ++ codes "cores 2 quantum 1 line 4 sets 1 ways 1 memory 64 slots 6\n"
      ++ codes "core 0 pc 0x00000008 retired 2 exit 0\n"
      ++ codes "regs x5=0x00000007 x11=0x00000002\n"
      ++ codes "held 0:M\n"
      ++ codes "core 1 pc 0x00000008 retired 2 exit 1\n"
      ++ codes "regs x5=0x00000007 x10=0x00000001 x11=0x00000002\n"
      ++ codes "held\n"
      ++ codes "mem 0x00000000 07000000000000000000000000000000\n"
      ++ codes "row core 1 line 0 write issue 1 post 1 fill 1 wait 1\n"
      ++ codes "row core 0 line 0 write issue 1 post 2 fill 4 wait 4\n"
      ++ codes "waits 0 count 1 greatest 4 sum 4\n"
      ++ codes "waits 1 count 1 greatest 1 sum 1\n"
      ++ codes "bound 36\n"
      ++ codes "slot 0 core 0 idle\n"
      ++ codes "slot 1 core 1 postfill GetM 0\n"
      ++ codes "slot 2 core 0 post GetM 0\n"
      ++ codes "slot 3 core 1 back 0 drop\n"
      ++ codes "slot 4 core 0 fill 0\n"
      ++ codes "slot 5 core 1 idle\n"
      ++ codes "touch 1 core 1 write 4 0x00000000 0x00000000 0x00000007\n"
      ++ codes "touch 4 core 0 write 4 0x00000000 0x00000007 0x00000007\n"
      ++ codes "end\n"

-- ---- the same job, cut off while a request is open

abbrev pub open_at_the_end : JobValue
open_at_the_end = let text : List ℕ = addi_x5_7 ∷ sw_x5_0 ∷ ecall ∷ [] in job_of (small 2 1 4) (text ∷ text ∷ [])

pub record OpenAtTheEnd : Type 0 where
  pub core_0 : core_at_end open_at_the_end 0 ≡ core_end 4 1 Running ((5, 7) ∷ (11, 2) ∷ []) []
  pub core_1 : core_at_end open_at_the_end 1 ≡ core_end 8 2 (exited 1) ((5, 7) ∷ (10, 1) ∷ (11, 2) ∷ []) []
  pub rows : rows_of open_at_the_end 4 ≡ row 1 0 Write 1 1 1 ∷ []
  pub open_rows : open_rows_of open_at_the_end 4 ≡ record { core = 0; line = 0; kind = Write; issue = 1; post = Some 2 } ∷ []
  pub ages : map (age_of 4) (open_rows_of open_at_the_end 4) ≡ 3 ∷ []
  pub listing : listing_of open_at_the_end keep_neither ≡
      codes "pmsi listing 1\n"
      ++ codes "cores 2 quantum 1 line 4 sets 1 ways 1 memory 64 slots 4\n"
      ++ codes "core 0 pc 0x00000004 retired 1 running\n"
      ++ codes "regs x5=0x00000007 x11=0x00000002\n"
      ++ codes "held\n"
      ++ codes "core 1 pc 0x00000008 retired 2 exit 1\n"
      ++ codes "regs x5=0x00000007 x10=0x00000001 x11=0x00000002\n"
      ++ codes "held\n"
      ++ codes "mem 0x00000000 07000000000000000000000000000000\n"
      ++ codes "row core 1 line 0 write issue 1 post 1 fill 1 wait 1\n"
      ++ codes "open core 0 line 0 write issue 1 post 2 age 3\n"
      ++ codes "waits 0 count 0 greatest 0 sum 0\n"
      ++ codes "waits 1 count 1 greatest 1 sum 1\n"
      ++ codes "bound 36\n"
      ++ codes "end\n"

-- ---- a reader behind an owner: both keep the line

abbrev pub reader_behind_an_owner : JobValue
reader_behind_an_owner = job_of (small 2 1 7) ((addi_x5_7 ∷ sw_x5_0 ∷ ecall ∷ []) ∷ (nop ∷ nop ∷ lw_x6_0 ∷ ecall ∷ []) ∷ [])

pub record ReaderBehindAnOwner : Type 0 where
  pub actions : records reader_behind_an_owner 7 ≡ Idle ∷ Idle ∷ PostFill GetM 0 ∷ Post GetS 0 ∷ Back 0 true ∷ Fill 0 ∷ Idle ∷ []
  pub core_0 : core_at_end reader_behind_an_owner 0 ≡ core_end 8 2 (exited 0) ((5, 7) ∷ (11, 2) ∷ []) ((0, Shared) ∷ [])
  pub core_1 : core_at_end reader_behind_an_owner 1 ≡ core_end 12 3 (exited 1) ((6, 7) ∷ (10, 1) ∷ (11, 2) ∷ []) ((0, Shared) ∷ [])
  pub memory : memory_at_end reader_behind_an_owner ≡ (0, 7) ∷ []
  pub waits : map wait_of (rows_of reader_behind_an_owner 7) ≡ 2 ∷ 4 ∷ []
  pub states_0 : map (λ slot. state_at reader_behind_an_owner slot 0) (4 ∷ 5 ∷ []) ≡ MSWB ∷ S ∷ []
  pub states_1 : map (λ slot. state_at reader_behind_an_owner slot 1) (4 ∷ 5 ∷ []) ≡ ISD ∷ ISD ∷ []
  pub left : left_at reader_behind_an_owner 4 1 ≡ Some 5
  pub left_none : left_at reader_behind_an_owner 4 0 ≡ None

-- ---- a read is served before a write that was posted later, and keeps no copy

abbrev pub read_before_write : JobValue
read_before_write = job_of (small 3 1 7) ((sw_x11_0 ∷ ecall ∷ []) ∷ (lw_x6_0 ∷ ecall ∷ []) ∷ (sw_x10_0 ∷ ecall ∷ []) ∷ [])

pub record ReadBeforeWrite : Type 0 where
  pub actions : records read_before_write 7 ≡ PostFill GetM 0 ∷ Post GetS 0 ∷ Post GetM 0 ∷ Back 0 false ∷ Fill 0 ∷ Fill 0 ∷ Idle ∷ []
  pub core_0 : core_at_end read_before_write 0 ≡ core_end 4 1 (exited 0) ((11, 3) ∷ []) []
  pub core_1 : core_at_end read_before_write 1 ≡ core_end 4 1 (exited 1) ((6, 3) ∷ (10, 1) ∷ (11, 3) ∷ []) []
  pub core_2 : core_at_end read_before_write 2 ≡ core_end 4 1 (exited 2) ((10, 2) ∷ (11, 3) ∷ []) ((0, Modified) ∷ [])
  pub memory : memory_at_end read_before_write ≡ (0, 2) ∷ []
  pub waits : map wait_of (rows_of read_before_write 7) ≡ 1 ∷ 5 ∷ 6 ∷ []
  pub states : map (state_at read_before_write 3) (0 ∷ 1 ∷ 2 ∷ []) ≡ MIWB ∷ ISDI ∷ IMD ∷ []
  pub bound : bound_of (plan_of read_before_write) ≡ 96
  pub left_1 : map (λ slot. left_at read_before_write slot 1) (1 ∷ 2 ∷ 3 ∷ 4 ∷ []) ≡ Some 73 ∷ Some 8 ∷ Some 7 ∷ Some 4 ∷ []
  pub left_2 : map (λ slot. left_at read_before_write slot 2) (1 ∷ 2 ∷ 3 ∷ 4 ∷ 5 ∷ []) ≡ Some 74 ∷ Some 73 ∷ Some 31 ∷ Some 28 ∷ Some 4 ∷ []

-- ---- two holders of a shared line store: the first upgrades, the other has lost its copy by then

abbrev pub shared_holders_store : JobValue
shared_holders_store = let text : List ℕ = lw_x6_0 ∷ sw_x10_0 ∷ ecall ∷ [] in job_of (small 2 1 7) (text ∷ text ∷ [])

pub record SharedHoldersStore : Type 0 where
  pub actions : records shared_holders_store 7 ≡ PostFill GetS 0 ∷ PostFill GetS 0 ∷ PostFill Upg 0 ∷ Post GetM 0 ∷ Back 0 false ∷ Fill 0 ∷ Idle ∷ []
  pub rows : rows_of shared_holders_store 7 ≡ row 0 0 Read 0 0 0 ∷ row 1 0 Read 0 1 1 ∷ row 0 0 Write 1 2 2 ∷ row 1 0 Write 2 3 5 ∷ []
  pub waits : map wait_of (rows_of shared_holders_store 7) ≡ 1 ∷ 2 ∷ 2 ∷ 4 ∷ []
  pub memory : memory_at_end shared_holders_store ≡ (0, 1) ∷ []

-- ---- a modified victim is written back before the request is posted

abbrev pub modified_victim : JobValue
modified_victim = job_of (small 1 1 4) ((sw_x11_0 ∷ sw_x11_16 ∷ ecall ∷ []) ∷ [])

pub record ModifiedVictim : Type 0 where
  pub actions : records modified_victim 4 ≡ PostFill GetM 0 ∷ Back 0 false ∷ PostFill GetM 1 ∷ Idle ∷ []
  pub core : core_at_end modified_victim 0 ≡ core_end 8 2 (exited 0) ((11, 1) ∷ []) ((1, Modified) ∷ [])
  pub memory : memory_at_end modified_victim ≡ (0, 1) ∷ (16, 1) ∷ []
  pub waits : map wait_of (rows_of modified_victim 4) ≡ 1 ∷ 2 ∷ []
  pub left : left_at modified_victim 2 0 ≡ Some 5

-- ---- a victim that another core had asked for already is written back once

abbrev pub victim_already_demanded : JobValue
victim_already_demanded = job_of (small 2 1 6) ((sw_x11_0 ∷ nop ∷ sw_x11_16 ∷ ecall ∷ []) ∷ (lw_x6_0 ∷ ecall ∷ []) ∷ [])

pub record VictimAlreadyDemanded : Type 0 where
  pub actions : records victim_already_demanded 6 ≡ PostFill GetM 0 ∷ Post GetS 0 ∷ Back 0 false ∷ Fill 0 ∷ PostFill GetM 1 ∷ Idle ∷ []
  pub core_0 : core_at_end victim_already_demanded 0 ≡ core_end 12 3 (exited 0) ((11, 2) ∷ []) ((1, Modified) ∷ [])
  pub core_1 : core_at_end victim_already_demanded 1 ≡ core_end 4 1 (exited 1) ((6, 2) ∷ (10, 1) ∷ (11, 2) ∷ []) ((0, Shared) ∷ [])
  pub rows : rows_of victim_already_demanded 6 ≡ row 0 0 Write 0 0 0 ∷ row 1 0 Read 0 1 3 ∷ row 0 1 Write 2 4 4 ∷ []
  pub waits : map wait_of (rows_of victim_already_demanded 6) ≡ 1 ∷ 4 ∷ 3 ∷ []
  pub states : map (λ slot. state_at victim_already_demanded slot 0) (2 ∷ 3 ∷ []) ≡ MSWB ∷ I ∷ []
  pub left_0 : map (λ slot. left_at victim_already_demanded slot 0) (3 ∷ 4 ∷ []) ≡ Some 26 ∷ Some 25 ∷ []

-- ---- the least recently used line is the victim, and not the one that came first

abbrev pub least_recently_used : JobValue
least_recently_used = job_of (small 1 2 5) ((lw_x5_0 ∷ lw_x6_16 ∷ lw_x7_0 ∷ lw_x8_32 ∷ ecall ∷ []) ∷ [])

pub record LeastRecentlyUsed : Type 0 where
  pub actions : records least_recently_used 5 ≡ PostFill GetS 0 ∷ PostFill GetS 1 ∷ Idle ∷ PostFill GetS 2 ∷ Idle ∷ []
  pub core : core_at_end least_recently_used 0 ≡ core_end 16 4 (exited 0) ((11, 1) ∷ []) ((2, Shared) ∷ (0, Shared) ∷ [])
  pub used_again : ((machine_at least_recently_used 3).cores 0).held ≡ (0, Shared) ∷ (1, Shared) ∷ []
  pub line_1_gone : ((machine_at least_recently_used 4).cores 0).held ≡ (2, Shared) ∷ (0, Shared) ∷ []
  pub waits : map wait_of (rows_of least_recently_used 5) ≡ 1 ∷ 1 ∷ 1 ∷ []

-- ---- lines of two sets: a line takes the place of one of its own set

abbrev pub two_sets : JobValue
two_sets = job_of (record (small 1 1 5) { sets = 2 }) ((lw_x5_0 ∷ lw_x6_16 ∷ lw_x8_32 ∷ lw_x6_16 ∷ ecall ∷ []) ∷ [])

pub record TwoSets : Type 0 where
  pub actions : records two_sets 5 ≡ PostFill GetS 0 ∷ PostFill GetS 1 ∷ PostFill GetS 2 ∷ Idle ∷ Idle ∷ []
  pub line_0_gone : ((machine_at two_sets 3).cores 0).held ≡ (2, Shared) ∷ (1, Shared) ∷ []
  pub core : core_at_end two_sets 0 ≡ core_end 16 4 (exited 0) ((11, 1) ∷ []) ((1, Shared) ∷ (2, Shared) ∷ [])

-- ---- two cores write bytes of one word

-- addi x5, x0, 85; sb x5, 1(x0), and addi x6, x0, 51; sb x6, 2(x0); then both load the word
abbrev pub byte_lanes : JobValue
byte_lanes = job_of (small 2 1 7) ((0x05500293 ∷ 0x005000a3 ∷ lw_x7_0 ∷ ecall ∷ []) ∷ (0x03300313 ∷ 0x00600123 ∷ lw_x7_0 ∷ ecall ∷ []) ∷ [])

abbrev pub byte_touch : ℕ → ℕ → ℕ → ℕ → ℕ → Touch
byte_touch slot core address old new = record (touch slot core Write address old new) { width = 1 }

pub record ByteLanes : Type 0 where
  pub actions : records byte_lanes 7 ≡ Idle ∷ PostFill GetM 0 ∷ Post GetM 0 ∷ Back 0 false ∷ Fill 0 ∷ Idle ∷ Idle ∷ []
  pub core_0 : core_at_end byte_lanes 0 ≡ core_end 12 3 (exited 0) ((5, 85) ∷ (7, 0x00335500) ∷ (11, 2) ∷ []) ((0, Modified) ∷ [])
  pub core_1 : core_at_end byte_lanes 1 ≡ core_end 12 3 (exited 1) ((6, 51) ∷ (7, 0x00330000) ∷ (10, 1) ∷ (11, 2) ∷ []) []
  pub memory : memory_at_end byte_lanes ≡ (1, 0x55) ∷ (2, 0x33) ∷ []
  pub touches : touches_of byte_lanes 7 ≡
      byte_touch 1 1 2 0 51 ∷ touch 2 1 Read 0 0x00330000 0x00330000 ∷ byte_touch 4 0 1 0 85 ∷ touch 5 0 Read 0 0x00335500 0x00335500 ∷ []

-- ---- cores that count up one word, with a quantum of four instructions: core k posts in slot k, and fills after all before it

-- addi x6, x0, 1; amoadd.w x5, x6, (x0); ecall
abbrev pub counts_up : ℕ → ℕ → JobValue
counts_up cores slots = job_of (record (small cores 1 slots) { quantum = 4 }) (replicate cores (0x00100313 ∷ 0x006022af ∷ ecall ∷ []))

pub record CountsUp : Type 0 where
  pub actions : records (counts_up 4 17) 17 ≡
      PostFill GetM 0 ∷ Post GetM 0 ∷ Post GetM 0 ∷ Post GetM 0 ∷ Back 0 false
      ∷ Fill 0 ∷ Idle ∷ Idle ∷ Idle ∷ Back 0 false
      ∷ Fill 0 ∷ Idle ∷ Idle ∷ Idle ∷ Back 0 false
      ∷ Fill 0 ∷ Idle ∷ []
  pub core_0 : core_at_end (counts_up 4 17) 0 ≡ core_end 8 2 (exited 0) ((6, 1) ∷ (11, 4) ∷ []) []
  pub core_3 : core_at_end (counts_up 4 17) 3 ≡ core_end 8 2 (exited 3) ((5, 3) ∷ (6, 1) ∷ (10, 3) ∷ (11, 4) ∷ []) ((0, Modified) ∷ [])
  pub memory : memory_at_end (counts_up 4 17) ≡ (0, 4) ∷ []
  pub rows : rows_of (counts_up 4 17) 17 ≡ row 0 0 Write 0 0 0 ∷ row 1 0 Write 0 1 5 ∷ row 2 0 Write 0 2 10 ∷ row 3 0 Write 0 3 15 ∷ []
  -- sixteen cores, while the first three are served
  pub sixteen : map wait_of (rows_of (counts_up 16 36) 36) ≡ 1 ∷ 18 ∷ 35 ∷ []
  pub sixteen_open : map (age_of 36) (open_rows_of (counts_up 16 36) 36) ≡ replicate 13 36

-- ---- instructions beyond those of the other examples

-- addi x5, x0, 9; amoswap.w.aqrl x5, x5, (x0); ecall: x5 gets the old word, and memory the 9
abbrev pub swaps : JobValue
swaps = job_of (small 1 1 3) ((0x00900293 ∷ 0x0e5022af ∷ ecall ∷ []) ∷ [])

-- jal x1, .+6
abbrev pub jumps_off : JobValue
jumps_off = job_of (small 1 1 1) ((0x006000ef ∷ []) ∷ [])

-- beq x0, x11, .+6, which isn't taken; ecall
abbrev pub passes_by : JobValue
passes_by = job_of (small 1 1 2) ((0x00b00363 ∷ ecall ∷ []) ∷ [])

-- lw x5, 2(x0)
abbrev pub loads_askew : JobValue
loads_askew = job_of (small 1 1 1) ((0x00202283 ∷ []) ∷ [])

-- lw x5, 64(x0)
abbrev pub loads_beyond : JobValue
loads_beyond = job_of (small 1 1 1) ((0x04002283 ∷ []) ∷ [])

-- registers that are 0 but for x5
abbrev pub with_x5 : ℕ → List ℕ
with_x5 value = slice_set (replicate 32 0) 5 value

abbrev pub with_x5_x6 : ℕ → ℕ → List ℕ
with_x5_x6 value other = slice_set (with_x5 value) 6 other

pub record ExecutesInstructions : Type 0 where
  pub swap : core_at_end swaps 0 ≡ core_end 8 2 (exited 0) ((11, 1) ∷ []) ((0, Modified) ∷ [])
  pub swapped : memory_at_end swaps ≡ (0, 9) ∷ []
  pub jump : core_at_end jumps_off 0 ≡ core_end 0 0 (Halted (JumpMisaligned 6)) ((11, 1) ∷ []) []
  pub branch : core_at_end passes_by 0 ≡ core_end 4 1 (exited 0) ((11, 1) ∷ []) []
  pub misaligned : core_at_end loads_askew 0 ≡ core_end 0 0 (Halted (Misaligned 2)) ((11, 1) ∷ []) []
  pub range : core_at_end loads_beyond 0 ≡ core_end 0 0 (Halted (Range 64)) ((11, 1) ∷ []) []
  -- the target's bit 0 is cleared, and taken before rd is written
  pub jalr : effect_of (Jalr 5 5 (pos 0)) (with_x5 0x105) 0 64 ≡ Next (with_x5 4) 0x104
  -- the immediate is sign-extended, and compared as unsigned
  pub sltiu : effect_of (OpImm Sltiu 6 5 (negsuc 0)) (with_x5 5) 0 64 ≡ Next (with_x5_x6 5 1) 4
  pub srai : effect_of (OpImm Srai 6 5 (pos 31)) (with_x5 0x80000000) 0 64 ≡ Next (with_x5_x6 0x80000000 0xffffffff) 4
  pub lb : access_value (Load Lb) (0x80 ∷ []) ≡ 0xffffff80
  pub lhu : access_value (Load Lhu) (0x34 ∷ 0x92 ∷ []) ≡ 0x9234
  pub amomin : access_bytes (Amo Amomin) 1 (0xff ∷ 0xff ∷ 0xff ∷ 0xff ∷ []) ≡ 0xff ∷ 0xff ∷ 0xff ∷ 0xff ∷ []
  pub amominu : access_bytes (Amo Amominu) 1 (0xff ∷ 0xff ∷ 0xff ∷ 0xff ∷ []) ≡ 1 ∷ 0 ∷ 0 ∷ 0 ∷ []

-- ---- the bound of the largest machine

pub record LargestBound : Type 0 where
  pub bound : bound_of (plan_of (job_of (small 16 1 0) [])) ≡ 9248
