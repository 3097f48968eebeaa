-- Small job texts, and what the definitions give for them.
use Rattle.std.specs.Prelude.{◌≡◌, ℕ, List, [], ◌∷◌, ◌++◌, codes, take, drop, Option, Some, None}
use Rattle.job_text.specs.declared.job_fault.HeadWord.TheVariants as head
use Rattle.job_text.specs.declared.job_fault.LineCause.{LineCause}
use Rattle.job_text.specs.declared.job_fault.LineCause.TheVariants as cause
use Rattle.job_text.specs.declared.job_fault.JobFault.{JobFault}
use Rattle.job_text.specs.declared.job_fault.JobFault.TheVariants.{NotText, Line, Twice, Missing, Limit}
use Rattle.job_text.specs.declared.plan.Program.TheVariants.{Words, Asm, Image}
use Rattle.job_text.specs.declared.saying.Saying.TheVariants.{Sets, Runs}
use Rattle.job_text.specs.Faults.{said_in, fault_of}
use Rattle.job_text.specs.Generating.{state_after, text_from}
use Rattle.job_text.specs.Plans.{plan_text}

-- the heads of a small machine, but for the number of cores
abbrev pub heads_text : List ℕ
heads_text = codes "pmsi 1\nquantum 1\nline 4\nsets 1\nways 1\nmemory 64\nslots 4\n"

abbrev pub one_core : List ℕ → List ℕ
one_core lines = heads_text ++ codes "cores 1\n" ++ lines

abbrev pub two_cores : List ℕ → List ℕ
two_cores lines = heads_text ++ codes "cores 2\n" ++ lines

abbrev pub at : ℕ → LineCause → Option JobFault
at number why = Some (Line number why)

pub record ReadsTexts : Type 0 where
  pub one : fault_of (one_core (codes "core 0 hex 00700293 00000073\n")) ≡ None
  -- programs of the three kinds, in any order, with comments, tabs, a byte 13 and no last newline
  pub said :
      said_in (codes "# a job\n\n pmsi\t1 # its version\r\ncore 1 asm \tb.s#\ncores 02\ncore 0 hex\ncore 2 image i.img\ncore 3 hex 0000007F 0000007f")
      ≡ Sets head.Version 1 ∷ Runs 1 (Asm (codes "b.s")) ∷ Sets head.Cores 2 ∷ Runs 0 (Words []) ∷ Runs 2 (Image (codes "i.img"))
      ∷ Runs 3 (Words (127 ∷ 127 ∷ [])) ∷ []
  pub any_order : fault_of (codes "pmsi 1\r\ncore 1 asm b.s\nslots 0\nmemory 64\nways 1\ncore 0 hex\nsets 1\nline 4\nquantum 1\ncores 2") ≡ None
  -- names may be spelt as anything, and have bytes above 127, as those of `é` (195 and 169)
  pub names : fault_of (two_cores (codes "core 0 asm hex\ncore 1 image " ++ 195 ∷ 169 ∷ codes "\n")) ≡ None
  -- a byte 13 that isn't directly before a newline belongs to its field
  pub returns : said_in (codes "pmsi 1\ncore 0 asm a\rb\r\r\ncore 1 asm c\r")
      ≡ Sets head.Version 1 ∷ Runs 0 (Asm (codes "a\rb\r")) ∷ Runs 1 (Asm (codes "c\r")) ∷ []

pub record FindsFaults : Type 0 where
  pub not_text : fault_of (codes "pmsi 2\n" ++ 255 ∷ []) ≡ Some NotText
  pub no_lines : fault_of (codes "# nothing\n\n") ≡ Some (Missing head.Version)
  pub version : fault_of (codes "\npmsi 01\n") ≡ at 2 cause.Version
  pub version_field : fault_of (codes "pmsi 1 1\n") ≡ at 1 cause.Version
  pub no_version : fault_of (codes "cores 1\npmsi 1\n") ≡ at 1 cause.Version
  pub version_twice : fault_of (codes "pmsi 1\npmsi 2 3\n") ≡ Some (Twice head.Version)
  pub word : fault_of (codes "pmsi 1\ncores 1\nspeed 3\n") ≡ at 3 cause.Word
  pub kind : fault_of (codes "pmsi 1\ncore x elf a b\n") ≡ at 2 cause.Word
  pub head_count : fault_of (codes "pmsi 1\ncores\n") ≡ at 2 cause.Count
  pub head_counts : fault_of (codes "pmsi 1\ncores x 2\n") ≡ at 2 cause.Count
  pub core_count : fault_of (codes "pmsi 1\ncore x\n") ≡ at 2 cause.Count
  pub name_count : fault_of (codes "pmsi 1\ncore x asm\n") ≡ at 2 cause.Count
  pub name_counts : fault_of (codes "pmsi 1\ncore 0 image a b\n") ≡ at 2 cause.Count
  pub number : fault_of (codes "pmsi 1\ncores 0x1\n") ≡ at 2 cause.Number
  pub long_number : fault_of (codes "pmsi 1\ncores 00000000001\n") ≡ at 2 cause.Number
  pub core_number : fault_of (codes "pmsi 1\ncore 4294967296 hex\n") ≡ at 2 cause.Number
  pub long_word : fault_of (codes "pmsi 1\ncore 0 hex 00000073 000000073\n") ≡ at 2 cause.Number
  pub word_digit : fault_of (codes "pmsi 1\ncore 0 hex 0000007g\n") ≡ at 2 cause.Number
  pub twice : fault_of (codes "pmsi 1\nways 1\nways 2\n") ≡ Some (Twice head.Ways)
  -- cores are compared as numbers
  pub core_twice : fault_of (codes "pmsi 1\ncore 1 hex\ncore 01 asm a\n") ≡ Some (Twice (head.Core 1))
  pub wrong_before_twice : fault_of (codes "pmsi 1\nways 1\nways x\n") ≡ at 3 cause.Number
  -- an earlier line is first, and any line before what all lines say
  pub earlier_line : fault_of (codes "pmsi 1\ncores x\nspeed 3\n") ≡ at 2 cause.Number
  pub line_before_missing : fault_of (codes "pmsi 1\nslots x\n") ≡ at 2 cause.Number
  pub missing : fault_of (codes "pmsi 1\nquantum 1\ncore 7 hex\n") ≡ Some (Missing head.Cores)
  pub missing_before_limit : fault_of (codes "pmsi 1\ncores 17\n") ≡ Some (Missing head.Quantum)
  pub limit : fault_of (heads_text ++ codes "cores 17\n") ≡ Some (Limit head.Cores 17)
  pub first_limit : fault_of (codes "pmsi 1\nslots 4\nways 9\nsets 3\nline 4\nquantum 1\nmemory 64\ncores 1\n") ≡ Some (Limit head.Sets 3)
  pub line_limit : fault_of (codes "pmsi 1\nslots 4\nways 1\nsets 1\nline 12\nquantum 1\nmemory 96\ncores 1\n") ≡ Some (Limit head.Line 12)
  pub whole_lines : fault_of (codes "pmsi 1\nslots 4\nways 1\nsets 1\nline 16\nquantum 1\nmemory 96\ncores 1\n") ≡ Some (Limit head.Memory 96)
  pub wide : fault_of (codes "pmsi 1\nslots 9999999999\nways 1\nsets 1\nline 4\nquantum 1\nmemory 64\ncores 1\n") ≡ Some (Limit head.Slots 9999999999)
  pub least_core : fault_of (two_cores (codes "core 9 hex\ncore 3 hex\ncore 0 hex\n")) ≡ Some (Limit (head.Core 3) 3)
  pub missing_core : fault_of (two_cores (codes "core 1 hex\n")) ≡ Some (Missing (head.Core 0))

-- a plan's text, with the heads in their order
pub record PrintsPlans : Type 0 where
  pub text :
      plan_text (record {
        shape = record { cores = 2; quantum = 1; line_words = 4; sets = 1; ways = 1; memory = 64; slots = 1000000 };
        programs = Words (0x7f ∷ 0xabcdef01 ∷ []) ∷ Asm (codes "a.s") ∷ [];
      })
      ≡ codes "pmsi 1\ncores 2\nquantum 1\nline 4\nsets 1\nways 1\nmemory 64\nslots 1000000\ncore 0 hex 0000007f abcdef01\ncore 1 asm a.s\n"

-- words of the programs that seed 0 gives
pub record MakesPrograms : Type 0 where
  -- `addi x7, x0, 504` and `add x5, x5, x7`
  pub first : take 2 (text_from 0) ≡ 0x1f800393 ∷ 0x007282b3 ∷ []
  pub last : drop 60 (text_from 0) ≡ 0x34800393 ∷ 0x0053a023 ∷ 0x00130313 ∷ 0xf05ff06f ∷ []
  -- of core 1
  pub next : take 4 (text_from (state_after 0 31)) ≡ 0x28000393 ∷ 0x0003a283 ∷ 0x2d000393 ∷ 0x0053a023 ∷ []
