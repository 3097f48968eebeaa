-- Small scripts, and what the definitions give for them.
use Rattle.std.specs.Prelude.{◌≡◌, ℕ, List, [], ◌∷◌, ◌++◌, codes, Result, Ok, Err}
use Rattle.pmsi_model.specs.Examples.{reader_behind_an_owner, small}
use Rattle.script_text.specs.declared.command.Command.{Command}
use Rattle.script_text.specs.declared.command.Command.TheVariants.{Step, Break, Go, Regs, Held, Word, State, Left}
use Rattle.script_text.specs.declared.fault.ScriptCause.{ScriptCause}
use Rattle.script_text.specs.declared.fault.ScriptCause.TheVariants as cause
use Rattle.script_text.specs.declared.fault.ScriptFault.{ScriptFault}
use Rattle.script_text.specs.declared.fault.ScriptFault.TheVariants.{NotText, Line}
use Rattle.script_text.specs.Script.{command_in, script_of}
use Rattle.script_text.specs.Output.{debugged}

-- what a text says of a machine with two cores, four lines and 64 bytes of memory
abbrev pub said_in : List ℕ → Result (List Command) ScriptFault
said_in text = script_of (small 2 1 7) text

abbrev pub at : ℕ → ScriptCause → Result (List Command) ScriptFault
at number why = Err (Line number why)

pub record ReadsScripts : Type 0 where
  pub nothing : said_in (codes "# nothing\n \t\n") ≡ Ok []
  pub all : said_in (codes "step 4\nbreak 1 0xfFfFfFfF\ngo\nregs 0\nheld 01\nword 0x3c\nstate 1 3\nleft 1")
      ≡ Ok (Step 4 ∷ Break (record { core = 1; pc = 4294967295 }) ∷ Go ∷ Regs 0 ∷ Held 1 ∷ Word 60 ∷ State 1 3 ∷ Left 1 ∷ [])
  -- with comments, tabs, a byte 13, a number of many digits and no last newline
  pub blanks : said_in (codes "\tstep  1000000 # all\r\n\ngo#\n\tstep\t0000000000000000000001") ≡ Ok (Step 1000000 ∷ Go ∷ Step 1 ∷ [])
  pub not_text : said_in (codes "fly\n" ++ 255 ∷ []) ≡ Err NotText
  pub word : said_in (codes "# a script\n\nfly 1\n") ≡ at 3 cause.Word
  pub count : said_in (codes "step\n") ≡ at 1 cause.Count
  pub counts : said_in (codes "regs 9 9\n") ≡ at 1 cause.Count
  pub number : said_in (codes "go\nstep 0x123456789\n") ≡ at 2 cause.Number
  pub large : said_in (codes "state 2 4294967296\n") ≡ at 1 cause.Number
  pub no_slot : said_in (codes "step 0\nfly\n") ≡ at 1 cause.Range
  pub no_core : said_in (codes "left 2\n") ≡ at 1 cause.Range
  pub unaligned : said_in (codes "word 62\n") ≡ at 1 cause.Range
  pub no_word : said_in (codes "word 64\n") ≡ at 1 cause.Range
  pub no_line : said_in (codes "state 0 4\n") ≡ at 1 cause.Range
  pub last : command_in (small 2 1 7) 9999 (codes "go" ∷ []) ≡ Ok Go
  pub many : command_in (small 2 1 7) 10000 (codes "fly" ∷ []) ≡ Err cause.Many

pub record RunsScripts : Type 0 where
  pub looks : debugged reader_behind_an_owner (codes "step 4\nstate 0 0\nleft 1\nleft 0\nword 0\ngo\nregs 1\n")
      ≡ Ok (codes "slot 4\nstate 0 0 MSWB\nleft 1 5\nleft 0 -\nword 0x00000000 0x00000007\nslot 7\n"
      ++ codes "core 1 pc 0x0000000c retired 3 exit 1\nregs x6=0x00000007 x10=0x00000001 x11=0x00000002\n")
  -- core 0 waits with this pc at two boundaries
  pub stops : debugged reader_behind_an_owner (codes "break 0 4\ngo\ngo\ngo\nheld 0\n") ≡ Ok (codes "slot 1\nslot 2\nslot 7\nheld 0:S\n")
  -- it halts with this one, which holds no more
  pub halted : debugged reader_behind_an_owner (codes "break 0 8\ngo\ngo\n") ≡ Ok (codes "slot 3\nslot 7\n")
  pub fault : debugged reader_behind_an_owner (codes "go\nfly\n") ≡ Err (Line 2 cause.Word)
