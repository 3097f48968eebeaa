-- The worked examples: each value is computed.
use Rattle.std.proofs.Common.{refl}
use Rattle.std.specs.Str.{is_utf8, chars}
use Rattle.std.specs.Fmt.{digits}
use Rattle.pmsi_model.specs.Instruction.{instr_of}
use Rattle.pmsi_model.specs.Phase.{instruction, instructions, phase, phases}
use Rattle.pmsi_model.specs.Bus.{post, fill, write_back, action_of, after_action}
use Rattle.pmsi_model.specs.Run.{start_of, slot_done, machine_at}
use Rattle.pmsi_model.specs.Lines.{core_line, regs_line, held_line}
use Rattle.pmsi_model.specs.Named.{behind_of, state_in}
use Rattle.job_text.specs.Cutting.{fields_between, rows_from, rows_of}
use Rattle.script_text.specs.Script.{spelt_in, number_in, verb_named, command_in, commands_in, script_of}
use Rattle.script_text.specs.Output.{go_end, after, printed, output_from, debugged}
use Rattle.script_text.specs.Examples.{ReadsScripts, RunsScripts}

pub reads_scripts : ReadsScripts
unfolding fields_between rows_from rows_of spelt_in number_in verb_named command_in commands_in script_of is_utf8 chars lib.Utf8.encode lib.Count.ones
reads_scripts = record {
  nothing = refl;
  all = refl;
  blanks = refl;
  not_text = refl;
  word = refl;
  count = refl;
  counts = refl;
  number = refl;
  large = refl;
  no_slot = refl;
  no_core = refl;
  unaligned = refl;
  no_word = refl;
  no_line = refl;
  last = refl;
  many = refl;
}

pub runs_scripts : RunsScripts
unfolding fields_between rows_from rows_of spelt_in number_in verb_named command_in commands_in script_of is_utf8 chars lib.Utf8.encode lib.Count.ones go_end after printed output_from debugged instr_of instruction instructions phase phases post fill write_back action_of after_action start_of slot_done machine_at core_line regs_line held_line behind_of state_in digits
runs_scripts = record { looks = refl; stops = refl; halted = refl; fault = refl }
