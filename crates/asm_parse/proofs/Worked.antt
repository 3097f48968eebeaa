-- The worked examples: each value is computed.
use Rattle.std.proofs.Common.{◌≡◌, ℕ, ◌<◌, ◌^◌, pos, [], ◌∷◌, All, Some, refl, arith}
use Rattle.std.proofs.lemmas.List.Elements.{All-nil, All-cons}
use Rattle.pmsi_model.proofs.Encodings.{reads_one_way}
use Rattle.pmsi_model.specs.declared.instr.Instr.{Instr}
use Rattle.pmsi_model.specs.Instruction.{IsEncodingOf, instr_of}
use Rattle.pmsi_model.specs.declared.instr.Instr.TheVariants.{OpImm, Ecall}
use Rattle.pmsi_model.specs.declared.instr.ImmOp.TheVariants.{Addi}
use Rattle.asm_operands.specs.Tokens.{is_name_byte, is_blank, kind_of, is_strange, code_of, is_after_name, is_within_run, end_at, token_at, tokens_of}
use Rattle.asm_parse.specs.Lines.{lines_of}
use Rattle.asm_operands.specs.Numbers.{digits_behind, number_spelt, registers, register_named, weights_behind, fence_set}
use Rattle.asm_operands.specs.Operands.{take_kind, take_literal, take_expr, take_imm, take_register, take_in_parentheses, take_memory, take_base, take_fences, take_constant, take_more, take_exprs, take_r, take_rr, take_rrr, take_ri, take_rri, take_rm, take_rrb, take_e, take_re, take_rre, take_rc, take_ff}
use Rattle.asm_parse.specs.Mnemonics.{take_forms, mnemonics, forms_named}
use Rattle.asm_parse.specs.Assembly.{first_of, directives, labels_of, behind_labels, first_twice, reading_fault, placing_fault, asked, directive_named, step_of, after_step, steps_from, steps_of, names_of, placed_from, placed, later_fault, asm_fault, text_of, data_of, byte_at}
use Rattle.asm_parse.specs.Examples.{ReadsInstructions, ReadsData, FindsFaults, Assembles}

pub reads_instructions : ReadsInstructions
unfolding is_name_byte is_blank kind_of is_strange code_of is_after_name is_within_run end_at token_at tokens_of lines_of digits_behind number_spelt registers register_named weights_behind fence_set take_kind take_literal take_expr take_imm take_register take_in_parentheses take_memory take_base take_fences take_constant take_more take_exprs take_r take_rr take_rrr take_ri take_rri take_rm take_rrb take_e take_re take_rre take_rc take_ff take_forms mnemonics forms_named first_of directives labels_of behind_labels first_twice reading_fault placing_fault asked directive_named step_of after_step steps_from steps_of names_of placed_from placed later_fault asm_fault text_of data_of
reads_instructions = record {
  adds = refl;
  li_12_bits = refl;
  li_carries = refl;
  li_high_only = refl;
  li_both = refl;
  li_minus_one = refl;
  li_least = refl;
  li_name = refl;
  fence = refl;
  fence_all = refl;
  named_as_register = refl;
  loads_and_stores = refl;
  high_and_low = refl;
  low_of_a_sum = refl;
  high_of_a_sum = refl;
  la = refl;
  amo = refl;
  jumps = refl;
  branches = refl;
  word = refl;
}

pub reads_data : ReadsData
unfolding is_name_byte is_blank kind_of is_strange code_of is_after_name is_within_run end_at token_at tokens_of lines_of digits_behind number_spelt registers register_named weights_behind fence_set take_kind take_literal take_expr take_imm take_register take_in_parentheses take_memory take_base take_fences take_constant take_more take_exprs take_r take_rr take_rrr take_ri take_rri take_rm take_rrb take_e take_re take_rre take_rc take_ff take_forms mnemonics forms_named first_of directives labels_of behind_labels first_twice reading_fault placing_fault asked directive_named step_of after_step steps_from steps_of names_of placed_from placed later_fault asm_fault text_of data_of
reads_data = record {
  words = refl;
  names = refl;
  moves = refl;
  limit = refl;
}

pub finds_faults : FindsFaults
unfolding is_name_byte is_blank kind_of is_strange code_of is_after_name is_within_run end_at token_at tokens_of lines_of digits_behind number_spelt registers register_named weights_behind fence_set take_kind take_literal take_expr take_imm take_register take_in_parentheses take_memory take_base take_fences take_constant take_more take_exprs take_r take_rr take_rrr take_ri take_rri take_rm take_rrb take_e take_re take_rre take_rc take_ff take_forms mnemonics forms_named first_of directives labels_of behind_labels first_twice reading_fault placing_fault asked directive_named step_of after_step steps_from steps_of names_of placed_from placed later_fault asm_fault text_of data_of
finds_faults = record {
  character = refl;
  word = refl;
  no_word = refl;
  character_first = refl;
  comma = refl;
  line_end = refl;
  no_parenthesis = refl;
  no_register = refl;
  more = refl;
  zero_alone = refl;
  fence_order = refl;
  later_equ = refl;
  data_in_text = refl;
  data_only = refl;
  text_in_data = refl;
  number = refl;
  minus = refl;
  high_part = refl;
  misspelt = refl;
  misspelt_later = refl;
  twice = refl;
  twice_on_a_line = refl;
  overlap = refl;
  range = refl;
  org_range = refl;
  unknown = refl;
  first_round_first = refl;
  unknown_before_number = refl;
  sum_too_wide = refl;
  unknown_in_a_part = refl;
  shift = refl;
  alignment = refl;
  part_in_a_word = refl;
  first_round_of_a_later_line = refl;
  reach = refl;
  far = refl;
  too_far = refl;
  return = refl;
}

encodes : (word : ℕ) (instr : Instr) → word < 2 ^ 32 → instr_of word ≡ Some instr → IsEncodingOf word instr
encodes word instr within read = (reads_one_way word instr within).1 read

encodes_addi : IsEncodingOf 0x00700293 (OpImm Addi 5 0 (pos 7))
unfolding instr_of
encodes_addi = encodes 0x00700293 (OpImm Addi 5 0 (pos 7)) (omega arith) refl

encodes_ecall : IsEncodingOf 0x00000073 Ecall
unfolding instr_of
encodes_ecall = encodes 0x00000073 Ecall (omega arith) refl

pub assembles : Assembles
unfolding is_name_byte is_blank kind_of is_strange code_of is_after_name is_within_run end_at token_at tokens_of lines_of digits_behind number_spelt registers register_named weights_behind fence_set take_kind take_literal take_expr take_imm take_register take_in_parentheses take_memory take_base take_fences take_constant take_more take_exprs take_r take_rr take_rrr take_ri take_rri take_rm take_rrb take_e take_re take_rre take_rc take_ff take_forms mnemonics forms_named first_of directives labels_of behind_labels first_twice reading_fault placing_fault asked directive_named step_of after_step steps_from steps_of names_of placed_from placed later_fault asm_fault text_of data_of byte_at
assembles = record {
  adds = record {
    faultless = refl;
    within = record {
      text = omega arith;
      words = All-cons (λ word. word < 2 ^ 32) 0x00700293 (0x00000073 ∷ []) (omega arith) (All-cons (λ word. word < 2 ^ 32) 0x00000073 [] (omega arith) (All-nil (λ word. word < 2 ^ 32)));
      pieces = tt;
      bytes = All-nil (λ piece. All (λ byte. byte < 256) piece.bytes);
    };
    text = (encodes_addi, (encodes_ecall, tt));
    memory = λ address. refl;
  };
}
