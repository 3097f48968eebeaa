-- The worked examples: each value is computed.
use Rattle.std.proofs.Common.{refl}
use Rattle.std.specs.Str.{is_utf8, chars}
use Rattle.std.specs.Fmt.{digits}
use Rattle.job_text.specs.Cutting.{fields_between, rows_from, rows_of}
use Rattle.job_text.specs.Sayings.{digits_in, number_in, word_in, words_in, read_kind, head_named, read_line, is_version}
use Rattle.job_text.specs.Faults.{first_of, sayings_of, number_at, program_of, cores_in, row_fault, rows_fault, missing_head, is_within, heads_limit, least, core_limit, missing_core, text_limit, said_fault, fault_of}
use Rattle.job_text.specs.Plans.{shape_lines, program_fields, core_lines, plan_text}
use Rattle.job_text.specs.Generating.{state_after, text_from}
use Rattle.job_text.specs.Examples.{ReadsTexts, FindsFaults, MakesPrograms, PrintsPlans}

pub reads_texts : ReadsTexts
unfolding fields_between rows_from rows_of digits_in number_in word_in words_in read_kind head_named read_line is_version first_of sayings_of number_at program_of cores_in row_fault rows_fault missing_head is_within heads_limit least core_limit missing_core text_limit said_fault fault_of is_utf8 chars lib.Utf8.encode lib.Count.ones
reads_texts = record {
  one = refl;
  said = refl;
  any_order = refl;
  names = refl;
  returns = refl;
}

pub finds_faults : FindsFaults
unfolding fields_between rows_from rows_of digits_in number_in word_in words_in read_kind head_named read_line is_version first_of sayings_of number_at program_of cores_in row_fault rows_fault missing_head is_within heads_limit least core_limit missing_core text_limit said_fault fault_of is_utf8 chars lib.Utf8.encode lib.Count.ones
finds_faults = record {
  not_text = refl;
  no_lines = refl;
  version = refl;
  version_field = refl;
  no_version = refl;
  version_twice = refl;
  word = refl;
  kind = refl;
  head_count = refl;
  head_counts = refl;
  core_count = refl;
  name_count = refl;
  name_counts = refl;
  number = refl;
  long_number = refl;
  core_number = refl;
  long_word = refl;
  word_digit = refl;
  twice = refl;
  core_twice = refl;
  wrong_before_twice = refl;
  earlier_line = refl;
  line_before_missing = refl;
  missing = refl;
  missing_before_limit = refl;
  limit = refl;
  first_limit = refl;
  line_limit = refl;
  whole_lines = refl;
  wide = refl;
  least_core = refl;
  missing_core = refl;
}

pub prints_plans : PrintsPlans
unfolding shape_lines program_fields core_lines plan_text digits
prints_plans = record {
  text = refl;
}

pub makes_programs : MakesPrograms
unfolding state_after text_from
makes_programs = record {
  first = refl;
  last = refl;
  next = refl;
}
