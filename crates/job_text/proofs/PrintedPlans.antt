-- The text of a plan means that plan.
use Rattle.std.proofs.Common.{◌≡◌, ℕ, zero, suc, ◌+◌, ◌^◌, ◌<◌, ◌≤◌, Bool, false, true, List, [], ◌∷◌, ◌++◌, map, length, get_or, Option, Some, None, IsUtf8, refl, sym, ap, subst, ◌∙◌, arith, append_assoc, append-nil}
use Rattle.std.specs.Prelude.{◌==◌, codes, is_none, nat_le, slice_get}
use Rattle.std.specs.Int.{is_power_of_two}
use Rattle.std.specs.List.{AllZip, filter, find, range_with_len}
use Rattle.std.specs.Str.Lines.{lines}
use Rattle.std.proofs.lemmas.Bool.Decides.{nat_tests}
use Rattle.std.proofs.lemmas.Str.{IsUtf8-append}
use Rattle.pmsi_model.specs.declared.job.Geometry.{Geometry}
use Rattle.pmsi_model.specs.Geometry.{IsGeometry}
use Rattle.job_text.specs.declared.job_fault.HeadWord.TheVariants as head
use Rattle.job_text.specs.declared.job_fault.JobFault.{JobFault}
use Rattle.job_text.specs.declared.plan.JobPlan.{JobPlan}
use Rattle.job_text.specs.declared.plan.Program.{Program}
use Rattle.job_text.specs.declared.plan.Program.TheVariants.{Asm, Image, Words}
use Rattle.job_text.specs.declared.saying.Saying.{Saying}
use Rattle.job_text.specs.declared.saying.Saying.TheVariants.{Runs, Sets}
use Rattle.job_text.specs.Cutting.{Row, rows_from, rows_of}
use Rattle.job_text.specs.Faults.{core_limit, cores_in, first_of, heads_limit, is_within, least, missing_core, missing_head, number_at, program_of, row_fault, rows_fault, said_fault, sayings_of, text_limit, words_limit}
use Rattle.job_text.specs.Laws.{PrintedMeans}
use Rattle.job_text.specs.Plans.{HasFewWords, IsPlan, IsPrintable, SaysPrograms, SaysShape, core_lines, plan_text, shape_lines}
use Rattle.job_text.specs.Sayings.{is_version}
use Rattle.text_out.proofs.Exports.{none}
use Rattle.job_text.proofs.OneJoin.{get_some}
use Rattle.job_text.proofs.RowReads.{first_only}
use Rattle.job_text.proofs.SayingLists.{program_of_push}
use Rattle.job_text.proofs.WholeTexts.{plan_is}
use Rattle.job_text.proofs.PrintedFields.{fixed_field}
use Rattle.job_text.proofs.PrintedLines.{IsLine, joined_line}
use Rattle.job_text.proofs.PrintedSayings.{AreNew, IsSaid, Says, all_said, both, cores_say, no_fault, runs, shape_says, shape_sayings}

-- what the lines behind the first say
abbrev pub behind : JobPlan → List Saying
behind plan = shape_sayings plan.shape ++ runs 0 plan.programs

abbrev pub sayings : JobPlan → List Saying
sayings plan = Sets head.Version 1 ∷ behind plan

-- ---- nothing is said twice

core_else : (core c : ℕ) (program : Program) → core + 1 ≤ c → program_of c (Runs core program ∷ []) ≡ None
unfolding program_of
core_else core c program from = grind (arith, nat_tests)

none_yet : (said : List Saying) (core c : ℕ) (program : Program) → program_of c said ≡ None → core + 1 ≤ c → program_of c (said ++ Runs core program ∷ []) ≡ None
none_yet said core c program none from = program_of_push c said (Runs core program) ∙ rw (none, core_else core c program from) refl

runs_new : (said : List Saying) (core : ℕ) (programs : List Program) → ((c : ℕ) → core ≤ c → program_of c said ≡ None) → AreNew said (runs core programs)
runs_new said core [] none = tt
runs_new said core (program ∷ programs) none =
    (rw (none core (omega arith)) refl, runs_new (said ++ Runs core program ∷ []) (core + 1) programs (λ c from. none_yet said core c program (none c (omega arith)) from))

all_new : (plan : JobPlan) → AreNew (Sets head.Version 1 ∷ []) (behind plan)
unfolding number_at program_of
all_new plan =
    (refl, (refl, (refl, (refl, (refl, (refl, (refl, runs_new (Sets head.Version 1 ∷ shape_sayings plan.shape) 0 plan.programs (λ c from. refl))))))))

-- ---- the lines

version_line : IsLine (codes "pmsi 1\n") (codes "pmsi" ∷ codes "1" ∷ [])
version_line = joined_line (codes "pmsi") (codes "1" ∷ []) (fixed_field (codes "pmsi") (omega arith) refl) (fixed_field (codes "1") (omega arith) refl, tt)

abbrev pub version_row : Row
version_row = record { number = 1; fields = codes "pmsi" ∷ codes "1" ∷ [] }

version_said : sayings_of (version_row ∷ []) ≡ Sets head.Version 1 ∷ []
unfolding sayings_of is_version
version_said = refl

version_good : row_fault [] version_row ≡ None
unfolding row_fault is_version
version_good = refl

first_good : (rows : List Row) → rows_fault [] (version_row ∷ rows) ≡ rows_fault (version_row ∷ []) rows
unfolding rows_fault first_of
first_good rows = rw version_good (first_only (rows_fault (version_row ∷ []) rows))

first_said : (rows : List Row) (said : List Saying) → sayings_of rows ≡ said → sayings_of (version_row ∷ rows) ≡ Sets head.Version 1 ∷ said
unfolding sayings_of is_version
first_said rows said e = ap (λ ss. Sets head.Version 1 ∷ ss) e

record IsCut (text : List ℕ) (said : List Saying) : Type 0 where
  rows : List Row
  cut : rows_of text ≡ version_row ∷ rows
  each : AllZip IsSaid rows said

no_rows : (number : ℕ) → rows_from number (lines []) ≡ []
unfolding rows_from
no_rows number = refl

plan_says : (plan : JobPlan) → IsPrintable plan → Says (shape_lines plan.shape ++ core_lines 0 plan.programs) (behind plan)
plan_says plan is =
    let few : 0 + length plan.programs ≤ 10 ^ 9 = omega (arith, is.within.count, is.within.shape.cores) in
    both (shape_lines plan.shape) (core_lines 0 plan.programs) (shape_sayings plan.shape) (runs 0 plan.programs) (shape_says plan.shape is.within.shape) (cores_say 0 plan.programs few is.programs)

plan_cut : (plan : JobPlan) → IsPrintable plan → IsCut (plan_text plan) (behind plan)
unfolding plan_text rows_of
plan_cut plan is =
    let rest = shape_lines plan.shape ++ core_lines 0 plan.programs in
    let has = (plan_says plan is).rows 2 [] in
    let end : rows_from 2 (lines rest) ≡ has.rows =
    ap (λ text. rows_from 2 (lines text)) (sym (append-nil rest)) ∙ has.cut ∙ ap (λ rows. has.rows ++ rows) (no_rows has.next) ∙ append-nil has.rows in
    record {
      rows = has.rows;
      cut = ap (λ text. rows_from 1 (lines text)) (append_assoc (codes "pmsi 1\n") (shape_lines plan.shape) (core_lines 0 plan.programs)) ∙ version_line.rows 1 rest ∙ ap (λ rows. version_row ∷ rows) end;
      each = has.each;
    }

plan_utf8 : (plan : JobPlan) → IsPrintable plan → IsUtf8 (plan_text plan)
unfolding plan_text
plan_utf8 plan is =
    subst IsUtf8 (sym (append_assoc (codes "pmsi 1\n") (shape_lines plan.shape) (core_lines 0 plan.programs)))
    (IsUtf8-append (codes "pmsi 1\n") (shape_lines plan.shape ++ core_lines 0 plan.programs) version_line.text (plan_says plan is).text)

-- ---- what they say together

heads_there : (plan : JobPlan) → missing_head (sayings plan) ≡ None
unfolding missing_head number_at
heads_there plan = refl

record AreWithin (shape : Geometry) : Type 0 where
  cores : is_within shape.line_words head.Cores shape.cores ≡ true
  quantum : is_within shape.line_words head.Quantum shape.quantum ≡ true
  line_words : is_within shape.line_words head.Line shape.line_words ≡ true
  sets : is_within shape.line_words head.Sets shape.sets ≡ true
  ways : is_within shape.line_words head.Ways shape.ways ≡ true
  memory : is_within shape.line_words head.Memory shape.memory ≡ true
  slots : is_within shape.line_words head.Slots shape.slots ≡ true

no_power : is_power_of_two 0 ≡ true → ⊥
unfolding lib.Count.ones
no_power e = absurd cc

some_power : (n : ℕ) → is_power_of_two n ≡ true → 1 ≤ n
some_power zero e = absurd (no_power e)
some_power (suc n) e = omega arith

shape_within : (shape : Geometry) → IsGeometry shape → AreWithin shape
unfolding is_within
shape_within shape is =
    let some_sets : 1 ≤ shape.sets = some_power shape.sets is.sets in
    record {
      cores = grind (arith, nat_tests, is.some_cores, is.cores);
      quantum = grind (arith, nat_tests, is.some_quantum, is.quantum);
      line_words = grind (arith, nat_tests, is.least_line, is.greatest_line, is.line);
      sets = grind (arith, nat_tests, some_sets, is.greatest_sets, is.sets);
      ways = grind (arith, nat_tests, is.some_ways, is.ways);
      memory = grind (arith, nat_tests, is.least_memory, is.greatest_memory, is.memory, is.least_line);
      slots = grind (arith, nat_tests, is.slots);
    }

limits_kept : (plan : JobPlan) → IsGeometry plan.shape → heads_limit (sayings plan) ≡ None
unfolding heads_limit first_of number_at
limits_kept plan is =
    let within = shape_within plan.shape is in
    rw (within.cores, within.quantum, within.line_words, within.sets, within.ways, within.memory, within.slots) refl

none_past : (limit core : ℕ) (programs : List Program) → core + length programs ≤ limit → filter (λ c. nat_le limit c) (cores_in (runs core programs)) ≡ []
unfolding cores_in
none_past limit core [] few = refl
none_past limit core (program ∷ programs) few =
    let low : nat_le limit core ≡ false = grind (arith, nat_tests) in
    rw low (none_past limit (core + 1) programs (omega arith))

cores_kept : (plan : JobPlan) → length plan.programs ≡ plan.shape.cores → core_limit (sayings plan) ≡ None
unfolding core_limit number_at cores_in least
cores_kept plan count = rw (none_past plan.shape.cores 0 plan.programs (omega arith)) refl

program_there : (core k : ℕ) (programs : List Program) → program_of (core + k) (runs core programs) ≡ slice_get programs k
unfolding program_of
program_there core k [] = refl
program_there core zero (program ∷ programs) = grind (arith, nat_tests)
program_there core (suc k) (program ∷ programs) =
    let other : (core == core + suc k) ≡ false = grind (arith, nat_tests) in
    let same : core + suc k ≡ core + 1 + k = omega arith in
    rw other (ap (λ c. program_of c (runs (core + 1) programs)) same ∙ program_there (core + 1) k programs)

program_said : (plan : JobPlan) (core : ℕ) → program_of core (sayings plan) ≡ slice_get plan.programs core
unfolding program_of
program_said plan core = let same : 0 + core ≡ core = omega arith in ap (λ c. program_of c (runs 0 plan.programs)) (sym same) ∙ program_there 0 core plan.programs

found_none : (p : ℕ → Bool) (start count : ℕ) → ((c : ℕ) → start ≤ c → c < start + count → p c ≡ false) → find p (range_with_len start count) ≡ None
found_none p start zero fails = refl
found_none p start (suc count) fails = rw (fails start (omega arith) (omega arith)) (found_none p (start + 1) count (λ c from low. fails c (omega arith) (omega arith)))

mapped_none : (f : ℕ → Option JobFault) (start count : ℕ) → ((c : ℕ) → start ≤ c → c < start + count → f c ≡ None) → first_of (map f (range_with_len start count)) ≡ None
unfolding first_of
mapped_none f start zero fails = refl
mapped_none f start (suc count) fails = rw (fails start (omega arith) (omega arith)) (mapped_none f (start + 1) count (λ c from low. fails c (omega arith) (omega arith)))

program_at : (plan : JobPlan) (core : ℕ) → core < length plan.programs → program_of core (sayings plan) ≡ Some (get_or plan.programs core (Words []))
program_at plan core low = program_said plan core ∙ get_some plan.programs core (Words []) low

programs_there : (plan : JobPlan) → length plan.programs ≡ plan.shape.cores → missing_core (sayings plan) ≡ None
unfolding missing_core number_at
programs_there plan count =
    let none : find (λ c. is_none (program_of c (sayings plan))) (range_with_len 0 plan.shape.cores) ≡ None =
    found_none (λ c. is_none (program_of c (sayings plan))) 0 plan.shape.cores (λ c from low. rw (program_at plan c (omega arith)) refl) in
    rw none refl

few_words : (core : ℕ) (program : Program) → HasFewWords program → words_limit core (Some program) ≡ None
few_words core (Words words) few = grind (arith, nat_tests, few)
few_words core (Asm name) few = refl
few_words core (Image name) few = refl

texts_kept : (plan : JobPlan) → IsPlan plan → text_limit (sayings plan) ≡ None
unfolding text_limit number_at
texts_kept plan is =
    mapped_none (λ c. words_limit c (program_of c (sayings plan))) 0 plan.shape.cores (λ c from low.
    let here : c < length plan.programs = omega (arith, is.count) in
    rw (program_at plan c here) (few_words c (get_or plan.programs c (Words [])) (is.words c (Words []) here)))

all_kept : (plan : JobPlan) → IsPlan plan → said_fault (sayings plan) ≡ None
unfolding said_fault first_of
all_kept plan is = rw (heads_there plan, limits_kept plan is.shape, cores_kept plan is.count, programs_there plan is.count, texts_kept plan is) refl

says_shape : (plan : JobPlan) → SaysShape (sayings plan) plan.shape
unfolding number_at
says_shape plan = record { cores = refl; quantum = refl; line_words = refl; sets = refl; ways = refl; memory = refl; slots = refl }

says_programs : (plan : JobPlan) → length plan.programs ≡ plan.shape.cores → SaysPrograms (sayings plan) plan.shape.cores plan.programs
says_programs plan count = record { count = count; each = λ core low. sym (program_said plan core) }

pub printed_means : PrintedMeans
printed_means plan is =
    let cut = plan_cut plan is in
    let said : sayings_of (rows_of (plan_text plan)) ≡ sayings plan = ap sayings_of cut.cut ∙ first_said cut.rows (behind plan) (all_said cut.rows (behind plan) cut.each) in
    let new : AreNew (sayings_of (version_row ∷ [])) (behind plan) = subst (λ ss. AreNew ss (behind plan)) (sym version_said) (all_new plan) in
    let rows : rows_fault [] (rows_of (plan_text plan)) ≡ None =
    ap (rows_fault []) cut.cut ∙ first_good cut.rows ∙ no_fault (version_row ∷ []) cut.rows (behind plan) refl cut.each new in
    plan_is (plan_text plan) (plan_text plan) plan refl (plan_utf8 plan is) rows (ap said_fault said ∙ all_kept plan is.within)
    (subst (λ ss. SaysShape ss plan.shape) (sym said) (says_shape plan))
    (subst (λ ss. SaysPrograms ss plan.shape.cores plan.programs) (sym said) (says_programs plan is.within.count))
