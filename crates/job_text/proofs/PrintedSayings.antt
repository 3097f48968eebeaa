-- What printed lines say.
use Rattle.std.proofs.Common.{◌≡◌, ℕ, ◌+◌, ◌^◌, ◌<◌, ◌≤◌, false, true, List, [], ◌∷◌, ◌++◌, map, length, Some, None, Ok, IsUtf8, refl, sym, ap, subst, ◌∙◌, arith, append_assoc, append-nil}
use Rattle.std.specs.Prelude.{codes, decimal}
use Rattle.std.specs.List.{All, AllByRecursion, AllZip, flat_map, list_all}
use Rattle.std.specs.Str.{bytes_eq}
use Rattle.std.specs.Str.Lines.{lines}
use Rattle.std.proofs.lemmas.Bool.Decides.{nat_tests}
use Rattle.std.proofs.lemmas.List.Elements.{All-head, All-tail}
use Rattle.std.proofs.lemmas.Str.{IsUtf8-append, IsUtf8-nil}
use Rattle.pmsi_model.specs.declared.job.Geometry.{Geometry}
use Rattle.pmsi_model.specs.Geometry.{IsGeometry}
use Rattle.pmsi_model.specs.Lines.{hex_digits}
use Rattle.job_text.specs.declared.job_fault.HeadWord.{HeadWord}
use Rattle.job_text.specs.declared.job_fault.HeadWord.TheVariants as head
use Rattle.job_text.specs.declared.plan.Program.{Program}
use Rattle.job_text.specs.declared.plan.Program.TheVariants.{Asm, Image, Words}
use Rattle.job_text.specs.declared.saying.Saying.{Saying}
use Rattle.job_text.specs.declared.saying.Saying.TheVariants.{Runs, Sets}
use Rattle.job_text.specs.Cutting.{Row, has_some, rows_from}
use Rattle.job_text.specs.Faults.{first_is, first_of, row_fault, rows_fault, sayings_of, was_said}
use Rattle.job_text.specs.Plans.{CanPrint, core_line, core_lines, number_line, program_fields, shape_lines, word_field}
use Rattle.job_text.specs.Sayings.{core_in, head_named, is_version, read_kind, read_line, reading_of, words_in}
use Rattle.job_text.proofs.RowReads.{first_only, sayings_push}
use Rattle.job_text.proofs.PrintedFields.{IsField, fixed_field, is_plain, name_field, number_field, number_read, word_text_field, word_read}
use Rattle.job_text.proofs.PrintedLines.{IsLine, joined, joined_line}

-- a line behind the first that says this
abbrev pub IsSaid : Row → Saying → Type 0
IsSaid row saying = (first_is (codes "pmsi") row.fields ≡ false) × (read_line row.fields ≡ Ok saying)

pub record HasRows (number : ℕ) (source rest : List ℕ) (said : List Saying) : Type 0 where
  pub rows : List Row
  pub next : ℕ
  pub cut : rows_from number (lines source) ≡ rows ++ rows_from next (lines rest)
  pub each : AllZip IsSaid rows said

-- text whose lines say this
pub record Says (source : List ℕ) (said : List Saying) : Type 0 where
  pub text : IsUtf8 source
  pub rows : (number : ℕ) (rest : List ℕ) → HasRows number (source ++ rest) rest said

pub nothing : Says [] []
nothing = record {
  text = IsUtf8-nil;
  rows = λ number rest. record { rows = []; next = number; cut = refl; each = tt };
}

zip_append : (rows others : List Row) (said more : List Saying) → AllZip IsSaid rows said → AllZip IsSaid others more → AllZip IsSaid (rows ++ others) (said ++ more)
zip_append [] others [] more each rest = rest
zip_append [] others (saying ∷ said) more each rest = absurd each
zip_append (row ∷ rows) others [] more each rest = absurd each
zip_append (row ∷ rows) others (saying ∷ said) more each rest = (each.0, zip_append rows others said more each.1 rest)

pub both : (text others : List ℕ) (said more : List Saying) → Says text said → Says others more → Says (text ++ others) (said ++ more)
both text others said more first second = record {
  text = IsUtf8-append text others first.text second.text;
  rows = λ number rest.
      let a = first.rows number (others ++ rest) in
      let b = second.rows a.next rest in
      record {
        rows = a.rows ++ b.rows;
        next = b.next;
        cut = ap (λ t. rows_from number (lines t)) (append_assoc text others rest) ∙ a.cut ∙ ap (λ rows. a.rows ++ rows) b.cut ∙ sym (append_assoc a.rows b.rows (rows_from b.next (lines rest)));
        each = zip_append a.rows b.rows said more a.each b.each;
      };
}

pub one_line : (text : List ℕ) (fields : List (List ℕ)) (saying : Saying) → IsLine text fields → first_is (codes "pmsi") fields ≡ false → read_line fields ≡ Ok saying → Says text (saying ∷ [])
one_line text fields saying is plain reads = record {
  text = is.text;
  rows = λ number rest. record {
    rows = (record { number = number; fields = fields }) ∷ [];
    next = number + 1;
    cut = is.rows number rest;
    each = ((plain, reads), tt);
  };
}

-- ---- heads

head_reads : (word : HeadWord) (name : List ℕ) (n : ℕ) → bytes_eq name (codes "core") ≡ false → head_named name ≡ Some word → n < 10 ^ 10 → read_line (name ∷ decimal n ∷ []) ≡ Ok (Sets word n)
unfolding read_line
head_reads word name n other named low = rw (other, named, number_read n low) refl

head_text : (name : List ℕ) (n : ℕ) → joined name (decimal n ∷ []) ++ 10 ∷ [] ≡ number_line name n
head_text name n = ap (λ text. text ++ 10 ∷ []) (sym (append_assoc name (32 ∷ []) (decimal n)))

head_says : (word : HeadWord) (name : List ℕ) (n : ℕ) → 0 < length name → list_all is_plain name ≡ true → bytes_eq name (codes "pmsi") ≡ false → bytes_eq name (codes "core") ≡ false
    → head_named name ≡ Some word → n < 10 ^ 10 → Says (number_line name n) (Sets word n ∷ [])
head_says word name n some plain later other named low =
    subst (λ text. Says text (Sets word n ∷ [])) (head_text name n)
    (one_line (joined name (decimal n ∷ []) ++ 10 ∷ []) (name ∷ decimal n ∷ []) (Sets word n)
    (joined_line name (decimal n ∷ []) (fixed_field name some plain) (number_field n low, tt)) later (head_reads word name n other named low))

-- ---- cores

core_field : IsField (codes "core")
core_field = fixed_field (codes "core") (omega arith) refl

pub words_read : (words : List ℕ) → All (λ word. word < 2 ^ 32) words → words_in (map (hex_digits 8) words) ≡ Some words
unfolding words_in
words_read [] low = refl
words_read (word ∷ words) low =
    rw (word_read word (All-head (λ w. w < 2 ^ 32) word words low), words_read words (All-tail (λ w. w < 2 ^ 32) word words low)) refl

words_fields : (words : List ℕ) → AllByRecursion IsField (map (hex_digits 8) words)
words_fields [] = tt
words_fields (word ∷ words) = (word_text_field word, words_fields words)

words_joined : (field : List ℕ) (words : List ℕ) → joined field (map (hex_digits 8) words) ≡ field ++ flat_map word_field words
words_joined field [] = sym (append-nil field)
words_joined field (word ∷ words) = ap (λ text. field ++ 32 ∷ text) (words_joined (hex_digits 8 word) words)

-- the fields behind a core's number, of which the first is the program's kind
abbrev kind_of : Program → List ℕ
kind_of (Words words) = codes "hex"
kind_of (Asm name) = codes "asm"
kind_of (Image name) = codes "image"

abbrev fields_behind : Program → List (List ℕ)
fields_behind (Words words) = map (hex_digits 8) words
fields_behind (Asm name) = name ∷ []
fields_behind (Image name) = name ∷ []

kind_field : (program : Program) → IsField (kind_of program)
kind_field (Words words) = fixed_field (codes "hex") (omega arith) refl
kind_field (Asm name) = fixed_field (codes "asm") (omega arith) refl
kind_field (Image name) = fixed_field (codes "image") (omega arith) refl

behind_fields : (program : Program) → CanPrint program → AllByRecursion IsField (fields_behind program)
behind_fields (Words words) can = words_fields words
behind_fields (Asm name) can = (name_field name can, tt)
behind_fields (Image name) can = (name_field name can, tt)

fields_text : (program : Program) → program_fields program ≡ 32 ∷ joined (kind_of program) (fields_behind program)
unfolding program_fields
fields_text (Words words) = ap (λ text. 32 ∷ text) (sym (words_joined (codes "hex") words))
fields_text (Asm name) = refl
fields_text (Image name) = refl

core_read : (core : ℕ) → core < 10 ^ 9 → core_in (decimal core) ≡ Some core
core_read core low = rw (number_read core (omega arith)) (grind (arith, nat_tests))

kind_reads : (core : ℕ) (program : Program) → core < 10 ^ 9 → CanPrint program → read_kind (decimal core) (kind_of program) (fields_behind program) ≡ Ok (Runs core program)
unfolding read_kind
kind_reads core (Words words) low can = rw (core_read core low, words_read words can) refl
kind_reads core (Asm name) low can = rw (core_read core low) refl
kind_reads core (Image name) low can = rw (core_read core low) refl

core_reads : (core : ℕ) (program : Program) → core < 10 ^ 9 → CanPrint program
    → read_line (codes "core" ∷ decimal core ∷ kind_of program ∷ fields_behind program) ≡ Ok (Runs core program)
unfolding read_line
core_reads core program low can = kind_reads core program low can

core_text : (core : ℕ) (program : Program) → core_line core program ≡ joined (codes "core") (decimal core ∷ kind_of program ∷ fields_behind program) ++ 10 ∷ []
core_text core program = ap (λ text. codes "core " ++ decimal core ++ text ++ 10 ∷ []) (fields_text program)

pub core_says : (core : ℕ) (program : Program) → core < 10 ^ 9 → CanPrint program → Says (core_line core program) (Runs core program ∷ [])
core_says core program low can =
    let fields : List (List ℕ) = decimal core ∷ kind_of program ∷ fields_behind program in
    let line : IsLine (joined (codes "core") fields ++ 10 ∷ []) (codes "core" ∷ fields) =
    joined_line (codes "core") fields core_field (number_field core (omega arith), (kind_field program, behind_fields program can)) in
    subst (λ text. Says text (Runs core program ∷ [])) (sym (core_text core program))
    (one_line (joined (codes "core") fields ++ 10 ∷ []) (codes "core" ∷ fields) (Runs core program) line refl (core_reads core program low can))

-- the programs of cores, from a number on
abbrev pub runs : ℕ → List Program → List Saying
runs core [] = []
runs core (program ∷ programs) = Runs core program ∷ runs (core + 1) programs

pub cores_say : (core : ℕ) (programs : List Program) → core + length programs ≤ 10 ^ 9 → All CanPrint programs → Says (core_lines core programs) (runs core programs)
unfolding core_lines
cores_say core [] few can = nothing
cores_say core (program ∷ programs) few can =
    both (core_line core program) (core_lines (core + 1) programs) (Runs core program ∷ []) (runs (core + 1) programs)
    (core_says core program (omega arith) (All-head CanPrint program programs can))
    (cores_say (core + 1) programs (omega arith) (All-tail CanPrint program programs can))

-- ---- the shape

-- what the heads of a shape say
abbrev pub shape_sayings : Geometry → List Saying
shape_sayings shape =
    Sets head.Cores shape.cores ∷ Sets head.Quantum shape.quantum ∷ Sets head.Line shape.line_words ∷ Sets head.Sets shape.sets
    ∷ Sets head.Ways shape.ways ∷ Sets head.Memory shape.memory ∷ Sets head.Slots shape.slots ∷ []

then : {text others : List ℕ} {said more : List Saying} → Says text said → Says others more → Says (text ++ others) (said ++ more)
then {text} {others} {said} {more} first second = both text others said more first second

pub shape_says : (shape : Geometry) → IsGeometry shape → Says (shape_lines shape) (shape_sayings shape)
unfolding shape_lines head_named
shape_says shape is =
    let cores = head_says head.Cores (codes "cores") shape.cores (omega arith) refl refl refl refl (omega (arith, is.cores)) in
    let quantum = head_says head.Quantum (codes "quantum") shape.quantum (omega arith) refl refl refl refl (omega (arith, is.quantum)) in
    let line = head_says head.Line (codes "line") shape.line_words (omega arith) refl refl refl refl (omega (arith, is.greatest_line)) in
    let sets = head_says head.Sets (codes "sets") shape.sets (omega arith) refl refl refl refl (omega (arith, is.greatest_sets)) in
    let ways = head_says head.Ways (codes "ways") shape.ways (omega arith) refl refl refl refl (omega (arith, is.ways)) in
    let memory = head_says head.Memory (codes "memory") shape.memory (omega arith) refl refl refl refl (omega (arith, is.greatest_memory)) in
    let slots = head_says head.Slots (codes "slots") shape.slots (omega arith) refl refl refl refl (omega (arith, is.slots)) in
    then (then (then (then (then (then cores quantum) line) sets) ways) memory) slots

-- ---- lines behind others

-- nothing is said twice, behind what was said
abbrev pub AreNew : List Saying → List Saying → Type 0
AreNew said [] = Unit {0}
AreNew said (saying ∷ more) = (was_said saying said ≡ false) × AreNew (said ++ saying ∷ []) more

reading_by : (fields : List (List ℕ)) (saying : Saying) → first_is (codes "pmsi") fields ≡ false → read_line fields ≡ Ok saying → reading_of fields ≡ Ok saying
unfolding is_version
reading_by [] saying plain reads = reads
reading_by (first ∷ fields) saying plain reads = rw plain reads

no_row_fault : (before : List Row) (row : Row) (saying : Saying) → has_some before ≡ true → IsSaid row saying → was_said saying (sayings_of before) ≡ false → row_fault before row ≡ None
unfolding row_fault
no_row_fault [] row saying some is new = absurd cc
no_row_fault (first ∷ before) row saying some is new = rw (is.0, is.1, new) refl

has_more : (before : List Row) (row : Row) → has_some (before ++ row ∷ []) ≡ true
has_more [] row = refl
has_more (first ∷ before) row = refl

pub no_fault : (before rows : List Row) (said : List Saying) → has_some before ≡ true → AllZip IsSaid rows said → AreNew (sayings_of before) said → rows_fault before rows ≡ None
unfolding rows_fault first_of
no_fault before [] said some each new = refl
no_fault before (row ∷ rows) [] some each new = absurd each
no_fault before (row ∷ rows) (saying ∷ said) some each new =
    let here : row_fault before row ≡ None = no_row_fault before row saying some each.0 new.0 in
    let said_now : sayings_of (before ++ row ∷ []) ≡ sayings_of before ++ saying ∷ [] = sayings_push before row saying (reading_by row.fields saying each.0.0 each.0.1) in
    rw here (first_only (rows_fault (before ++ row ∷ []) rows)
    ∙ no_fault (before ++ row ∷ []) rows said (has_more before row) each.1 (subst (λ ss. AreNew ss said) (sym said_now) new.1))

pub all_said : (rows : List Row) (said : List Saying) → AllZip IsSaid rows said → sayings_of rows ≡ said
unfolding sayings_of
all_said [] [] each = refl
all_said [] (saying ∷ said) each = absurd each
all_said (row ∷ rows) [] each = absurd each
all_said (row ∷ rows) (saying ∷ said) each = rw (reading_by row.fields saying each.0.0 each.0.1) (ap (λ ss. saying ∷ ss) (all_said rows said each.1))
