-- Lines of fields that are joined by one space each.
use Rattle.std.proofs.Common.{◌≡◌, ◌≢◌, ℕ, ◌+◌, ◌<◌, false, List, [], ◌∷◌, ◌++◌, length, get_or, IsUtf8, refl, sym, ap, ◌∙◌, arith, length-append, append_assoc}
use Rattle.std.specs.List.{All, AllByRecursion, before_first, position_or_len}
use Rattle.std.specs.Str.Lines.{lines}
use Rattle.std.proofs.lemmas.List.{get_or_at, take_all}
use Rattle.std.proofs.lemmas.List.Elements.{All-append, All-cons, All-nil, All-weaker}
use Rattle.std.proofs.lemmas.List.Splits.{slice_split_at, slice_split_none}
use Rattle.std.proofs.lemmas.List.Sums.{position_or_len_is}
use Rattle.std.proofs.lemmas.Str.{IsUtf8-append, IsUtf8-from_ascii}
use Rattle.std.proofs.lemmas.Str.Ascii.{IsAscii-from_all}
use Rattle.job_text.specs.Cutting.{fields_between, fields_of, is_blank, is_hash, rows_from}
use Rattle.text_out.proofs.Exports.{first, kept}
use Rattle.job_text.proofs.Fields.{first_before}
use Rattle.job_text.proofs.PrintedFields.{IsField, IsFieldByte}

abbrev pub joined : List ℕ → List (List ℕ) → List ℕ
joined field [] = field
joined field (next ∷ fields) = field ++ 32 ∷ joined next fields

-- ---- the bytes of a line

abbrev IsLineByte : ℕ → Type 0
IsLineByte byte = (is_hash byte ≡ false) × (byte ≢ 10) × (byte ≢ 13)

space_fits : IsLineByte 32
space_fits = (refl, λ e. absurd cc, λ e. absurd cc)

field_bytes : (field : List ℕ) → IsField field → All IsLineByte field
field_bytes field is = All-weaker IsFieldByte IsLineByte (λ byte plain. (plain.1, plain.2, plain.3)) field is.plain

line_bytes : (field : List ℕ) (fields : List (List ℕ)) → IsField field → AllByRecursion IsField fields → All IsLineByte (joined field fields)
line_bytes field [] is are = field_bytes field is
line_bytes field (next ∷ fields) is are =
    All-append IsLineByte field (32 ∷ joined next fields) (field_bytes field is) (All-cons IsLineByte 32 (joined next fields) space_fits (line_bytes next fields are.0 are.1))

space_text : IsUtf8 (32 ∷ [])
space_text = IsUtf8-from_ascii (32 ∷ []) (IsAscii-from_all (32 ∷ []) (All-cons (λ b. b < 128) 32 [] (omega arith) (All-nil (λ b. b < 128))))

newline_text : IsUtf8 (10 ∷ [])
newline_text = IsUtf8-from_ascii (10 ∷ []) (IsAscii-from_all (10 ∷ []) (All-cons (λ b. b < 128) 10 [] (omega arith) (All-nil (λ b. b < 128))))

line_text : (field : List ℕ) (fields : List (List ℕ)) → IsField field → AllByRecursion IsField fields → IsUtf8 (joined field fields)
line_text field [] is are = is.text
line_text field (next ∷ fields) is are =
    IsUtf8-append field (32 ∷ joined next fields) is.text (IsUtf8-append (32 ∷ []) (joined next fields) space_text (line_text next fields are.0 are.1))

-- ---- its fields

blank_none : (field : List ℕ) → IsField field → All (λ byte. is_blank byte ≡ false) field
blank_none field is = All-weaker IsFieldByte (λ byte. is_blank byte ≡ false) (λ byte plain. plain.0) field is.plain

one_field : (field : List ℕ) → 0 < length field → All (λ byte. is_blank byte ≡ false) field → fields_between field ≡ field ∷ []
unfolding fields_between
one_field [] some plain = absurd (omega arith)
one_field (byte ∷ field) some plain = rw (slice_split_none is_blank (byte ∷ field) plain) refl

fields_joined : (field : List ℕ) (fields : List (List ℕ)) → IsField field → AllByRecursion IsField fields → fields_between (joined field fields) ≡ field ∷ fields
fields_joined field [] is are = one_field field is.some (blank_none field is)
fields_joined field (next ∷ fields) is are =
    first_before field (joined next fields) (joined field (next ∷ fields)) is.some (slice_split_at is_blank field 32 (joined next fields) (blank_none field is) refl)
    ∙ ap (λ fs. field ∷ fs) (fields_joined next fields are.0 are.1)

no_comment : (line : List ℕ) → All IsLineByte line → before_first is_hash line ≡ line
no_comment line plain =
    let end : position_or_len is_hash line ≡ length line = position_or_len_is is_hash line (length line) 0 (omega arith) (λ k low. (plain k 0 low).0) (λ low. absurd (omega arith)) in
    rw end (take_all (length line) line (omega arith))

-- ---- the line

pub record IsLine (source : List ℕ) (fields : List (List ℕ)) : Type 0 where
  pub text : IsUtf8 source
  pub rows : (number : ℕ) (rest : List ℕ) → rows_from number (lines (source ++ rest)) ≡ (record { number = number; fields = fields }) ∷ rows_from (number + 1) (lines rest)

rows_by : (number : ℕ) (line rest field : List ℕ) (fields : List (List ℕ)) → lines (line ++ 10 ∷ rest) ≡ line ∷ lines rest → fields_of line ≡ field ∷ fields
    → rows_from number (lines (line ++ 10 ∷ rest)) ≡ (record { number = number; fields = field ∷ fields }) ∷ rows_from (number + 1) (lines rest)
unfolding rows_from
rows_by number line rest field fields cut are = rw (cut, are) refl

cut_line : (line rest : List ℕ) → All IsLineByte line → lines (line ++ 10 ∷ rest) ≡ line ∷ lines rest
cut_line line rest plain =
    let returns : (front : List ℕ) → line ≢ front ++ 13 ∷ [] = λ front e.
    let low : length front < length line = omega (arith, ap length e, length-append front (13 ∷ [])) in
    (plain (length front) 0 low).2 (ap (λ xs. get_or xs (length front) 0) e ∙ get_or_at front 13 [] 0 (length front) refl) in
    first line rest (λ k d low. (plain k d low).1) ∙ ap (λ x. x ∷ lines rest) (sym (kept line returns))

pub joined_line : (field : List ℕ) (fields : List (List ℕ)) → IsField field → AllByRecursion IsField fields → IsLine (joined field fields ++ 10 ∷ []) (field ∷ fields)
joined_line field fields is are =
    let line : List ℕ = joined field fields in
    let plain : All IsLineByte line = line_bytes field fields is are in
    record {
      text = IsUtf8-append line (10 ∷ []) (line_text field fields is are) newline_text;
      rows = λ number rest.
          let whole : (line ++ 10 ∷ []) ++ rest ≡ line ++ 10 ∷ rest = append_assoc line (10 ∷ []) rest in
          let cut : fields_of line ≡ field ∷ fields = ap fields_between (no_comment line plain) ∙ fields_joined field fields is are in
          ap (λ text. rows_from number (lines text)) whole ∙ rows_by number line rest field fields (cut_line line rest plain) cut;
    }
