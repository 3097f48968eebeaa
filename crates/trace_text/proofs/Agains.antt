-- The text of a trace is read as that trace.
use Rattle.std.proofs.Common.{◌≡◌, ℕ, ◌+◌, ◌^◌, ◌<◌, ◌≤◌, List, [], ◌∷◌, ◌++◌, length, Some, Ok, true, false, refl, sym, ap, ◌∙◌, subst, append_assoc, append-nil, length-append, arith, codes, decimal, add-zero, zero-add}
use Rattle.std.specs.Prelude.{nat_le}
use Rattle.std.specs.List.{AllByRecursion, slice_split}
use Rattle.std.proofs.lemmas.Bool.Decides.{nat_tests}
use Rattle.std.proofs.lemmas.List.Elements.{recursion_from_All}
use Rattle.pmsi_model.specs.declared.Action.{Action}
use Rattle.pmsi_model.specs.declared.limits.TheConstants.{MAX_CORES, MAX_SLOTS}
use Rattle.pmsi_model.specs.Lines.{action_line, action_lines}
use Rattle.pmsi_model.specs.Slots.{SlotPlan, owner_of_slot, plain_plan}
use Rattle.trace_text.specs.declared.row.Row.TheVariants as row
use Rattle.trace_text.specs.declared.trace.Trace.{Trace}
use Rattle.trace_text.specs.Text.{HasLine, IsTrace, end_text, trace_of}
use Rattle.trace_text.specs.Reading.{cores_first, cores_in, end_row, fields_of, first_line, is_newline, reading_of, row_in, rows_in, slot_row, version_first}
use Rattle.trace_text.proofs.Cuts.{before_parts, some_part}
use Rattle.trace_text.proofs.RowReads.{ends, goes_on}
use Rattle.trace_text.proofs.Spellings.{action_again, cut_at, decimal_lacks, lacks, lacks_both, line_is, number_again, numeral_of, same_bytes, slot_fields, slot_lacks, slot_text, whole_part}

-- ---- one line

slot_again : (plan : SlotPlan) (slot : ℕ) (action : Action) → slot < MAX_SLOTS
    → slot_row plan slot (decimal slot) (decimal (owner_of_slot plan slot)) (Some action) ≡ Ok (row.Slot action)
unfolding slot_row
slot_again plan slot action low =
    let few : nat_le MAX_SLOTS slot ≡ false = grind (arith, nat_tests) in
    rw (few, same_bytes (decimal slot), same_bytes (decimal (owner_of_slot plan slot))) refl

row_again : (plan : SlotPlan) (slot : ℕ) (action : Action) → owner_of_slot plan slot < 2 ^ 64 → slot < MAX_SLOTS → HasLine action
    → row_in plan slot (fields_of (slot_text slot (owner_of_slot plan slot) action)) ≡ Ok (row.Slot action)
unfolding row_in
row_again plan slot action owner low line =
    let small : slot < 2 ^ 64 = omega arith in
    rw (slot_fields slot (owner_of_slot plan slot) action small owner, numeral_of slot small, numeral_of (owner_of_slot plan slot) owner, action_again action line)
    (slot_again plan slot action low)

end_fields : (n : ℕ) → n < 2 ^ 64 → fields_of (codes "end " ++ decimal n) ≡ codes "end" ∷ decimal n ∷ []
end_fields n small = ap (λ (parts : List (List ℕ)). codes "end" ∷ parts) (whole_part 32 (decimal n) (decimal_lacks 32 n (omega arith) small))

end_row_again : (n : ℕ) → end_row n (decimal n) ≡ Ok row.End
unfolding end_row
end_row_again n = rw (same_bytes (decimal n)) refl

end_again : (plan : SlotPlan) (n : ℕ) → n < 2 ^ 64 → row_in plan n (fields_of (codes "end " ++ decimal n)) ≡ Ok row.End
unfolding row_in
end_again plan n small = rw (end_fields n small, numeral_of n small) (end_row_again n)

-- ---- all lines

-- a line without a newline in it, and what follows
line_first : (line rest : List ℕ) → lacks 10 line ≡ true → first_line (slice_split is_newline (line ++ 10 ∷ rest)) ≡ Some (line, slice_split is_newline rest)
line_first line rest is = ap first_line (cut_at 10 line rest is) ∙ before_parts line (slice_split is_newline rest) (some_part is_newline rest)

last_again : (cores : ℕ) (done : List Action) → length done ≤ MAX_SLOTS → rows_in cores done (slice_split is_newline (end_text (length done))) ≡ Ok (record { cores = cores; actions = done })
last_again cores done few =
    let n = length done in
    let small : length done < 2 ^ 64 = omega arith in
    let line : List ℕ = codes "end " ++ decimal n in
    let whole : lacks 10 (codes "end " ++ decimal (length done)) ≡ true = lacks_both 10 (codes "end ") (decimal n) refl (decimal_lacks 10 n (omega arith) small) in
    ends cores done (slice_split is_newline (end_text n)) line ([] ∷ []) (line_first line [] whole) (sym (end_again (plain_plan cores) n small))

pub rows_again : (cores : ℕ) (done rest : List Action) → 1 ≤ cores → cores ≤ MAX_CORES → AllByRecursion HasLine rest → length done + length rest ≤ MAX_SLOTS
    → rows_in cores done (slice_split is_newline (action_lines (plain_plan cores) (length done) rest ++ end_text (length done + length rest))) ≡ Ok (record { cores = cores; actions = done ++ rest })
unfolding action_lines
rows_again cores done [] some most lines few =
    rw (add-zero, append-nil done) (last_again cores done (omega arith))
rows_again cores done (action ∷ rest) some most lines few =
    let slot = length done in
    let owner : owner_of_slot (plain_plan cores) slot < 2 ^ 64 = omega arith in
    let low : length done < MAX_SLOTS = omega arith in
    let line : List ℕ = slot_text slot (owner_of_slot (plain_plan cores) slot) action in
    let after : List ℕ = action_lines (plain_plan cores) (slot + 1) rest ++ end_text (slot + length (action ∷ rest)) in
    let text : (action_line slot (owner_of_slot (plain_plan cores) slot) action ++ action_lines (plain_plan cores) (slot + 1) rest) ++ end_text (slot + length (action ∷ rest)) ≡ line ++ (10 ∷ after) =
    append_assoc (action_line slot (owner_of_slot (plain_plan cores) slot) action) (action_lines (plain_plan cores) (slot + 1) rest) (end_text (slot + length (action ∷ rest))) ∙ line_is slot (owner_of_slot (plain_plan cores) slot) action after in
    let next : length (done ++ action ∷ []) ≡ slot + 1 = length-append done (action ∷ []) in
    let all : slot + 1 + length rest ≡ slot + length (action ∷ rest) = omega arith in
    let more : rows_in cores (done ++ action ∷ []) (slice_split is_newline after) ≡ Ok (record { cores = cores; actions = (done ++ action ∷ []) ++ rest }) =
    subst (λ (n : ℕ). rows_in cores (done ++ action ∷ []) (slice_split is_newline (action_lines (plain_plan cores) (slot + 1) rest ++ end_text n)) ≡ Ok (record { cores = cores; actions = (done ++ action ∷ []) ++ rest })) all
    (subst (λ (n : ℕ). rows_in cores (done ++ action ∷ []) (slice_split is_newline (action_lines (plain_plan cores) n rest ++ end_text (n + length rest))) ≡ Ok (record { cores = cores; actions = (done ++ action ∷ []) ++ rest })) next
    (rows_again cores (done ++ action ∷ []) rest some most lines.1 (omega (arith, next)))) in
    ap (λ (bytes : List ℕ). rows_in cores done (slice_split is_newline bytes)) text
    ∙ goes_on cores done action (slice_split is_newline (line ++ (10 ∷ after))) line (slice_split is_newline after)
    (line_first line after (slot_lacks slot (owner_of_slot (plain_plan cores) slot) action (omega arith) owner lines.0)) (sym (row_again (plain_plan cores) slot action owner low lines.0))
    ∙ more ∙ ap (λ (actions : List Action). Ok (record { cores = cores; actions = actions })) (append_assoc done (action ∷ []) rest)

-- ---- the head

version_again : (parts rest : List (List ℕ)) → first_line parts ≡ Some (codes "pmsi trace 1", rest) → version_first parts ≡ cores_first rest
unfolding version_first
version_again parts rest is = rw is refl

cores_again : (n : ℕ) → 1 ≤ n → n ≤ MAX_CORES → cores_in (fields_of (codes "cores " ++ decimal n)) ≡ Some n
unfolding cores_in
cores_again n some few =
    let small : n < 2 ^ 64 = omega arith in
    let fields : fields_of (codes "cores " ++ decimal n) ≡ codes "cores" ∷ decimal n ∷ [] = ap (λ (parts : List (List ℕ)). codes "cores" ∷ parts) (whole_part 32 (decimal n) (decimal_lacks 32 n (omega arith) small)) in
    let low : nat_le 1 n ≡ true = grind (arith, nat_tests) in
    rw (fields, number_again MAX_CORES n few small, low) refl

shape_again : (n : ℕ) (parts rest : List (List ℕ)) → 1 ≤ n → n ≤ MAX_CORES → first_line parts ≡ Some (codes "cores " ++ decimal n, rest) → cores_first parts ≡ rows_in n [] rest
unfolding cores_first
shape_again n parts rest some few is = rw (is, cores_again n some few) refl

regroup_head : (version a b n lines last : List ℕ) → ((((version ++ a) ++ b) ++ n) ++ lines) ++ last ≡ version ++ ((a ++ b) ++ (n ++ (lines ++ last)))
regroup_head version a b n lines last = simp append_assoc

pub written_is_read : (trace : Trace) → IsTrace trace → reading_of (trace_of trace) ≡ Ok trace
unfolding reading_of trace_of
written_is_read trace is =
    let n = trace.cores in
    let rows : List ℕ = action_lines (plain_plan n) 0 trace.actions ++ end_text (length trace.actions) in
    let line : List ℕ = codes "cores " ++ decimal n in
    let text = regroup_head (codes "pmsi trace 1\n") (codes "cores ") (decimal n) (codes "\n") (action_lines (plain_plan n) 0 trace.actions) (end_text (length trace.actions)) in
    let whole : lacks 10 (codes "cores " ++ decimal trace.cores) ≡ true = lacks_both 10 (codes "cores ") (decimal n) refl (decimal_lacks 10 n (omega arith) (omega (arith, is.few))) in
    let all : rows_in n [] (slice_split is_newline rows) ≡ Ok trace =
    subst (λ (k : ℕ). rows_in n [] (slice_split is_newline (action_lines (plain_plan n) 0 trace.actions ++ end_text k)) ≡ Ok trace) (zero-add (length trace.actions))
    (rows_again n [] trace.actions is.some is.few (recursion_from_All HasLine trace.actions is.lines) (omega (arith, is.slots))) in
    ap (λ (bytes : List ℕ). version_first (slice_split is_newline bytes)) text
    ∙ version_again (slice_split is_newline (codes "pmsi trace 1\n" ++ (line ++ (10 ∷ rows)))) (slice_split is_newline (line ++ (10 ∷ rows))) (line_first (codes "pmsi trace 1") (line ++ (10 ∷ rows)) refl)
    ∙ shape_again n (slice_split is_newline (line ++ (10 ∷ rows))) (slice_split is_newline rows) is.some is.few (line_first line rows whole)
    ∙ all
