-- What is read as a trace is the text of that trace.
use Rattle.std.proofs.Common.{◌≡◌, ◌⊎◌, inl, inr, ℕ, ◌+◌, ◌<◌, ◌≤◌, List, [], ◌∷◌, ◌++◌, length, Option, Some, None, Result, Ok, Err, Bool, true, false, refl, sym, ap, ◌∙◌, subst, append_assoc, append-nil, length-append, arith, codes, decimal}
use Rattle.std.specs.Prelude.{nat_le, if◌then◌else◌}
use Rattle.std.specs.List.{AllByRecursion, join_with_byte, slice_split}
use Rattle.std.specs.Option.{option_map}
use Rattle.std.specs.Str.{bytes_eq}
use Rattle.std.proofs.lemmas.Bool.Decides.{nat_tests}
use Rattle.std.proofs.lemmas.List.Elements.{All-from_recursion}
use Rattle.std.proofs.lemmas.List.Splits.{join_with_byte-slice_split}
use Rattle.pmsi_model.specs.declared.Action.{Action}
use Rattle.pmsi_model.specs.declared.Action.TheVariants.{Idle, Post, Fill, PostFill, Back}
use Rattle.pmsi_model.specs.declared.Name.{Name}
use Rattle.pmsi_model.specs.declared.Name.TheVariants.{GetS, GetM, Upg}
use Rattle.pmsi_model.specs.declared.limits.TheConstants.{MAX_CORES, MAX_SLOTS}
use Rattle.pmsi_model.specs.Lines.{action_line, action_lines, action_text, kept_text, name_text}
use Rattle.pmsi_model.specs.Slots.{owner_of_slot, plain_plan}
use Rattle.trace_text.specs.declared.fault.TraceFault.{TraceFault}
use Rattle.trace_text.specs.declared.fault.TraceFault.TheVariants.{Line}
use Rattle.trace_text.specs.declared.row.Row.{Row}
use Rattle.trace_text.specs.declared.row.Row.TheVariants as row
use Rattle.trace_text.specs.declared.trace.Trace.{Trace}
use Rattle.trace_text.specs.declared.trace.TheConstants.{MAX_LINE}
use Rattle.trace_text.specs.Text.{HasLine, IsTrace, end_text, trace_of}
use Rattle.trace_text.specs.Reading.{action_in, both, cores_first, cores_in, ended, fields_of, fill_in, idle_in, if_some_core, is_newline, kept_in, long_in, name_in, number_in, on_row, reading_of, row_in, rows_in, version_first, with_cores}
use Rattle.trace_text.proofs.RowParts.{TellsAction, tells_action, tells_end}
use Rattle.trace_text.proofs.Spellings.{is_text, line_is, number_spelled, slot_text}

-- ---- joined again

join_more : (mark : ℕ) (part : List ℕ) (parts : List (List ℕ)) → 0 < length parts → join_with_byte mark (part ∷ parts) ≡ part ++ (mark ∷ join_with_byte mark parts)
join_more mark part [] some = absurd (omega arith)
join_more mark part (next ∷ parts) some = refl

line_joined : (line : List ℕ) (fields : List (List ℕ)) → fields_of line ≡ fields → line ≡ join_with_byte 32 fields
line_joined line fields is = sym (join_with_byte-slice_split 32 line) ∙ ap (join_with_byte 32) is

-- ---- an action

name_by : (a b c : Bool) (field : List ℕ) (name : Name) → (a ≡ true → field ≡ codes "GetS") → (b ≡ true → field ≡ codes "GetM") → (c ≡ true → field ≡ codes "Upg")
    → (if a then Some GetS else if b then Some GetM else if c then Some Upg else None) ≡ Some name → field ≡ name_text name
name_by true b c field name x y z is = let e : GetS ≡ name = cc in x refl ∙ ap name_text e
name_by false true c field name x y z is = let e : GetM ≡ name = cc in y refl ∙ ap name_text e
name_by false false true field name x y z is = let e : Upg ≡ name = cc in z refl ∙ ap name_text e
name_by false false false field name x y z is = absurd cc

name_told : (field : List ℕ) (name : Name) → name_in field ≡ Some name → field ≡ name_text name
unfolding name_in
name_told field name is = name_by (bytes_eq field (codes "GetS")) (bytes_eq field (codes "GetM")) (bytes_eq field (codes "Upg")) field name (is_text field (codes "GetS")) (is_text field (codes "GetM")) (is_text field (codes "Upg")) is

kept_by : (a b : Bool) (field : List ℕ) (kept : Bool) → (a ≡ true → field ≡ codes "keep") → (b ≡ true → field ≡ codes "drop")
    → (if a then Some true else if b then Some false else None) ≡ Some kept → field ≡ kept_text kept
kept_by true b field kept x y is = let e : true ≡ kept = cc in x refl ∙ ap kept_text e
kept_by false true field kept x y is = let e : false ≡ kept = cc in y refl ∙ ap kept_text e
kept_by false false field kept x y is = absurd cc

kept_told : (field : List ℕ) (kept : Bool) → kept_in field ≡ Some kept → field ≡ kept_text kept
unfolding kept_in
kept_told field kept is = kept_by (bytes_eq field (codes "keep")) (bytes_eq field (codes "drop")) field kept (is_text field (codes "keep")) (is_text field (codes "drop")) is

record Told (told : List (List ℕ)) (action : Action) : Type 0 where
  text : join_with_byte 32 told ≡ action_text action
  line : HasLine action
  some : 0 < length told

idle_by : (what : List ℕ) (a : Bool) (action : Action) → (a ≡ true → what ≡ codes "idle") → (if a then Some Idle else None) ≡ Some action → Told (what ∷ []) action
idle_by what true action x is = let e : Idle ≡ action = cc in subst (Told (what ∷ [])) e (record { text = x refl; line = tt; some = omega arith })
idle_by what false action x is = absurd cc

idle_told : (what : List ℕ) (action : Action) → idle_in what ≡ Some action → Told (what ∷ []) action
unfolding idle_in
idle_told what action is = idle_by what (bytes_eq what (codes "idle")) action (is_text what (codes "idle")) is

fill_by : (what line : List ℕ) (a : Bool) (n : Option ℕ) (action : Action) → (a ≡ true → what ≡ codes "fill") → ((k : ℕ) → n ≡ Some k → (line ≡ decimal k) × (k ≤ MAX_LINE))
    → (if a then option_map Fill n else None) ≡ Some action → Told (what ∷ line ∷ []) action
fill_by what line true None action x y is = absurd cc
fill_by what line true (Some k) action x y is =
    let e : Fill k ≡ action = cc in
    let spelled = y k refl in
    subst (Told (what ∷ line ∷ [])) e (record { text = rw (x refl, spelled.0) refl; line = spelled.1; some = omega arith })
fill_by what line false n action x y is = absurd cc

number_told : (field : List ℕ) (k : ℕ) → number_in MAX_LINE field ≡ Some k → (field ≡ decimal k) × (k ≤ MAX_LINE)
number_told field k is = number_spelled MAX_LINE field k (omega arith) is

fill_told : (what line : List ℕ) (action : Action) → fill_in what line ≡ Some action → Told (what ∷ line ∷ []) action
unfolding fill_in
fill_told what line action is = fill_by what line (bytes_eq what (codes "fill")) (number_in MAX_LINE line) action (is_text what (codes "fill")) (number_told line) is

post_by : (what first second : List ℕ) (name : Option Name) (n : Option ℕ) (action : Action) → what ≡ codes "post" → ((m : Name) → name ≡ Some m → first ≡ name_text m)
    → ((k : ℕ) → n ≡ Some k → (second ≡ decimal k) × (k ≤ MAX_LINE)) → both Post name n ≡ Some action → Told (what ∷ first ∷ second ∷ []) action
post_by what first second None n action w x y is = absurd cc
post_by what first second (Some m) None action w x y is = absurd cc
post_by what first second (Some m) (Some k) action w x y is =
    let e : Post m k ≡ action = cc in
    let spelled = y k refl in
    subst (Told (what ∷ first ∷ second ∷ [])) e (record { text = rw (w, x m refl, spelled.0) (simp append_assoc); line = spelled.1; some = omega arith })

postfill_by : (what first second : List ℕ) (name : Option Name) (n : Option ℕ) (action : Action) → what ≡ codes "postfill" → ((m : Name) → name ≡ Some m → first ≡ name_text m)
    → ((k : ℕ) → n ≡ Some k → (second ≡ decimal k) × (k ≤ MAX_LINE)) → both PostFill name n ≡ Some action → Told (what ∷ first ∷ second ∷ []) action
postfill_by what first second None n action w x y is = absurd cc
postfill_by what first second (Some m) None action w x y is = absurd cc
postfill_by what first second (Some m) (Some k) action w x y is =
    let e : PostFill m k ≡ action = cc in
    let spelled = y k refl in
    subst (Told (what ∷ first ∷ second ∷ [])) e (record { text = rw (w, x m refl, spelled.0) (simp append_assoc); line = spelled.1; some = omega arith })

back_by : (what first second : List ℕ) (n : Option ℕ) (kept : Option Bool) (action : Action) → what ≡ codes "back" → ((k : ℕ) → n ≡ Some k → (first ≡ decimal k) × (k ≤ MAX_LINE))
    → ((b : Bool) → kept ≡ Some b → second ≡ kept_text b) → both Back n kept ≡ Some action → Told (what ∷ first ∷ second ∷ []) action
back_by what first second None kept action w x y is = absurd cc
back_by what first second (Some k) None action w x y is = absurd cc
back_by what first second (Some k) (Some b) action w x y is =
    let e : Back k b ≡ action = cc in
    let spelled = x k refl in
    subst (Told (what ∷ first ∷ second ∷ [])) e (record { text = rw (w, spelled.0, y b refl) (simp append_assoc); line = spelled.1; some = omega arith })

long_by : (what first second : List ℕ) (a b c : Bool) (action : Action) → (a ≡ true → what ≡ codes "post") → (b ≡ true → what ≡ codes "postfill") → (c ≡ true → what ≡ codes "back")
    → (if a then both Post (name_in first) (number_in MAX_LINE second)
    else if b then both PostFill (name_in first) (number_in MAX_LINE second)
    else if c then both Back (number_in MAX_LINE first) (kept_in second)
    else None) ≡ Some action → Told (what ∷ first ∷ second ∷ []) action
long_by what first second true b c action x y z is = post_by what first second (name_in first) (number_in MAX_LINE second) action (x refl) (name_told first) (number_told second) is
long_by what first second false true c action x y z is = postfill_by what first second (name_in first) (number_in MAX_LINE second) action (y refl) (name_told first) (number_told second) is
long_by what first second false false true action x y z is = back_by what first second (number_in MAX_LINE first) (kept_in second) action (z refl) (number_told first) (kept_told second) is
long_by what first second false false false action x y z is = absurd cc

long_told : (what first second : List ℕ) (action : Action) → long_in what first second ≡ Some action → Told (what ∷ first ∷ second ∷ []) action
unfolding long_in
long_told what first second action is =
    long_by what first second (bytes_eq what (codes "post")) (bytes_eq what (codes "postfill")) (bytes_eq what (codes "back")) action (is_text what (codes "post")) (is_text what (codes "postfill")) (is_text what (codes "back")) is

action_told : (told : List (List ℕ)) (action : Action) → action_in told ≡ Some action → Told told action
action_told [] action is = absurd cc
action_told (what ∷ []) action is = idle_told what action is
action_told (what ∷ line ∷ []) action is = fill_told what line action is
action_told (what ∷ first ∷ second ∷ []) action is = long_told what first second action is
action_told (what ∷ first ∷ second ∷ third ∷ more) action is = absurd cc

-- ---- lines

slot_joined : (slot c : ℕ) (line : List ℕ) (told : List (List ℕ)) (action : Action) → fields_of line ≡ codes "slot" ∷ decimal slot ∷ codes "core" ∷ decimal c ∷ told → Told told action → line ≡ slot_text slot c action
slot_joined slot c line told action is t =
    line_joined line (codes "slot" ∷ decimal slot ∷ codes "core" ∷ decimal c ∷ told) is
    ∙ ap (λ (rest : List ℕ). codes "slot" ++ (32 ∷ (decimal slot ++ (32 ∷ (codes "core" ++ (32 ∷ rest)))))) (join_more 32 (decimal c) told t.some ∙ ap (λ (rest : List ℕ). decimal c ++ (32 ∷ rest)) t.text)

record IsRows (cores : ℕ) (done : List Action) (parts : List (List ℕ)) (trace : Trace) : Type 0 where
  rest : List Action
  all : trace ≡ record { cores = cores; actions = done ++ rest }
  text : join_with_byte 10 parts ≡ action_lines (plain_plan cores) (length done) rest ++ end_text (length (done ++ rest))
  lines : AllByRecursion HasLine rest
  few : length (done ++ rest) ≤ MAX_SLOTS

on_row_parts : (read : Result Row TraceFault) (ends : Result Trace TraceFault) (goes_on : Action → Result Trace TraceFault) (trace : Trace) → on_row read ends goes_on ≡ Ok trace
    → ((action : Action) × (read ≡ Ok (row.Slot action)) × (goes_on action ≡ Ok trace)) ⊎ ((read ≡ Ok row.End) × (ends ≡ Ok trace))
on_row_parts (Err fault) ends goes_on trace is = absurd cc
on_row_parts (Ok row.End) ends goes_on trace is = inr (refl, is)
on_row_parts (Ok (row.Slot action)) ends goes_on trace is = inl (action, refl, is)

ended_parts : (made trace : Trace) (rest : List (List ℕ)) → ended made rest ≡ Ok trace → (rest ≡ [] ∷ []) × (made ≡ trace)
ended_parts made trace [] is = absurd cc
ended_parts made trace ([] ∷ []) is = (refl, cc)
ended_parts made trace ([] ∷ next ∷ more) is = absurd cc
ended_parts made trace ((byte ∷ bytes) ∷ more) is = absurd cc

last_rows : (cores : ℕ) (done : List Action) (line next : List ℕ) (more : List (List ℕ)) (trace : Trace) → length done ≤ MAX_SLOTS
    → row_in (plain_plan cores) (length done) (fields_of line) ≡ Ok row.End → ended (record { cores = cores; actions = done }) (next ∷ more) ≡ Ok trace → IsRows cores done (line ∷ next ∷ more) trace
unfolding action_lines
last_rows cores done line next more trace few read is =
    let parts = ended_parts (record { cores = cores; actions = done }) trace (next ∷ more) is in
    let same : done ++ [] ≡ done = append-nil done in
    let spelled : line ≡ codes "end" ++ (32 ∷ decimal (length done)) = line_joined line (codes "end" ∷ decimal (length done) ∷ []) (tells_end (plain_plan cores) (length done) (fields_of line) read) in
    record {
      rest = [];
      all = sym parts.1 ∙ ap (λ (actions : List Action). record { cores = cores; actions = actions }) (sym same);
      text = ap (λ (rest : List (List ℕ)). join_with_byte 10 (line ∷ rest)) parts.0 ∙ ap (λ (text : List ℕ). text ++ (10 ∷ [])) spelled ∙ ap (λ (actions : List Action). end_text (length actions)) (sym same);
      lines = tt;
      few = subst (λ (actions : List Action). length actions ≤ MAX_SLOTS) (sym same) few;
    }

more_rows : (cores : ℕ) (done : List Action) (action : Action) (line next : List ℕ) (more : List (List ℕ)) (trace : Trace)
    → TellsAction (plain_plan cores) (length done) (fields_of line) action → IsRows cores (done ++ action ∷ []) (next ∷ more) trace → IsRows cores done (line ∷ next ∷ more) trace
unfolding action_lines
more_rows cores done action line next more trace tells rows =
    let slot = length done in
    let told = action_told tells.told action tells.reads in
    let same : (done ++ action ∷ []) ++ rows.rest ≡ done ++ (action ∷ rows.rest) = append_assoc done (action ∷ []) rows.rest in
    let next_slot : length (done ++ action ∷ []) ≡ slot + 1 = length-append done (action ∷ []) in
    let lines : List ℕ = action_lines (plain_plan cores) (slot + 1) rows.rest in
    let last : List ℕ = end_text (length (done ++ (action ∷ rows.rest))) in
    let after : join_with_byte 10 (next ∷ more) ≡ lines ++ last =
    rows.text ∙ ap (λ (n : ℕ). action_lines (plain_plan cores) n rows.rest ++ end_text (length ((done ++ action ∷ []) ++ rows.rest))) next_slot
    ∙ ap (λ (actions : List Action). lines ++ end_text (length actions)) same in
    record {
      rest = action ∷ rows.rest;
      all = rows.all ∙ ap (λ (actions : List Action). record { cores = cores; actions = actions }) same;
      text = ap (λ (text : List ℕ). text ++ (10 ∷ join_with_byte 10 (next ∷ more))) (slot_joined slot (owner_of_slot (plain_plan cores) slot) line tells.told action tells.is told)
          ∙ ap (λ (text : List ℕ). slot_text slot (owner_of_slot (plain_plan cores) slot) action ++ (10 ∷ text)) after
          ∙ sym (line_is slot (owner_of_slot (plain_plan cores) slot) action (lines ++ last))
          ∙ sym (append_assoc (action_line slot (owner_of_slot (plain_plan cores) slot) action) lines last);
      lines = (told.line, rows.lines);
      few = subst (λ (actions : List Action). length actions ≤ MAX_SLOTS) same rows.few;
    }

rows_told : (cores : ℕ) (done : List Action) (parts : List (List ℕ)) (trace : Trace) → length done ≤ MAX_SLOTS → rows_in cores done parts ≡ Ok trace → IsRows cores done parts trace
unfolding rows_in
rows_told cores done [] trace few is = absurd cc
rows_told cores done (rest ∷ []) trace few is = absurd cc
rows_told cores done (line ∷ next ∷ more) trace few is =
    elim (on_row_parts (row_in (plain_plan cores) (length done) (fields_of line)) (ended (record { cores = cores; actions = done }) (next ∷ more)) (λ action. rows_in cores (done ++ action ∷ []) (next ∷ more)) trace is) [
      | inl s ↦ (
          let tells = tells_action (plain_plan cores) (length done) (fields_of line) s.0 s.1 in
          let below : length done < MAX_SLOTS = tells.below in
          more_rows cores done s.0 line next more trace tells
          (rows_told cores (done ++ s.0 ∷ []) (next ∷ more) trace (omega (arith, length-append done (s.0 ∷ []))) s.2))
      | inr s ↦ last_rows cores done line next more trace few s.0 s.1
    ]

-- ---- the head

record IsVersion (parts : List (List ℕ)) (trace : Trace) : Type 0 where
  rest : List (List ℕ)
  text : join_with_byte 10 parts ≡ codes "pmsi trace 1\n" ++ join_with_byte 10 rest
  reads : cores_first rest ≡ Ok trace

passed : (test : Bool) (so : Result Trace TraceFault) (fault : TraceFault) (trace : Trace) → (if test then so else Err fault) ≡ Ok trace → (test ≡ true) × (so ≡ Ok trace)
passed true so fault trace is = (refl, is)
passed false so fault trace is = absurd cc

version_told : (parts : List (List ℕ)) (trace : Trace) → version_first parts ≡ Ok trace → IsVersion parts trace
unfolding version_first
version_told [] trace is = absurd cc
version_told (rest ∷ []) trace is = absurd cc
version_told (line ∷ next ∷ more) trace is =
    let read = passed (bytes_eq line (codes "pmsi trace 1")) (cores_first (next ∷ more)) (Line 1) trace is in
    record {
      rest = next ∷ more;
      text = ap (λ (text : List ℕ). text ++ (10 ∷ join_with_byte 10 (next ∷ more))) (is_text line (codes "pmsi trace 1") read.0);
      reads = read.1;
    }

record IsShape (parts : List (List ℕ)) (trace : Trace) : Type 0 where
  cores : ℕ
  rest : List (List ℕ)
  text : join_with_byte 10 parts ≡ (codes "cores " ++ decimal cores) ++ (10 ∷ join_with_byte 10 rest)
  some : 1 ≤ cores
  few : cores ≤ MAX_CORES
  reads : rows_in cores [] rest ≡ Ok trace

record IsCount (fields : List (List ℕ)) (cores : ℕ) : Type 0 where
  is : fields ≡ codes "cores" ∷ decimal cores ∷ []
  some : 1 ≤ cores
  few : cores ≤ MAX_CORES

count_low : (word number : List ℕ) (k cores : ℕ) (low : Bool) → nat_le 1 k ≡ low → word ≡ codes "cores" → (number ≡ decimal k) × (k ≤ MAX_CORES) → (if low then Some k else None) ≡ Some cores → IsCount (word ∷ number ∷ []) cores
count_low word number k cores true some w n is =
    let e : k ≡ cores = cc in
    let low : 1 ≤ k = grind (arith, nat_tests) in
    subst (IsCount (word ∷ number ∷ [])) e (record { is = rw (w, n.0) refl; some = low; few = n.1 })
count_low word number k cores false some w n is = absurd cc

count_by : (word number : List ℕ) (a : Bool) (n : Option ℕ) (cores : ℕ) → (a ≡ true → word ≡ codes "cores") → ((k : ℕ) → n ≡ Some k → (number ≡ decimal k) × (k ≤ MAX_CORES))
    → (if a then if_some_core n else None) ≡ Some cores → IsCount (word ∷ number ∷ []) cores
count_by word number true None cores x y is = absurd cc
count_by word number true (Some k) cores x y is = count_low word number k cores (nat_le 1 k) refl (x refl) (y k refl) is
count_by word number false n cores x y is = absurd cc

count_told : (fields : List (List ℕ)) (cores : ℕ) → cores_in fields ≡ Some cores → IsCount fields cores
unfolding cores_in
count_told [] cores is = absurd cc
count_told (word ∷ []) cores is = absurd cc
count_told (word ∷ number ∷ []) cores is =
    count_by word number (bytes_eq word (codes "cores")) (number_in MAX_CORES number) cores (is_text word (codes "cores")) (λ k. number_spelled MAX_CORES number k (omega arith)) is
count_told (word ∷ number ∷ next ∷ more) cores is = absurd cc

shape_by : (line next : List ℕ) (more : List (List ℕ)) (trace : Trace) (n : Option ℕ) → cores_in (fields_of line) ≡ n → with_cores n (next ∷ more) ≡ Ok trace → IsShape (line ∷ next ∷ more) trace
shape_by line next more trace None read is = absurd cc
shape_by line next more trace (Some cores) read is =
    let count = count_told (fields_of line) cores read in
    record {
      cores = cores;
      rest = next ∷ more;
      text = ap (λ (text : List ℕ). text ++ (10 ∷ join_with_byte 10 (next ∷ more))) (line_joined line (codes "cores" ∷ decimal cores ∷ []) count.is);
      some = count.some;
      few = count.few;
      reads = is;
    }

shape_told : (parts : List (List ℕ)) (trace : Trace) → cores_first parts ≡ Ok trace → IsShape parts trace
unfolding cores_first
shape_told [] trace is = absurd cc
shape_told (rest ∷ []) trace is = absurd cc
shape_told (line ∷ next ∷ more) trace is = shape_by line next more trace (cores_in (fields_of line)) refl is

regroup_head : (version a b n lines last : List ℕ) → version ++ ((a ++ b) ++ (n ++ (lines ++ last))) ≡ ((((version ++ a) ++ b) ++ n) ++ lines) ++ last
regroup_head version a b n lines last = simp append_assoc

told_with : (bytes : List ℕ) (trace : Trace) (version : IsVersion (slice_split is_newline bytes) trace) (shape : IsShape version.rest trace) (rows : IsRows shape.cores [] shape.rest trace)
    → IsTrace (record { cores = shape.cores; actions = rows.rest }) × (bytes ≡ trace_of (record { cores = shape.cores; actions = rows.rest }))
unfolding trace_of
told_with bytes trace version shape rows = (
  record { some = shape.some; few = shape.few; slots = rows.few; lines = All-from_recursion HasLine rows.rest rows.lines },
  sym (join_with_byte-slice_split 10 bytes) ∙ version.text ∙ ap (λ (text : List ℕ). codes "pmsi trace 1\n" ++ text) (shape.text ∙ ap (λ (text : List ℕ). (codes "cores " ++ decimal shape.cores) ++ (10 ∷ text)) rows.text)
      ∙ regroup_head (codes "pmsi trace 1\n") (codes "cores ") (decimal shape.cores) (codes "\n") (action_lines (plain_plan shape.cores) 0 rows.rest) (end_text (length rows.rest)),
)

pub read_is_written : (bytes : List ℕ) (trace : Trace) → reading_of bytes ≡ Ok trace → IsTrace trace × (bytes ≡ trace_of trace)
unfolding reading_of
read_is_written bytes trace is =
    let version = version_told (slice_split is_newline bytes) trace is in
    let shape = shape_told version.rest trace version.reads in
    let rows = rows_told shape.cores [] shape.rest trace (omega arith) shape.reads in
    subst (λ (t : Trace). IsTrace t × (bytes ≡ trace_of t)) (sym rows.all) (told_with bytes trace version shape rows)
