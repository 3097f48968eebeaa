-- One slot of all cores: what is told of it, and what is left.
use Rattle.std.proofs.Common.{◌≡◌, ℕ, zero, suc, ◌+◌, ◌-◌, ◌<◌, List, [], ◌∷◌, ◌++◌, All, length, take, drop, map, Bool, true, false, ◌==◌, sym, ap, ◌∙◌, subst, arith, append-nil, append_assoc, add-zero, add-one, zero-add}
use Rattle.std.specs.List.{flat_map}
use Rattle.std.proofs.lemmas.List.Elements.{All-append, All-filter, filter-append}
use Rattle.std.proofs.lemmas.List.Concat.{flat_map-append}
use Rattle.std.proofs.lemmas.Nat.{mod_below}
use Rattle.pmsi_model.specs.declared.Row.{Row}
use Rattle.pmsi_model.specs.declared.Touch.{Touch}
use Rattle.pmsi_model.specs.Job.{JobValue, IsJob}
use Rattle.pmsi_model.specs.Lines.{row_line, touch_line}
use Rattle.pmsi_model.specs.Machine.{Machine}
use Rattle.pmsi_model.specs.Phase.{phases_touches, touches_by}
use Rattle.pmsi_model.specs.Rows.{slot_rows, rows_of}
use Rattle.pmsi_model.specs.Run.{action_touch, after_phases, machine_at, record_at, slot_owner, slot_touches, touches_of}
use Rattle.pmsi_model.proofs.Boundaries.{machine_at-slot, next_rows, next_touches, phases-slot}
use Rattle.text_out.proofs.Exports.{grown}
use Rattle.coherence_laws.proofs.Exports.{touches_by-append}
use Rattle.listing.specs.declared.rests.Piece.TheVariants.{Row as RowPiece, Phase, Fill as FillPiece}
use Rattle.listing.specs.Rests.{RestValue, each, fills, phase_count, rest_at, rests_at, rows_from, touches_from}
use Rattle.listing.specs.Pieces.{piece_text, past_piece}
use Rattle.listing.proofs.Joins.{joined_same, joined_told, each_same, each_changed, each_told}
use Rattle.listing.proofs.Merges.{rows_by, FilledAt, served_at, pair_acted, phases_at, acted_at, rows_joined, touch_joined, phases_joined, rows_later, touches_later}
use Rattle.listing.proofs.SlotParts.{IsInSlot, RowsAfter, TouchesAfter, fills_are, phase_is, taken, left}

module _ (job : JobValue) (slot : ℕ) where
  x : Machine
  x = machine_at job slot

  rows : List Row
  rows = slot_rows job x (record_at job slot)

  phase : List Touch
  phase = phases_touches job job.shape.cores x

  fill : List Touch
  fill = action_touch (after_phases job x) (slot_owner job x) (record_at job slot)

  after_slot : (after_phases job x).slot ≡ slot
  unfolding x
  after_slot = phases-slot job job.shape.cores (machine_at job slot) ∙ machine_at-slot job slot

  in_slot : (c : ℕ) → IsInSlot slot (rows_by c rows) (touches_by c phase) (touches_by c fill)
  unfolding x rows phase fill
  in_slot c =
      let pair = pair_acted (after_phases job x) (slot_owner job x) c (record_at job slot) in record {
        one = pair.one;
        filled = All-filter (λ row. row.core == c) (λ row. row.fill ≡ slot) rows
            (subst (λ (s : ℕ). FilledAt s rows) after_slot (served_at (after_phases job x) (slot_owner job x) (record_at job slot)));
        same = pair.same;
        done = All-append (λ touch. touch.slot ≡ slot) (touches_by c phase) (touches_by c fill)
            (All-filter (λ touch. touch.core == c) (λ touch. touch.slot ≡ slot) phase
            (subst (λ (s : ℕ). All (λ touch. touch.slot ≡ s) phase) (machine_at-slot job slot) (phases_at job job.shape.cores x)))
            (All-filter (λ touch. touch.core == c) (λ touch. touch.slot ≡ slot) fill
            (subst (λ (s : ℕ). All (λ touch. touch.slot ≡ s) fill) after_slot (acted_at (after_phases job x) (slot_owner job x) (record_at job slot))));
      }

  module _ (count : ℕ) where
    more_rows : ℕ → List Row
    more_rows c = rows_by c (rows_from job (slot + 1) count)

    more_touches : ℕ → List Touch
    more_touches c = touches_by c (touches_from job (slot + 1) count)

    rows_after : (c : ℕ) → RowsAfter slot (more_rows c)
    unfolding more_rows
    rows_after c = All-filter (λ row. row.core == c) (λ row. slot < row.fill) (rows_from job (slot + 1) count)
        (λ k d below. (let later = rows_later job (slot + 1) count k d below in omega arith))

    touches_after : (c : ℕ) → TouchesAfter slot (more_touches c)
    unfolding more_touches
    touches_after c = All-filter (λ touch. touch.core == c) (λ touch. slot < touch.slot) (touches_from job (slot + 1) count)
        (λ k d below. (let later = touches_later job (slot + 1) count k d below in omega arith))

    rows_split : (c : ℕ) → rows_by c (rows_from job slot (suc count)) ≡ rows_by c rows ++ more_rows c
    unfolding x rows more_rows rows_from
    rows_split c = filter-append (λ (row : Row). row.core == c) rows (rows_from job (slot + 1) count)

    touches_split : (c : ℕ) → touches_by c (touches_from job slot (suc count)) ≡ touches_by c phase ++ touches_by c fill ++ more_touches c
    unfolding x phase fill more_touches touches_from
    touches_split c = touches_by-append c (phase ++ fill) (touches_from job (slot + 1) count)
        ∙ ap (λ (ts : List Touch). ts ++ touches_by c (touches_from job (slot + 1) count)) (touches_by-append c phase fill)

    -- ---- the requests

    -- a core at the boundary, when its requests alone are told
    with_rows : ℕ → RestValue
    with_rows c = record { rows = rows_by c rows ++ more_rows c; touches = [] }

    first_rows : (c : ℕ) → rest_at job false slot (suc count) c ≡ with_rows c
    unfolding with_rows
    first_rows c = ap (λ (rs : List Row). record { rows = rs; touches = [] }) (rows_split c)

    tells_rows : (c : ℕ) → piece_text RowPiece slot (with_rows c) ≡ flat_map row_line (rows_by c rows)
    unfolding with_rows
    tells_rows c = ap (λ (rs : List Row). flat_map row_line rs)
        (taken (fills slot (with_rows c)) (rows_by c rows) (more_rows c) (fills_are slot (rows_by c rows) (more_rows c) (touches_by c phase) (touches_by c fill) [] (in_slot c) (rows_after c)))

    leaves_rows : (c : ℕ) → past_piece RowPiece slot (with_rows c) ≡ rest_at job false (slot + 1) count c
    unfolding with_rows more_rows
    leaves_rows c = ap (λ (rs : List Row). record { rows = rs; touches = [] })
        (left (fills slot (with_rows c)) (rows_by c rows) (more_rows c) (fills_are slot (rows_by c rows) (more_rows c) (touches_by c phase) (touches_by c fill) [] (in_slot c) (rows_after c)))

    -- ---- the accesses

    -- a core at the boundary, and when the accesses of its phase are told
    with_all : ℕ → RestValue
    with_all c = record { rows = rows_by c rows ++ more_rows c; touches = touches_by c phase ++ touches_by c fill ++ more_touches c }

    with_fill : ℕ → RestValue
    with_fill c = record { rows = rows_by c rows ++ more_rows c; touches = touches_by c fill ++ more_touches c }

    first_all : (c : ℕ) → rest_at job true slot (suc count) c ≡ with_all c
    unfolding with_all
    first_all c = ap (λ (rs : List Row). record { rows = rs; touches = touches_by c (touches_from job slot (suc count)) }) (rows_split c)
        ∙ ap (λ (ts : List Touch). record { rows = rows_by c rows ++ more_rows c; touches = ts }) (touches_split c)

    phase_size : (c : ℕ) → phase_count slot (with_all c) ≡ length (touches_by c phase)
    unfolding with_all
    phase_size c = phase_is slot (rows_by c rows) (more_rows c) (touches_by c phase) (touches_by c fill) (more_touches c) (in_slot c) (rows_after c) (touches_after c)

    whole : (c : ℕ) → (with_all c).touches ≡ touches_by c phase ++ (touches_by c fill ++ more_touches c)
    unfolding with_all
    whole c = append_assoc (touches_by c phase) (touches_by c fill) (more_touches c)

    tells_phase : (c : ℕ) → piece_text Phase slot (with_all c) ≡ flat_map touch_line (touches_by c phase)
    tells_phase c = ap (λ (ts : List Touch). flat_map touch_line (take (phase_count slot (with_all c)) ts)) (whole c)
        ∙ ap (λ (ts : List Touch). flat_map touch_line ts) (taken (phase_count slot (with_all c)) (touches_by c phase) (touches_by c fill ++ more_touches c) (phase_size c))

    leaves_phase : (c : ℕ) → past_piece Phase slot (with_all c) ≡ with_fill c
    unfolding with_all with_fill
    leaves_phase c = ap (λ (ts : List Touch). record { rows = rows_by c rows ++ more_rows c; touches = ts })
        (ap (λ (ts : List Touch). drop (phase_count slot (with_all c)) ts) (whole c)
        ∙ left (phase_count slot (with_all c)) (touches_by c phase) (touches_by c fill ++ more_touches c) (phase_size c))

    fill_size : (c : ℕ) → fills slot (with_fill c) ≡ length (rows_by c rows)
    unfolding with_fill
    fill_size c = fills_are slot (rows_by c rows) (more_rows c) (touches_by c phase) (touches_by c fill) (touches_by c fill ++ more_touches c) (in_slot c) (rows_after c)

    tells_fill : (c : ℕ) → piece_text FillPiece slot (with_fill c) ≡ flat_map touch_line (touches_by c fill)
    unfolding with_fill
    tells_fill c = ap (λ (ts : List Touch). flat_map touch_line ts)
        (taken (fills slot (with_fill c)) (touches_by c fill) (more_touches c) (fill_size c ∙ sym (in_slot c).same))

    leaves_fill : (c : ℕ) → past_piece FillPiece slot (with_fill c) ≡ rest_at job true (slot + 1) count c
    unfolding with_fill more_rows more_touches
    leaves_fill c = ap (λ (rs : List Row). record { rows = rs; touches = drop (fills slot (with_fill c)) (touches_by c fill ++ more_touches c) })
        (left (fills slot (with_fill c)) (rows_by c rows) (more_rows c) (fill_size c))
        ∙ ap (λ (ts : List Touch). record { rows = more_rows c; touches = ts })
        (left (fills slot (with_fill c)) (touches_by c fill) (more_touches c) (fill_size c ∙ sym (in_slot c).same))

    -- ---- all cores

    cores : ℕ
    cores = job.shape.cores

    rows_told : slot_owner job x < job.shape.cores → flat_map (piece_text RowPiece slot) (rests_at job false slot (suc count) cores) ≡ flat_map row_line rows
    unfolding x rows cores
    rows_told below = each_told (piece_text RowPiece slot) (rest_at job false slot (suc count)) cores
        ∙ joined_same (λ c. piece_text RowPiece slot (rest_at job false slot (suc count) c)) (λ c. flat_map row_line (rows_by c rows)) cores
        (λ c less. ap (piece_text RowPiece slot) (first_rows c) ∙ tells_rows c)
        ∙ joined_told row_line (λ c. rows_by c rows) cores
        ∙ ap (λ (rs : List Row). flat_map row_line rs) (rows_joined (after_phases job x) (slot_owner job x) cores (record_at job slot) below)

    rows_left : map (past_piece RowPiece slot) (rests_at job false slot (suc count) cores) ≡ rests_at job false (slot + 1) count cores
    rows_left = each_changed (past_piece RowPiece slot) (rest_at job false slot (suc count)) cores
        ∙ each_same (λ c. past_piece RowPiece slot (rest_at job false slot (suc count) c)) (rest_at job false (slot + 1) count) cores
        (λ c. ap (past_piece RowPiece slot) (first_rows c) ∙ leaves_rows c)

    phase_told : flat_map (piece_text Phase slot) (rests_at job true slot (suc count) cores) ≡ flat_map touch_line phase
    unfolding x phase cores
    phase_told = each_told (piece_text Phase slot) (rest_at job true slot (suc count)) cores
        ∙ joined_same (λ c. piece_text Phase slot (rest_at job true slot (suc count) c)) (λ c. flat_map touch_line (touches_by c phase)) cores
        (λ c less. ap (piece_text Phase slot) (first_all c) ∙ tells_phase c)
        ∙ joined_told touch_line (λ c. touches_by c phase) cores
        ∙ ap (λ (ts : List Touch). flat_map touch_line ts) (phases_joined job x cores)

    phase_left : map (past_piece Phase slot) (rests_at job true slot (suc count) cores) ≡ each with_fill cores
    phase_left = each_changed (past_piece Phase slot) (rest_at job true slot (suc count)) cores
        ∙ each_same (λ c. past_piece Phase slot (rest_at job true slot (suc count) c)) with_fill cores
        (λ c. ap (past_piece Phase slot) (first_all c) ∙ leaves_phase c)

    fill_told : slot_owner job x < job.shape.cores → flat_map (piece_text FillPiece slot) (each with_fill cores) ≡ flat_map touch_line fill
    unfolding x fill cores
    fill_told below = each_told (piece_text FillPiece slot) with_fill cores
        ∙ joined_same (λ c. piece_text FillPiece slot (with_fill c)) (λ c. flat_map touch_line (touches_by c fill)) cores (λ c less. tells_fill c)
        ∙ joined_told touch_line (λ c. touches_by c fill) cores
        ∙ ap (λ (ts : List Touch). flat_map touch_line ts) (touch_joined (after_phases job x) (slot_owner job x) cores (record_at job slot) below)

    fill_left : map (past_piece FillPiece slot) (each with_fill cores) ≡ rests_at job true (slot + 1) count cores
    fill_left = each_changed (past_piece FillPiece slot) with_fill cores
        ∙ each_same (λ c. past_piece FillPiece slot (with_fill c)) (rest_at job true (slot + 1) count) cores leaves_fill

-- ---- one slot more

-- the requests told before a slot, and what is left then
pub record AreRowsTold (job : JobValue) (total slot : ℕ) (start out : List ℕ) (rests : List RestValue) : Type 0 where
  pub text : out ≡ start ++ flat_map row_line (rows_of job slot)
  pub left : rests ≡ rests_at job false slot (total - slot) job.shape.cores

pub record AreTouchesTold (job : JobValue) (total slot : ℕ) (start out : List ℕ) (rests : List RestValue) : Type 0 where
  pub text : out ≡ start ++ flat_map touch_line (touches_of job slot)
  pub left : rests ≡ rests_at job true slot (total - slot) job.shape.cores

owner_less : (job : JobValue) (slot : ℕ) → IsJob job → slot_owner job (machine_at job slot) < job.shape.cores
owner_less job slot is = mod_below (machine_at job slot).slot job.shape.cores is.shape.some_cores

one_less : (total slot : ℕ) → slot < total → total - slot ≡ suc (total - (slot + 1))
one_less total slot more = omega arith

pub rows_more : (job : JobValue) (total slot : ℕ) (start before after : List ℕ) (rests now : List RestValue) → IsJob job → slot < total → AreRowsTold job total slot start before rests
    → (after ≡ before ++ flat_map (piece_text RowPiece slot) rests) × (now ≡ map (past_piece RowPiece slot) rests) → AreRowsTold job total (slot + 1) start after now
unfolding x rows cores
rows_more job total slot start before after rests now is more so_far told =
    let count : ℕ = total - (slot + 1) in
    let here : rests ≡ rests_at job false slot (suc count) job.shape.cores =
    so_far.left ∙ ap (λ (n : ℕ). rests_at job false slot n job.shape.cores) (one_less total slot more) in
    record {
      text = grown start (flat_map row_line (rows_of job slot)) before after (flat_map row_line (slot_rows job (machine_at job slot) (record_at job slot))) so_far.text
          (told.0 ∙ ap (λ (rs : List RestValue). before ++ flat_map (piece_text RowPiece slot) rs) here
          ∙ ap (λ (text : List ℕ). before ++ text) (rows_told job slot count (owner_less job slot is)))
          ∙ ap (λ (text : List ℕ). start ++ text) (sym (flat_map-append row_line (rows_of job slot) (slot_rows job (machine_at job slot) (record_at job slot))))
          ∙ ap (λ (rs : List Row). start ++ flat_map row_line rs) (sym (next_rows job slot));
      left = told.1 ∙ ap (λ (rs : List RestValue). map (past_piece RowPiece slot) rs) here ∙ rows_left job slot count;
    }

pub touches_more : (job : JobValue) (total slot : ℕ) (start before between after : List ℕ) (rests middle now : List RestValue) → IsJob job → slot < total → AreTouchesTold job total slot start before rests
    → (between ≡ before ++ flat_map (piece_text Phase slot) rests) × (middle ≡ map (past_piece Phase slot) rests)
    → (after ≡ between ++ flat_map (piece_text FillPiece slot) middle) × (now ≡ map (past_piece FillPiece slot) middle) → AreTouchesTold job total (slot + 1) start after now
unfolding x phase fill cores
touches_more job total slot start before between after rests middle now is more so_far told filled =
    let count : ℕ = total - (slot + 1) in
    let y : Machine = machine_at job slot in
    let done : List Touch = phases_touches job job.shape.cores y in
    let last : List Touch = action_touch (after_phases job y) (slot_owner job y) (record_at job slot) in
    let here : rests ≡ rests_at job true slot (suc count) job.shape.cores =
    so_far.left ∙ ap (λ (n : ℕ). rests_at job true slot n job.shape.cores) (one_less total slot more) in
    let left_then : middle ≡ each (with_fill job slot count) job.shape.cores =
    told.1 ∙ ap (λ (rs : List RestValue). map (past_piece Phase slot) rs) here ∙ phase_left job slot count in
    let first : between ≡ start ++ (flat_map touch_line (touches_of job slot) ++ flat_map touch_line done) =
    grown start (flat_map touch_line (touches_of job slot)) before between (flat_map touch_line done) so_far.text
    (told.0 ∙ ap (λ (rs : List RestValue). before ++ flat_map (piece_text Phase slot) rs) here ∙ ap (λ (text : List ℕ). before ++ text) (phase_told job slot count)) in
    let second : after ≡ start ++ (flat_map touch_line (touches_of job slot) ++ flat_map touch_line done ++ flat_map touch_line last) =
    grown start (flat_map touch_line (touches_of job slot) ++ flat_map touch_line done) between after (flat_map touch_line last) first
    (filled.0 ∙ ap (λ (rs : List RestValue). between ++ flat_map (piece_text FillPiece slot) rs) left_then
    ∙ ap (λ (text : List ℕ). between ++ text) (fill_told job slot count (owner_less job slot is))) in
    record {
      text = second
          ∙ ap (λ (text : List ℕ). start ++ text) (append_assoc (flat_map touch_line (touches_of job slot)) (flat_map touch_line done) (flat_map touch_line last)
          ∙ ap (λ (text : List ℕ). flat_map touch_line (touches_of job slot) ++ text) (sym (flat_map-append touch_line done last))
          ∙ sym (flat_map-append touch_line (touches_of job slot) (done ++ last)))
          ∙ ap (λ (ts : List Touch). start ++ flat_map touch_line ts) (sym (next_touches job slot));
      left = filled.1 ∙ ap (λ (rs : List RestValue). map (past_piece FillPiece slot) rs) left_then ∙ fill_left job slot count;
    }

-- ---- the start

rows_from_on : (job : JobValue) (slot count : ℕ) → rows_of job slot ++ rows_from job slot count ≡ rows_of job (slot + count)
unfolding rows_from
rows_from_on job slot zero = append-nil (rows_of job slot) ∙ ap (rows_of job) (sym (add-zero slot))
rows_from_on job slot (suc count) = let now : List Row = slot_rows job (machine_at job slot) (record_at job slot) in
    let same : slot + 1 + count ≡ slot + suc count = omega arith in
    sym (append_assoc (rows_of job slot) now (rows_from job (slot + 1) count))
    ∙ ap (λ (rs : List Row). rs ++ rows_from job (slot + 1) count) (sym (next_rows job slot)) ∙ rows_from_on job (slot + 1) count ∙ ap (rows_of job) same

touches_from_on : (job : JobValue) (slot count : ℕ) → touches_of job slot ++ touches_from job slot count ≡ touches_of job (slot + count)
unfolding touches_from
touches_from_on job slot zero = append-nil (touches_of job slot) ∙ ap (touches_of job) (sym (add-zero slot))
touches_from_on job slot (suc count) = let now : List Touch = slot_touches job (machine_at job slot) in
    let same : slot + 1 + count ≡ slot + suc count = omega arith in
    sym (append_assoc (touches_of job slot) now (touches_from job (slot + 1) count))
    ∙ ap (λ (ts : List Touch). ts ++ touches_from job (slot + 1) count) (sym (next_touches job slot)) ∙ touches_from_on job (slot + 1) count ∙ ap (touches_of job) same

pub all_rows : (job : JobValue) (count : ℕ) → rows_from job 0 count ≡ rows_of job count
unfolding rows_of
all_rows job count = rows_from_on job 0 count ∙ ap (rows_of job) (zero-add count)

pub all_touches : (job : JobValue) (count : ℕ) → touches_from job 0 count ≡ touches_of job count
unfolding touches_of
all_touches job count = touches_from_on job 0 count ∙ ap (touches_of job) (zero-add count)

pub rows_start : (job : JobValue) (total : ℕ) (start : List ℕ) (rests : List RestValue) → rests ≡ rests_at job false 0 total job.shape.cores → AreRowsTold job total 0 start start rests
unfolding rows_of
rows_start job total start rests is = let all : total ≡ total - 0 = omega arith in
    record { text = sym (append-nil start); left = is ∙ ap (λ (n : ℕ). rests_at job false 0 n job.shape.cores) all }

pub touches_start : (job : JobValue) (total : ℕ) (start : List ℕ) (rests : List RestValue) → rests ≡ rests_at job true 0 total job.shape.cores → AreTouchesTold job total 0 start start rests
unfolding touches_of
touches_start job total start rests is = let all : total ≡ total - 0 = omega arith in
    record { text = sym (append-nil start); left = is ∙ ap (λ (n : ℕ). rests_at job true 0 n job.shape.cores) all }

-- ---- the end

pub rows_end : (job : JobValue) (total slot : ℕ) (start out : List ℕ) (rests : List RestValue) → slot ≡ total → AreRowsTold job total slot start out rests
    → out ≡ start ++ flat_map row_line (rows_of job total)
rows_end job total slot start out rests over told = told.text ∙ ap (λ (n : ℕ). start ++ flat_map row_line (rows_of job n)) over

pub touches_end : (job : JobValue) (total slot : ℕ) (start out : List ℕ) (rests : List RestValue) → slot ≡ total → AreTouchesTold job total slot start out rests
    → out ≡ start ++ flat_map touch_line (touches_of job total)
touches_end job total slot start out rests over told = told.text ∙ ap (λ (n : ℕ). start ++ flat_map touch_line (touches_of job n)) over

-- ---- one core, in all slots

pub with_touches : (job : JobValue) (slot c : ℕ) (rows : List Row) (touches : List Touch) (rest : RestValue) → rest ≡ record { rows = rows; touches = touches }
    → rows ≡ rows_by c (rows_of job slot) → touches ≡ touches_by c (touches_of job slot) → rest ≡ rest_at job true 0 slot c
with_touches job slot c rows touches rest is own did = is
    ∙ ap (λ (rs : List Row). record { rows = rs; touches = touches }) (own ∙ ap (rows_by c) (sym (all_rows job slot)))
    ∙ ap (λ (ts : List Touch). record { rows = rows_by c (rows_from job 0 slot); touches = ts }) (did ∙ ap (touches_by c) (sym (all_touches job slot)))

pub without_touches : (job : JobValue) (slot c : ℕ) (rows : List Row) (rest : RestValue) → rest ≡ record { rows = rows; touches = [] }
    → rows ≡ rows_by c (rows_of job slot) → rest ≡ rest_at job false 0 slot c
without_touches job slot c rows rest is own = is
    ∙ ap (λ (rs : List Row). record { rows = rs; touches = [] }) (own ∙ ap (rows_by c) (sym (all_rows job slot)))

-- one core more
pub next_rest : (job : JobValue) (keeps : Bool) (slot cores : ℕ) (before after : List RestValue) (rest : RestValue) → before ≡ rests_at job keeps 0 slot cores → rest ≡ rest_at job keeps 0 slot cores
    → after ≡ before ++ rest ∷ [] → after ≡ rests_at job keeps 0 slot (cores + 1)
next_rest job keeps slot cores before after rest so_far is more = more ∙ ap (λ (rs : List RestValue). rs ++ rest ∷ []) so_far
    ∙ ap (λ (r : RestValue). rests_at job keeps 0 slot cores ++ r ∷ []) is ∙ ap (λ (n : ℕ). rests_at job keeps 0 slot n) (sym (add-one cores))
