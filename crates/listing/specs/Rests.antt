-- What is still to be printed of one core, by slot.
use Rattle.std.specs.Prelude.{ℕ, zero, suc, ◌+◌, ◌-◌, List, [], ◌∷◌, ◌++◌, length, drop, Bool, ◌==◌, if◌then◌else◌}
use Rattle.std.specs.List.{filter, prefix_len}
use Rattle.pmsi_model.specs.declared.Row.{Row}
use Rattle.pmsi_model.specs.declared.Touch.{Touch}
use Rattle.pmsi_model.specs.Job.{JobValue}
use Rattle.pmsi_model.specs.Phase.{touches_by}
use Rattle.pmsi_model.specs.Rows.{slot_rows}
use Rattle.pmsi_model.specs.Run.{machine_at, record_at, slot_touches}

-- its requests and its accesses
pub record RestValue : Type 0 where
  pub rows : List Row
  pub touches : List Touch

-- the request that was served in a slot, where it is the next
abbrev pub row_now : ℕ → List Row → List Row
row_now slot [] = []
row_now slot (row ∷ rows) = if row.fill == slot then row ∷ [] else []

-- how many fills it did in the slot: one at most
abbrev pub fills : ℕ → RestValue → ℕ
fills slot rest = length (row_now slot rest.rows)

-- how many accesses it did in its phase of the slot: all that it did in the slot, but that of a fill
abbrev pub phase_count : ℕ → RestValue → ℕ
phase_count slot rest = prefix_len (λ touch. touch.slot == slot) rest.touches - fills slot rest

abbrev pub without_rows : ℕ → RestValue → RestValue
without_rows count rest = record rest { rows = drop count rest.rows }

abbrev pub without_touches : ℕ → RestValue → RestValue
without_touches count rest = record rest { touches = drop count rest.touches }

-- ---- of a run

-- the requests served in so many slots from this one on, and the accesses
unfoldable pub rows_from : JobValue → ℕ → ℕ → List Row
rows_from job slot zero = []
rows_from job slot (suc count) = slot_rows job (machine_at job slot) (record_at job slot) ++ rows_from job (slot + 1) count

unfoldable pub touches_from : JobValue → ℕ → ℕ → List Touch
touches_from job slot zero = []
touches_from job slot (suc count) = slot_touches job (machine_at job slot) ++ touches_from job (slot + 1) count

-- what a core has in so many slots from this one on; where accesses are left out, its requests alone
abbrev pub rest_at : JobValue → Bool → ℕ → ℕ → ℕ → RestValue
rest_at job keeps slot count c = record {
  rows = filter (λ row. row.core == c) (rows_from job slot count);
  touches = if keeps then touches_by c (touches_from job slot count) else [];
}

-- something of each of the first cores
abbrev pub each : {X : Type 0} → (ℕ → X) → ℕ → List X
each of zero = []
each of (suc count) = each of count ++ of count ∷ []

-- what the first `cores` cores have
abbrev pub rests_at : JobValue → Bool → ℕ → ℕ → ℕ → List RestValue
rests_at job keeps slot count cores = each (rest_at job keeps slot count) cores
