-- The actions of a run, and the last of them.
use Rattle.std.proofs.Common.{◌≡◌, ℕ, zero, suc, ◌+◌, ◌-◌, ◌<◌, ◌≤◌, List, [], ◌∷◌, ◌++◌, length, Some, None, ◌&&◌, nat_lt, nat_le, if◌then◌else◌, refl, sym, ap, ◌∙◌, arith, length-append, length-drop}
use mathlib.Core.Logic.{dite}
use native.Mathlib.Decide.{ℕ_discrete}
use Rattle.std.specs.List.{slice_get}
use Rattle.circular_buffer.proofs.Places.{slice_get-drop, slice_get-append_left, slice_get-append_right}
use Rattle.pmsi_model.specs.Job.{JobValue}
use Rattle.pmsi_model.specs.Slots.{plan_of, gap_of}
use Rattle.pmsi_model.specs.Run.{records, record_at}
use Rattle.pmsi_model.specs.Shared.{BusSide, last_of}
use Rattle.pmsi_model.specs.Parts.{IsBusPart}
use Rattle.pmsi_model.proofs.Cases.{by_bool}
use Rattle.bus_core.specs.Records.{is_recent, recent_at}

pub first_records : (job : JobValue) → records job 0 ≡ []
unfolding records
first_records job = refl

more_records : (job : JobValue) (slot : ℕ) → records job (suc slot) ≡ records job slot ++ record_at job slot ∷ []
unfolding records
more_records job slot = refl

-- as many as slots
pub records_length : (job : JobValue) (slot : ℕ) → length (records job slot) ≡ slot
records_length job zero = rw first_records refl
records_length job (suc slot) = let before = records_length job slot in
    rw more_records (omega (arith, length-append (records job slot) (record_at job slot ∷ [])))

-- each has its place
pub record_placed : (job : JobValue) (slot s : ℕ) → slot < s → slice_get (records job s) slot ≡ Some (record_at job slot)
record_placed job slot zero below = absurd (omega arith)
record_placed job slot (suc s) below =
    let long = records_length job s in
    rw more_records (dite (ℕ_discrete slot s)
    (λ last. slice_get-append_right (records job s) (record_at job s ∷ []) slot 0 (omega arith) ∙ ap (λ (n : ℕ). Some (record_at job n)) (sym last))
    (λ before. slice_get-append_left (records job s) (record_at job s ∷ []) slot (omega arith) ∙ record_placed job slot s (omega arith)))

-- the item so far from the end
last_placed : {X : Type 0} (n back : ℕ) (xs : List X) → 1 ≤ back → back ≤ n → back ≤ length xs
    → slice_get (last_of n xs) (length (last_of n xs) - back) ≡ slice_get xs (length xs - back)
last_placed n back xs some near within =
    let kept = length-drop (length xs - n) xs in
    slice_get-drop (length xs - n) xs (length (last_of n xs) - back) (length xs - back) (omega arith)

recent_record : (job : JobValue) (n slot s : ℕ) → slot < s → s ≤ slot + n
    → slice_get (last_of n (records job s)) (length (last_of n (records job s)) - (s - slot)) ≡ Some (record_at job slot)
recent_record job n slot s below near =
    let long = records_length job s in
    let at : length (records job s) - (s - slot) ≡ slot = omega arith in
    last_placed n (s - slot) (records job s) (omega arith) (omega arith) (omega arith) ∙ ap (slice_get (records job s)) at ∙ record_placed job slot s below

recent_held : (job : JobValue) (n slot s : ℕ)
    → (if nat_lt slot s && nat_le s (slot + n) then slice_get (last_of n (records job s)) (length (last_of n (records job s)) - (s - slot)) else None)
    ≡ (if nat_lt slot s && nat_le s (slot + n) then Some (record_at job slot) else None)
recent_held job n slot s = by_bool (nat_lt slot s && nat_le s (slot + n))
    (λ has. let below : slot < s = grind arith in let near : s ≤ slot + n = grind arith in rw has (recent_record job n slot s below near))
    (λ past. rw past refl)

-- the bus has the records of the last slots of its job
pub recent_of_job : (job : JobValue) (s slot : ℕ) (b : BusSide) → IsBusPart job s b
    → recent_at slot b ≡ (if is_recent (plan_of job) slot s then Some (record_at job slot) else None)
recent_of_job job s slot b is = rw (is.now, is.plan, is.recent) (recent_held job (gap_of (plan_of job)) slot s)
