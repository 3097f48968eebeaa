-- The machine from one boundary to the next.
use Rattle.std.proofs.Common.{arith, ◌≡◌, ℕ, zero, suc, ◌+◌, [], ◌∷◌, ◌++◌, refl, ◌∙◌, add-one}
use Rattle.pmsi_model.specs.Job.{JobValue}
use Rattle.pmsi_model.specs.Machine.{Machine}
use Rattle.pmsi_model.specs.Phase.{phase, phases}
use Rattle.pmsi_model.specs.Run.{start_of, slot_done, machine_at, record_at, records, slot_touches, touches_of}
use Rattle.pmsi_model.specs.Rows.{slot_rows, rows_of}

pub first_machine : (job : JobValue) → machine_at job 0 ≡ start_of job
unfolding machine_at
first_machine job = refl

pub next_machine : (job : JobValue) (slot : ℕ) → machine_at job (slot + 1) ≡ slot_done job (machine_at job slot)
unfolding machine_at
next_machine job slot = rw add-one refl

pub slot_done-slot : (job : JobValue) (x : Machine) → (slot_done job x).slot ≡ x.slot + 1
unfolding slot_done
slot_done-slot job x = refl

-- the boundary's slot
pub machine_at-slot : (job : JobValue) (slot : ℕ) → (machine_at job slot).slot ≡ slot
unfolding machine_at start_of
machine_at-slot job zero = refl
machine_at-slot job (suc slot) =
    let before : (machine_at job slot).slot ≡ slot = machine_at-slot job slot in
    let last : (slot_done job (machine_at job slot)).slot ≡ (machine_at job slot).slot + 1 = slot_done-slot job (machine_at job slot) in
    omega arith

-- the actions, the completed requests and the accesses of one more slot
pub next_records : (job : JobValue) (slot : ℕ) → records job (slot + 1) ≡ records job slot ++ record_at job slot ∷ []
unfolding records
next_records job slot = rw add-one refl

pub next_rows : (job : JobValue) (slot : ℕ) → rows_of job (slot + 1) ≡ rows_of job slot ++ slot_rows job (machine_at job slot) (record_at job slot)
unfolding rows_of
next_rows job slot = rw add-one refl

pub next_touches : (job : JobValue) (slot : ℕ) → touches_of job (slot + 1) ≡ touches_of job slot ++ slot_touches job (machine_at job slot)
unfolding touches_of
next_touches job slot = rw add-one refl

-- a phase stays in its slot, and posts nothing
pub phase-slot : (job : JobValue) (c : ℕ) (x : Machine) → (phase job c x).slot ≡ x.slot
unfolding phase
phase-slot job c x = refl

pub phase-posted : (job : JobValue) (c : ℕ) (x : Machine) → (phase job c x).posted ≡ x.posted
unfolding phase
phase-posted job c x = refl

pub phases-slot : (job : JobValue) (count : ℕ) (x : Machine) → (phases job count x).slot ≡ x.slot
unfolding phases
phases-slot job zero x = refl
phases-slot job (suc count) x = phase-slot job count (phases job count x) ∙ phases-slot job count x

pub phases-posted : (job : JobValue) (count : ℕ) (x : Machine) → (phases job count x).posted ≡ x.posted
unfolding phases
phases-posted job zero x = refl
phases-posted job (suc count) x = phase-posted job count (phases job count x) ∙ phases-posted job count x
