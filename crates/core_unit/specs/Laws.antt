-- What is read of a core is what the job and the slot give, and its states tell what the bus does.
use Rattle.std.specs.Prelude.{◌≡◌, ◌≢◌, ℕ, Bool, true, false, Some, None, is_some}
use Rattle.pmsi_model.specs.declared.Behind.{Behind}
use Rattle.pmsi_model.specs.declared.Behind.TheVariants.{Nobody, Reads, Write}
use Rattle.pmsi_model.specs.declared.Want.{Want}
use Rattle.pmsi_model.specs.Job.{JobValue}
use Rattle.pmsi_model.specs.Machine.{is_shared, mode_of, removed}
use Rattle.pmsi_model.specs.Named.{posted_state}
use Rattle.pmsi_model.specs.Parts.{IsBusPart}
use Rattle.pmsi_model.specs.Shared.{BusSide, behind_in, is_ready}
use Rattle.pmsi_model.specs.Slots.{owner_of_slot, plan_of}
use Rattle.cache_array.specs.Cache.{held_of, words_of}
use Rattle.core_unit.specs.declared.state.State.{State}
use Rattle.core_unit.specs.Changes.{state_name}
use Rattle.core_unit.specs.State.{core_of}
use Rattle.core_unit.specs.Parts.{IsPart, IsPartAfter}

-- two cores agree in all that a caller can read but the ways in which lines stand: registers, pc, status, counts, want, lines and modes are in `core`
pub record ReadAlike (u v : State) : Type 0 where
  pub number : u.number ≡ v.number
  pub shape : u.shape ≡ v.shape
  pub plan : u.plan ≡ v.plan
  pub slot : u.slot ≡ v.slot
  pub phase_done : u.phase_done ≡ v.phase_done
  pub core : core_of u ≡ core_of v
  pub names : (line : ℕ) → state_name line u ≡ state_name line v
  pub cache : u.cache.shape ≡ v.cache.shape
  pub words : (line : ℕ) → mode_of line (held_of v.cache.lines) ≢ None → words_of line u.cache.lines ≡ words_of line v.cache.lines
  pub rows : u.rows.items ≡ v.rows.items
  pub touches : u.touches.items ≡ v.touches.items

-- two cores that are of one part, and both keep their accesses or both don't, agree
abbrev pub PartsAlike : Type 0
PartsAlike = (job : JobValue) (slot c : ℕ) (u v : State) → u.keeps ≡ v.keeps → IsPart job slot c u → IsPart job slot c v → ReadAlike u v

-- and so do two whose phase is done
abbrev pub PartsAfterAlike : Type 0
PartsAfterAlike = (job : JobValue) (slot c : ℕ) (u v : State) → u.keeps ≡ v.keeps → IsPartAfter job slot c u → IsPartAfter job slot c v → ReadAlike u v

-- whether anything is left behind
abbrev pub is_left : Behind → Bool
is_left Nobody = false
is_left Reads = true
is_left Write = true

-- whether a write is
abbrev pub is_write_left : Behind → Bool
is_write_left Nobody = false
is_write_left Reads = false
is_write_left Write = true

-- where a core's posted request can be served, the state of its line is that of a request with behind it what the bus will say
abbrev pub BehindIsTold : Type 0
BehindIsTold = (job : JobValue) (slot c : ℕ) (v : State) (b : BusSide) (want : Want) → IsPartAfter job slot c v → IsBusPart job slot b
    → owner_of_slot (plan_of job) slot ≡ c → v.pending.want ≡ Some want → is_some want.post ≡ true → is_ready b.memory c ≡ true
    → (let behind : Behind = behind_in want.line (removed c b.memory.posted) in
    state_name want.line v ≡ posted_state want.kind (is_shared (mode_of want.line (held_of v.cache.lines))) (is_left behind) (is_write_left behind))
