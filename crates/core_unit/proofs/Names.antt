-- The states of a core's lines are those of the machine.
use Rattle.std.proofs.Common.{◌≡◌, ℕ, List, sym, ap, ◌∙◌}
use Rattle.pmsi_model.specs.declared.State.{State as LineName}
use Rattle.pmsi_model.specs.Job.{JobValue}
use Rattle.pmsi_model.specs.Machine.{Machine, CoreState, Request}
use Rattle.pmsi_model.specs.Named.{state_in, state_of}
use Rattle.pmsi_model.specs.Phase.{Context, context_of, phase}
use Rattle.pmsi_model.specs.Run.{machine_at}
use Rattle.pmsi_model.proofs.Boundaries.{phase-posted}
use Rattle.core_unit.specs.declared.state.State.{State}
use Rattle.core_unit.specs.Changes.{state_name}
use Rattle.core_unit.specs.Parts.{IsInSlot, IsPart, IsPartAfter}

in_slot : (job : JobValue) (slot c line : ℕ) (y : Context) (posted : List Request) (v : State) → IsInSlot job slot c y posted v → state_name line v ≡ state_in posted c y.core line
in_slot job slot c line y posted v s = s.knows.names line ∙ ap (λ (k : CoreState). state_in posted c k line) (sym s.stands.core)

-- at a boundary
pub name_at : (job : JobValue) (slot c line : ℕ) (v : State) (name : LineName) → name ≡ state_name line v → IsPart job slot c v → name ≡ state_of (machine_at job slot) c line
name_at job slot c line v name is p = is ∙ in_slot job slot c line (context_of (machine_at job slot) c) (machine_at job slot).posted v p.in_slot

-- once the core's phase is done
pub name_after : (job : JobValue) (slot c line : ℕ) (v : State) (name : LineName) → name ≡ state_name line v → IsPartAfter job slot c v
    → name ≡ state_of (phase job c (machine_at job slot)) c line
name_after job slot c line v name is p = let z : Machine = phase job c (machine_at job slot) in
    is ∙ in_slot job slot c line (context_of z c) (machine_at job slot).posted v p.in_slot
    ∙ ap (λ (posted : List Request). state_in posted c (z.cores c) line) (sym (phase-posted job c (machine_at job slot)))
