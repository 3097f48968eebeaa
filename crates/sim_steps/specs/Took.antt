-- What a step comes to, by the counts.
use Rattle.std.specs.Prelude.{Bool, not, nat_lt, if◌then◌else◌}
use Rattle.pmsi_model.specs.declared.step.Step.{Step}
use Rattle.pmsi_model.specs.declared.step.Step.TheVariants.{Phase, Meet}
use Rattle.pmsi_model.specs.Job.{JobValue}
use Rattle.pmsi_model.specs.Spreads.{Counts, core_in, goes_on}
use Rattle.sim_steps.specs.declared.took.Took.{Took}
use Rattle.sim_steps.specs.declared.took.Took.TheVariants.{Done, NotYet, Again, Over}

-- a core's steps come by turns: its phase of a slot, then its meeting
abbrev pub is_in_order : Step → Counts → Bool
is_in_order (Phase c) k = not (k.marked c)
is_in_order (Meet c) k = k.marked c

-- a step in its order, with a slot to go
abbrev pub took_in_order : JobValue → Step → Counts → Took
took_in_order job (Phase c) k = Done
took_in_order job (Meet c) k = if goes_on job c (k.count c) k.turn then Done else NotYet k.turn

abbrev pub took : JobValue → Step → Counts → Took
took job step k =
    if nat_lt (k.count (core_in step)) job.shape.slots
    then (if is_in_order step k then took_in_order job step k else Again)
    else Over
