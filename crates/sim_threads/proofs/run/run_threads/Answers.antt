use Rattle.std.proofs.Common.{rules, ◌≡◌, Bool, sym, ap, ◌∙◌, subst}
use Rattle.turn_bus.specs.Seats.{AreSeats}
use Rattle.sim_serial.specs.Cores.{AreParts, AreWith, CoresKeep}
use Rattle.sim_serial.specs.Sims.{Keeps, sim_with}
use Rattle.core_worker.specs.Zips.{cores_of, seats_of}
use Rattle.sim_threads.proofs.Runs.{begin, lent_whole, cores_end, cores_keep, seats_end}
use Rattle.sim_threads.proofs.run.run_threads.Given.{Over}
use Rattle.sim_threads.proofs.run.run_threads.Goals as goal
use Rattle.sim_threads.proofs.run.run_threads.Goals.{After-parted, After-close-bus}

-- the bus keeps what it was told to, and the seats know it
keeps_told : (g : Over) (c : After-parted g) → c.in_ok-bus.bus.keeps ≡ c.args.keep.trace
keeps_told g c = search rules

opened_seats : (g : Over) (c : After-parted g) → AreSeats c.in_ok-shared.shared c.args.job.now c.args.keep.trace 0 c.in_ok-shared.seats.items
opened_seats g c = subst (λ (k : Bool). AreSeats c.in_ok-shared.shared c.args.job.now k 0 c.in_ok-shared.seats.items) (keeps_told g c) (search rules)

pub work_groups-requires-clause-members : goal.work_groups-requires-clause-members
work_groups-requires-clause-members g c κs within =
    let told : c.in_ok-bus.bus.keeps ≡ c.args.keep.trace = search rules in
    begin c.in_ok-shared.shared c.args.job.now c.args.keep c.deref_mut.result.now c.in_ok-cores.cores.items c.in_ok-shared.seats.items (search rules) (search rules) (search rules)
    (subst (λ (k : Bool). AreSeats c.in_ok-shared.shared c.args.job.now k 0 c.in_ok-shared.seats.items) told (search rules))

module _ (g : Over) (c : After-parted g) where
  seats_here : AreSeats c.in_ok-shared.shared c.args.job.now c.args.keep.trace c.args.job.now.shape.slots c.parted.new.seats.items
  seats_here =
      let whole = lent_whole c.in_ok-members.members.len c.work_groups.new.members _ (search rules) in
      subst (AreSeats c.in_ok-shared.shared c.args.job.now c.args.keep.trace c.args.job.now.shape.slots) (sym (c.parted.ensures.seats ∙ ap seats_of whole))
      (seats_end c.in_ok-shared.shared c.args.job.now c.args.keep c.deref_mut.result.now c.in_ok-cores.cores.items c.in_ok-shared.seats.items
      (search rules) (search rules) (search rules) (opened_seats g c) _ c.work_groups.ensures.members c.work_groups.ensures.over)

  cores_here : AreParts c.args.job.now c.args.job.now.shape.slots c.parted.new.cores.items
  cores_here =
      let whole = lent_whole c.in_ok-members.members.len c.work_groups.new.members _ (search rules) in
      subst (AreParts c.args.job.now c.args.job.now.shape.slots) (sym (c.parted.ensures.cores ∙ ap cores_of whole))
      (cores_end c.in_ok-shared.shared c.args.job.now c.args.keep c.deref_mut.result.now c.in_ok-cores.cores.items c.in_ok-shared.seats.items
      (search rules) (search rules) (search rules) (opened_seats g c) _ c.work_groups.ensures.members c.work_groups.ensures.over)

  keep_here : CoresKeep c.args.keep.touches c.parted.new.cores.items
  keep_here =
      let whole = lent_whole c.in_ok-members.members.len c.work_groups.new.members _ (search rules) in
      subst (CoresKeep c.args.keep.touches) (sym (c.parted.ensures.cores ∙ ap cores_of whole))
      (cores_keep c.in_ok-shared.shared c.args.job.now c.args.keep c.deref_mut.result.now c.in_ok-cores.cores.items c.in_ok-shared.seats.items
      (search rules) (search rules) (search rules) (opened_seats g c) _ c.work_groups.ensures.members c.work_groups.ensures.over)

pub close-bus-requires : goal.close-bus-requires
close-bus-requires g c = record { job = c.args.job.now; keeps = c.args.keep.trace; at_end = seats_here g c }

with_bus : (g : Over) (c : After-close-bus g) → AreWith c.args.job.now c.args.job.now.shape.slots c.parted.new.cores.items c.close-bus.result
with_bus g c = let p = (goal.at.from_parts-requires g c).After-parted in
    record { parts = cores_here g p; side = c.close-bus.ensures.bus c.args.job.now c.args.keep.trace (seats_here g p) }

kept : (g : Over) (c : After-close-bus g) → Keeps c.args.keep (sim_with c.parted.new.cores.items c.close-bus.result)
kept g c = let p = (goal.at.from_parts-requires g c).After-parted in
    record { trace = c.close-bus.ensures.keeps c.args.job.now c.args.keep.trace (seats_here g p); touches = keep_here g p }

pub from_parts-requires : goal.from_parts-requires
from_parts-requires g c = record { job = c.args.job.now; slot = c.args.job.now.shape.slots; keep = c.args.keep; at = with_bus g c; keeps = kept g c }

pub returns-clause-machine : goal.returns-clause-machine
returns-clause-machine g c = c.from_parts.ensures.of_job c.args.job.now c.args.job.now.shape.slots (with_bus g (goal.at.returns-clause-machine g c).After-close-bus)

pub returns-clause-keeps : goal.returns-clause-keeps
returns-clause-keeps g c = c.from_parts.ensures.keeps c.args.keep (kept g (goal.at.returns-clause-keeps g c).After-close-bus)
