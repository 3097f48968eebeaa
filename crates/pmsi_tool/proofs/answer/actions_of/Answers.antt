use Rattle.std.proofs.Common.{◌≡◌, ◌∙◌, ◌≤◌, length, ap, arith}
use Rattle.pmsi_model.specs.declared.limits.TheConstants.{MAX_SLOTS}
use Rattle.pmsi_model.specs.Run.{records}
use Rattle.bus_core.proofs.Exports.{records_length}
use Rattle.tool_files.specs.Course.{keeps_actions}
use Rattle.pmsi_tool.proofs.answer.actions_of.Goals as goal

pub write_actions-requires : goal.write_actions-requires
write_actions-requires c =
    let job = c.args._job.now in
    let all : c.trace.result.now ≡ records job job.shape.slots =
    c.trace.ensures.of_job job job.shape.slots (c.bus-2.ensures.part job job.shape.slots c.requires.machine) (c.bus-2.ensures.keeps keeps_actions c.requires.keeps) in
    let long : length c.trace.result.now ≡ job.shape.slots = ap length all ∙ records_length job job.shape.slots in
    let few : job.shape.slots ≤ MAX_SLOTS = c.requires.machine.parts.within.shape.slots in
    omega (arith, long, few)
