-- Memory keeps its size, and its bytes are bytes.
use Rattle.std.proofs.Common.{ℕ, zero, suc, List, Option, Some, None, ◌∙◌}
use Rattle.pmsi_model.specs.declared.job.Geometry.{Geometry}
use Rattle.pmsi_model.specs.declared.Access.{Access}
use Rattle.pmsi_model.specs.declared.Action.{Action}
use Rattle.pmsi_model.specs.declared.Action.TheVariants.{Idle, Post, Fill, PostFill, Back}
use Rattle.pmsi_model.specs.declared.Want.{Want}
use Rattle.pmsi_model.specs.Job.{JobValue, IsJob, text_of}
use Rattle.pmsi_model.specs.Effect.{Effect, Next, Memory, Stop}
use Rattle.pmsi_model.specs.Machine.{Machine}
use Rattle.pmsi_model.specs.Phase.{Context, can_run, after_effect, effect_at, accessed, missed, is_permitted, memory_after, instruction, instructions, context_of, phase, phases}
use Rattle.pmsi_model.specs.Bus.{post, fill, fill_for, write_back, kind_of_name, action_of, after_action}
use Rattle.pmsi_model.specs.Run.{start_of, after_phases, slot_done, machine_at, slot_owner}
use Rattle.pmsi_model.proofs.Cases.{by_test}
use Rattle.coherence_laws.specs.Apart.{IsMemoryOf, StaysMemory}
use Rattle.pmsi_model.proofs.Accesses.{length-memory_after, memory_after_below}

-- ---- the phases

pub access_memory : (job : JobValue) (access : Access) (memory : List ℕ) → IsMemoryOf job memory → IsMemoryOf job (memory_after access memory)
access_memory job access memory h = record { size = length-memory_after access memory ∙ h.size; bytes = memory_after_below access memory h.bytes }

effect_memory : (job : JobValue) (shape : Geometry) (slot : ℕ) (effect : Effect) (x : Context) → IsMemoryOf job x.memory → IsMemoryOf job (after_effect shape slot effect x).memory
effect_memory job shape slot (Next regs pc) x h = h
effect_memory job shape slot (Stop halt) x h = h
effect_memory job shape slot (Memory access) x h =
    by_test (λ (y : Context). IsMemoryOf job y.memory) (is_permitted shape access x.core) (accessed shape access x) (record x { core = missed shape slot access x.core })
    (λ granted. access_memory job access x.memory h) (λ denied. h)

pub instruction_memory : (job : JobValue) (shape : Geometry) (slot : ℕ) (text : List ℕ) (x : Context) → IsMemoryOf job x.memory → IsMemoryOf job (instruction shape slot text x).memory
unfolding instruction
instruction_memory job shape slot text x h =
    by_test (λ (y : Context). IsMemoryOf job y.memory) (can_run x.core) (after_effect shape slot (effect_at shape text x.core) x) x
    (λ can. effect_memory job shape slot (effect_at shape text x.core) x h) (λ stays. h)

pub instructions_memory : (job : JobValue) (shape : Geometry) (slot : ℕ) (text : List ℕ) (count : ℕ) (x : Context) → IsMemoryOf job x.memory → IsMemoryOf job (instructions shape slot text count x).memory
unfolding instructions
instructions_memory job shape slot text zero x h = h
instructions_memory job shape slot text (suc count) x h =
    instruction_memory job shape slot text (instructions shape slot text count x) (instructions_memory job shape slot text count x h)

pub phase_memory : (job : JobValue) (c : ℕ) (x : Machine) → IsMemoryOf job x.memory → IsMemoryOf job (phase job c x).memory
unfolding phase
phase_memory job c x h = instructions_memory job job.shape x.slot (text_of job c) job.shape.quantum (context_of x c) h

pub phases_memory : (job : JobValue) (count : ℕ) (x : Machine) → IsMemoryOf job x.memory → IsMemoryOf job (phases job count x).memory
unfolding phases
phases_memory job zero x h = h
phases_memory job (suc count) x h = phase_memory job count (phases job count x) (phases_memory job count x h)

-- ---- the action of a slot

fill_for_memory : (job : JobValue) (x : Machine) (c : ℕ) (want : Option Want) → IsMemoryOf job x.memory → IsMemoryOf job (fill_for x c want).memory
fill_for_memory job x c None h = h
fill_for_memory job x c (Some want) h = access_memory job want.access x.memory h

fill_memory : (job : JobValue) (x : Machine) (c : ℕ) → IsMemoryOf job x.memory → IsMemoryOf job (fill x c).memory
unfolding fill
fill_memory job x c h = fill_for_memory job x c (x.cores c).want h

pub action_memory : (job : JobValue) (x : Machine) (c : ℕ) (action : Action) → IsMemoryOf job x.memory → IsMemoryOf job (after_action x c action).memory
unfolding after_action post write_back
action_memory job x c Idle h = h
action_memory job x c (Post name line) h = h
action_memory job x c (Fill line) h = fill_memory job x c h
action_memory job x c (PostFill name line) h = fill_memory job (post x c (kind_of_name name) line) c h
action_memory job x c (Back line kept) h = h

slot_memory : (job : JobValue) (x : Machine) → IsMemoryOf job x.memory → IsMemoryOf job (slot_done job x).memory
unfolding slot_done
slot_memory job x h = let y : Machine = after_phases job x in let c : ℕ = slot_owner job x in
    action_memory job y c (action_of job y c) (phases_memory job job.shape.cores x h)

pub machine_memory : (job : JobValue) → IsJob job → (slot : ℕ) → IsMemoryOf job (machine_at job slot).memory
unfolding machine_at start_of
machine_memory job is zero = record { size = is.start; bytes = is.bytes }
machine_memory job is (suc slot) = slot_memory job (machine_at job slot) (machine_memory job is slot)

pub stays_memory : StaysMemory
stays_memory job is slot = let h = machine_memory job is slot in let x : Machine = machine_at job slot in
    (h, phases_memory job job.shape.cores x h, λ c. phase_memory job c x h)
