-- The bus of a job before its first slot.
use Rattle.std.proofs.Common.{◌≡◌, ℕ, zero, suc, ◌-◌, ◌*◌, ◌<◌, List, [], length, slice_index, None, Bool, refl, sym, ap, arith}
use Rattle.std.proofs.Math.Seq.{drop-nil}
use Rattle.pmsi_model.specs.declared.job.Geometry.{Geometry}
use Rattle.pmsi_model.specs.declared.Action.{Action}
use Rattle.pmsi_model.specs.Job.{JobValue}
use Rattle.pmsi_model.specs.Slots.{SlotPlan, gap_of, plan_of}
use Rattle.pmsi_model.specs.Machine.{owner_of}
use Rattle.pmsi_model.specs.Run.{start_of}
use Rattle.pmsi_model.specs.Shared.{SharedValue, IsShared, owner_in}
use Rattle.pmsi_model.specs.Parts.{IsBusPart, word_at}
use Rattle.pmsi_model.proofs.Cases.{by_bool}
use Rattle.pmsi_model.proofs.Boundaries.{first_machine}
use Rattle.bus_core.specs.Records.{side_with}
use Rattle.bus_core.proofs.Records.{first_records}

start_posted : (job : JobValue) → (start_of job).posted ≡ []
unfolding start_of
start_posted job = refl

start_memory : (job : JobValue) → (start_of job).memory ≡ job.start
unfolding start_of
start_memory job = refl

start_unowned : (job : JobValue) (count line : ℕ) → owner_of (start_of job) count line ≡ None
unfolding start_of
start_unowned job zero line = refl
start_unowned job (suc count) line = rw (start_unowned job count line) refl

same_shape : (job : JobValue) (m : SharedValue) → IsShared m → m.shape ≡ job.shape → (length m.owners * job.shape.line_words ≡ length m.words) × (4 * length m.words ≡ job.shape.memory)
same_shape job m is same =
    let words : m.shape.line_words ≡ job.shape.line_words = ap (λ (shape : Geometry). shape.line_words) same in
    let memory : m.shape.memory ≡ job.shape.memory = ap (λ (shape : Geometry). shape.memory) same in
    let o = is.owners in let w = is.words in
    (rw (← words) (omega arith), rw (← memory) w)

pub opened : (job : JobValue) (m : SharedValue) (plan : SlotPlan) (recent : List Action) (keeps : Bool) (trace : List Action)
    → IsShared m → m.shape ≡ job.shape → plan ≡ plan_of job → m.posted ≡ [] → ((line : ℕ) → owner_in m line ≡ None)
    → ((i : ℕ) → i < length m.words → slice_index m.words i ≡ word_at job.start i) → recent ≡ [] → trace ≡ []
    → IsBusPart job 0 (side_with m plan 0 recent keeps trace)
opened job m plan recent keeps trace is shape by posted none words no_recent no_trace = record {
  memory = record {
    shape = shape;
    posted = rw (first_machine, start_posted) posted;
    owners = λ line. rw (first_machine, start_unowned) (none line);
    lines = (same_shape job m is shape).0;
    size = (same_shape job m is shape).1;
    words = λ i below free. rw (first_machine, start_memory) (words i below);
  };
  plan = by;
  now = refl;
  within = omega arith;
  recent = rw (no_recent, first_records) (sym (drop-nil (0 - gap_of (plan_of job))));
  trace = rw (no_trace, first_records) (by_bool keeps (λ kept. rw kept refl) (λ not_kept. rw not_kept refl));
}
