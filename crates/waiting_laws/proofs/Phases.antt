-- The phases of a slot change nothing of what is left for a standing want.
use Rattle.std.proofs.Common.{◌≡◌, ℕ, ◌+◌, ◌*◌, ◌<◌, Option, Some, None, is_some, true, refl, sym, ap, ◌∙◌, subst, arith}
use Rattle.std.specs.Option.{unwrap_or}
use Rattle.pmsi_model.specs.declared.Mode.TheVariants.{Modified}
use Rattle.pmsi_model.specs.declared.Want.{Want}
use Rattle.pmsi_model.specs.Job.{JobValue, IsJob}
use Rattle.pmsi_model.specs.Slots.{SlotPlan, plan_of, gap_of, distance}
use Rattle.pmsi_model.specs.Machine.{Machine, CoreState, mode_in, has_line, first_of, ahead, request_of, owner_of}
use Rattle.pmsi_model.specs.Run.{machine_at, after_phases}
use Rattle.pmsi_model.specs.Waiting.{place_of, back_delay, request_delay, back_slots, request_slots, queue_slots, posted_left, unposted_left, left_for}
use Rattle.pmsi_model.proofs.Boundaries.{machine_at-slot, phases-slot, phases-posted}
use Rattle.pmsi_model.proofs.Requests.{request_queued}
use Rattle.pmsi_model.proofs.Owners.{owner_below, owner_mode, owner_none}
use Rattle.coherence_laws.proofs.Exports.{IsWhole, nobody_at_all, whole_at, phases_at}
use Rattle.waiting_laws.proofs.Quiet.{IsQuiet, quiet_phases}
use Rattle.waiting_laws.proofs.Steps.{request_for, request_here}
use Rattle.waiting_laws.proofs.Stays.{left_posted, left_unposted, owner_here, nobody_here}
use Rattle.pmsi_model.proofs.Cases.{by_bool}

-- one machine is as the other, to all who wait
pub record IsCalm (slot : ℕ) (x y : Machine) : Type 0 where
  pub same_slot : y.slot ≡ x.slot
  pub posted : y.posted ≡ x.posted
  pub quiet : (d : ℕ) → IsQuiet slot (x.cores d) (y.cores d)

back_same : (plan : SlotPlan) (slot : ℕ) (x y : Machine) (o line : ℕ) → IsCalm slot x y → has_line line (x.cores o).write_backs ≡ true
    → back_slots plan y o (place_of line (y.cores o).write_backs) ≡ back_slots plan x o (place_of line (x.cores o).write_backs)
back_same plan slot x y o line calm has =
    let p : ℕ = place_of line (x.cores o).write_backs in
    let near : distance plan o y.slot ≡ distance plan o x.slot = ap (distance plan o) calm.same_slot in
    let same : gap_of plan * (2 * place_of line (y.cores o).write_backs + back_delay (y.cores o).turn) ≡ gap_of plan * (2 * p + back_delay (x.cores o).turn)
    = ap (λ n. gap_of plan * (2 * n + back_delay (y.cores o).turn)) ((calm.quiet o).backs line has).1 ∙ ap (λ t. gap_of plan * (2 * p + back_delay t)) (calm.quiet o).turn in
    omega arith

request_same : (plan : SlotPlan) (slot : ℕ) (x y : Machine) (f : ℕ) → IsCalm slot x y → request_slots plan y f ≡ request_slots plan x f
request_same plan slot x y f calm =
    let near : distance plan f y.slot ≡ distance plan f x.slot = ap (distance plan f) calm.same_slot in
    let same : gap_of plan * request_delay (y.cores f).turn ≡ gap_of plan * request_delay (x.cores f).turn = ap (λ t. gap_of plan * request_delay t) (calm.quiet f).turn in
    omega arith

queue_same : (plan : SlotPlan) (slot : ℕ) (x y : Machine) (c line : ℕ) → IsCalm slot x y
    → ahead c line y.posted * queue_slots plan ≡ ahead c line x.posted * queue_slots plan
queue_same plan slot x y c line calm = ap (λ rs. ahead c line rs * queue_slots plan) calm.posted

owned_same : (plan : SlotPlan) (slot : ℕ) (x y : Machine) (c line o : ℕ) (p q : Option ℕ) → IsCalm slot x y → p ≡ Some o → q ≡ Some o
    → has_line line (x.cores o).write_backs ≡ true → posted_left plan y c line q ≡ posted_left plan x c line p
owned_same plan slot x y c line o p q calm before after has =
    let back = back_same plan slot x y o line calm has in
    let queue = queue_same plan slot x y c line calm in
    let here : posted_left plan y c line (Some o) ≡ posted_left plan x c line (Some o) = omega arith in
    ap (posted_left plan y c line) after ∙ here ∙ ap (posted_left plan x c line) (sym before)

free_same : (plan : SlotPlan) (slot : ℕ) (x y : Machine) (c line : ℕ) (p q : Option ℕ) → IsCalm slot x y → p ≡ None → q ≡ None
    → posted_left plan y c line q ≡ posted_left plan x c line p
free_same plan slot x y c line p q calm before after =
    let f : ℕ = unwrap_or (first_of line x.posted) c in
    let first : request_slots plan y (unwrap_or (first_of line y.posted) c) ≡ request_slots plan y f = ap (λ rs. request_slots plan y (unwrap_or (first_of line rs) c)) calm.posted in
    let request = request_same plan slot x y f calm in
    let queue = queue_same plan slot x y c line calm in
    let here : posted_left plan y c line None ≡ posted_left plan x c line None = omega arith in
    ap (posted_left plan y c line) after ∙ here ∙ ap (posted_left plan x c line) (sym before)

posted_same : (job : JobValue) (slot : ℕ) (x y : Machine) (c : ℕ) (want : Want) (o : Option ℕ) → IsWhole job.shape slot x.posted x.cores
    → IsWhole job.shape (slot + 1) y.posted y.cores → IsCalm slot x y → request_of c x.posted ≡ Some (request_for c want)
    → owner_of x job.shape.cores want.line ≡ o
    → posted_left (plan_of job) y c want.line (owner_of y job.shape.cores want.line) ≡ posted_left (plan_of job) x c want.line (owner_of x job.shape.cores want.line)
posted_same job slot x y c want (Some o) w v calm is owner =
    let below : o < job.shape.cores = owner_below x job.shape.cores want.line o owner in
    let owned : mode_in x o want.line ≡ Some Modified = owner_mode x job.shape.cores want.line o owner in
    let has : has_line want.line (x.cores o).write_backs ≡ true = (w.fine o).demanded_waits want.line owned (request_queued c x.posted (request_for c want) is) in
    let still : mode_in y o want.line ≡ Some Modified = (v.fine o).back_owned want.line ((calm.quiet o).backs want.line has).0 in
    owned_same (plan_of job) slot x y c want.line o (owner_of x job.shape.cores want.line) (owner_of y job.shape.cores want.line) calm owner
    (owner_here job (slot + 1) y o want.line v below still) has
posted_same job slot x y c want None w v calm is owner =
    let free = nobody_at_all job.shape slot x want.line w (owner_none x job.shape.cores want.line owner) in
    free_same (plan_of job) slot x y c want.line (owner_of x job.shape.cores want.line) (owner_of y job.shape.cores want.line) calm owner
    (nobody_here job y want.line (λ d owned. free d ((calm.quiet d).owned want.line owned)))

unposted_same : (plan : SlotPlan) (slot : ℕ) (x y : Machine) (c : ℕ) (victim : Option ℕ) → IsCalm slot x y
    → ((v : ℕ) → victim ≡ Some v → has_line v (x.cores c).write_backs ≡ true)
    → unposted_left plan y c victim ≡ unposted_left plan x c victim
unposted_same plan slot x y c None calm waits = let request = request_same plan slot x y c calm in omega arith
unposted_same plan slot x y c (Some v) calm waits = let back = back_same plan slot x y c v calm (waits v refl) in omega arith

pub left_same : (job : JobValue) (slot : ℕ) (x y : Machine) (c : ℕ) (want : Want) → IsWhole job.shape slot x.posted x.cores
    → IsWhole job.shape (slot + 1) y.posted y.cores → IsCalm slot x y → (x.cores c).want ≡ Some want
    → left_for (plan_of job) y c want ≡ left_for (plan_of job) x c want
left_same job slot x y c want w v calm is =
    let plan : SlotPlan = plan_of job in
    by_bool (is_some want.post)
    (λ posted. left_posted plan y c want posted
    ∙ posted_same job slot x y c want (owner_of x job.shape.cores want.line) w v calm (request_here job.shape slot x c want w is posted) refl
    ∙ sym (left_posted plan x c want posted))
    (λ unposted. left_unposted plan y c want unposted
    ∙ unposted_same plan slot x y c want.victim calm (λ v of. ((w.fine c).want_fine want is).victim_waits v of)
    ∙ sym (left_unposted plan x c want unposted))

-- ---- the phases of a slot

-- the machine when the phases of a slot are done
abbrev pub phased : JobValue → ℕ → Machine
phased job slot = after_phases job (machine_at job slot)

pub phased-slot : (job : JobValue) (slot : ℕ) → (phased job slot).slot ≡ slot
phased-slot job slot = phases-slot job job.shape.cores (machine_at job slot) ∙ machine_at-slot job slot

pub phased_calm : (job : JobValue) (slot : ℕ) → IsCalm slot (machine_at job slot) (phased job slot)
phased_calm job slot = let x : Machine = machine_at job slot in record {
  same_slot = phases-slot job job.shape.cores x;
  posted = phases-posted job job.shape.cores x;
  quiet = λ d. subst (λ (s : ℕ). IsQuiet s (x.cores d) ((after_phases job x).cores d)) (machine_at-slot job slot) (quiet_phases job job.shape.cores x d);
}

pub phased_whole : (job : JobValue) → IsJob job → (slot : ℕ) → IsWhole job.shape (slot + 1) (phased job slot).posted (phased job slot).cores
phased_whole job is slot = phases_at job is slot job.shape.cores (omega arith)

-- a standing want has as much left
pub phased_left : (job : JobValue) → IsJob job → (slot c : ℕ) (want : Want) → ((machine_at job slot).cores c).want ≡ Some want
    → left_for (plan_of job) (phased job slot) c want ≡ left_for (plan_of job) (machine_at job slot) c want
phased_left job is slot c want wants =
    let x : Machine = machine_at job slot in
    let w : IsWhole job.shape slot x.posted x.cores = subst (λ (s : ℕ). IsWhole job.shape s x.posted x.cores) (machine_at-slot job slot) (whole_at job is slot) in
    left_same job slot x (phased job slot) c want w (phased_whole job is slot) (phased_calm job slot) wants

pub phased_want : (job : JobValue) (slot c : ℕ) (want : Want) → ((machine_at job slot).cores c).want ≡ Some want
    → ((phased job slot).cores c).want ≡ Some want
phased_want job slot c want wants = ap (λ (k : CoreState). k.want) (((phased_calm job slot).quiet c).stays want wants) ∙ wants
