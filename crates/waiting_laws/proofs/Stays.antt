-- What is left for a want falls where its slot isn't served: it waits for the same core as before.
use Rattle.std.proofs.Common.{◌≡◌, ◌≢◌, ℕ, ◌+◌, ◌*◌, ◌<◌, ◌≤◌, Option, Some, None, is_some, true, false, refl, sym, ap, subst, if◌then◌else◌, arith}
use Rattle.std.specs.Option.{unwrap_or}
use Rattle.pmsi_model.specs.declared.Mode.TheVariants.{Modified}
use Rattle.pmsi_model.specs.declared.Want.{Want}
use Rattle.pmsi_model.specs.Job.{JobValue}
use Rattle.pmsi_model.specs.Slots.{SlotPlan, plan_of}
use Rattle.pmsi_model.specs.Machine.{Machine, mode_in, has_line, first_of, ahead, request_of, owner_of, nobody_owns}
use Rattle.pmsi_model.specs.Waiting.{request_slots, queue_slots, posted_left, unposted_left, left_for}
use Rattle.pmsi_model.proofs.Requests.{request_queued, first_request}
use Rattle.pmsi_model.proofs.Owners.{owner_below, owner_mode, owner_none, owner_alone, nobody_from, nobody_none}
use Rattle.coherence_laws.proofs.Exports.{IsWhole, nobody_at_all}
use Rattle.waiting_laws.proofs.Steps.{BackFalls, RequestFalls, request_for, request_here, first_is, poster_below}

-- the owner of a line that a core owns
pub owner_here : (job : JobValue) (slot : ℕ) (z : Machine) (o line : ℕ) → IsWhole job.shape slot z.posted z.cores → o < job.shape.cores
    → mode_in z o line ≡ Some Modified → owner_of z job.shape.cores line ≡ Some o
owner_here job slot z o line w below owned =
    owner_alone z job.shape.cores line o below owned (λ d within other twice. let none : mode_in z d line ≡ None = w.alone o d line owned other in grind arith)

pub nobody_here : (job : JobValue) (z : Machine) (line : ℕ) → ((d : ℕ) → mode_in z d line ≢ Some Modified) → owner_of z job.shape.cores line ≡ None
nobody_here job z line free = nobody_none z job.shape.cores line (nobody_from z job.shape.cores line (λ d below. free d))

-- a posted want

owned_falls : (job : JobValue) (x z : Machine) (c line o : ℕ) (p q : Option ℕ) → p ≡ Some o → q ≡ Some o → BackFalls (plan_of job) x z o line
    → ahead c line z.posted ≡ ahead c line x.posted
    → posted_left (plan_of job) z c line q + 1 ≤ posted_left (plan_of job) x c line p
owned_falls job x z c line o p q before after falls as_many =
    let plan : SlotPlan = plan_of job in
    let same : ahead c line z.posted * queue_slots plan ≡ ahead c line x.posted * queue_slots plan = ap (λ n. n * queue_slots plan) as_many in
    let here : posted_left plan z c line (Some o) + 1 ≤ posted_left plan x c line (Some o) = omega arith in
    subst (λ (a : Option ℕ). posted_left plan z c line a + 1 ≤ posted_left plan x c line p) (sym after)
    (subst (λ (a : Option ℕ). posted_left plan z c line (Some o) + 1 ≤ posted_left plan x c line a) (sym before) here)

free_falls : (job : JobValue) (x z : Machine) (c line f : ℕ) (p q : Option ℕ) → p ≡ None → q ≡ None
    → first_of line x.posted ≡ Some f → first_of line z.posted ≡ Some f → RequestFalls (plan_of job) x z f
    → ahead c line z.posted ≡ ahead c line x.posted
    → posted_left (plan_of job) z c line q + 1 ≤ posted_left (plan_of job) x c line p
free_falls job x z c line f p q before after first then_first falls as_many =
    let plan : SlotPlan = plan_of job in
    let same : ahead c line z.posted * queue_slots plan ≡ ahead c line x.posted * queue_slots plan = ap (λ n. n * queue_slots plan) as_many in
    let there : request_slots plan x (unwrap_or (first_of line x.posted) c) ≡ request_slots plan x f = ap (λ (o : Option ℕ). request_slots plan x (unwrap_or o c)) first in
    let now : request_slots plan z (unwrap_or (first_of line z.posted) c) ≡ request_slots plan z f = ap (λ (o : Option ℕ). request_slots plan z (unwrap_or o c)) then_first in
    let here : posted_left plan z c line None + 1 ≤ posted_left plan x c line None = omega arith in
    subst (λ (a : Option ℕ). posted_left plan z c line a + 1 ≤ posted_left plan x c line p) (sym after)
    (subst (λ (a : Option ℕ). posted_left plan z c line None + 1 ≤ posted_left plan x c line a) (sym before) here)

-- each core that a posted want can wait for is as far on
pub record PostedOn (job : JobValue) (x z : Machine) (c line : ℕ) : Type 0 where
  pub back : (o : ℕ) → o < job.shape.cores → mode_in x o line ≡ Some Modified → has_line line (x.cores o).write_backs ≡ true
      → (mode_in z o line ≡ Some Modified) × BackFalls (plan_of job) x z o line
  pub free : ((d : ℕ) → mode_in x d line ≢ Some Modified) → (d : ℕ) → mode_in z d line ≢ Some Modified
  pub first : (f : ℕ) → f < job.shape.cores → nobody_owns x job.shape.cores line ≡ true → first_of line x.posted ≡ Some f
      → (first_of line z.posted ≡ Some f) × RequestFalls (plan_of job) x z f
  pub as_many : ahead c line z.posted ≡ ahead c line x.posted

posted_on_in : (job : JobValue) (x z : Machine) (c : ℕ) (want : Want) (o : Option ℕ) → IsWhole job.shape (x.slot + 1) x.posted x.cores
    → IsWhole job.shape (x.slot + 1) z.posted z.cores → request_of c x.posted ≡ Some (request_for c want)
    → PostedOn job x z c want.line → owner_of x job.shape.cores want.line ≡ o
    → posted_left (plan_of job) z c want.line (owner_of z job.shape.cores want.line) + 1 ≤ posted_left (plan_of job) x c want.line (owner_of x job.shape.cores want.line)
posted_on_in job x z c want (Some o) w v is on owner =
    let below : o < job.shape.cores = owner_below x job.shape.cores want.line o owner in
    let owned : mode_in x o want.line ≡ Some Modified = owner_mode x job.shape.cores want.line o owner in
    let has : has_line want.line (x.cores o).write_backs ≡ true = (w.fine o).demanded_waits want.line owned (request_queued c x.posted (request_for c want) is) in
    let b = on.back o below owned has in
    owned_falls job x z c want.line o (owner_of x job.shape.cores want.line) (owner_of z job.shape.cores want.line) owner
    (owner_here job (x.slot + 1) z o want.line v below b.0) b.1 on.as_many
posted_on_in job x z c want None w v is on owner =
    let nobody = owner_none x job.shape.cores want.line owner in
    let f = first_is x c (request_for c want) is in
    let r = first_request f.0 want.line x.posted w.once f.1 in
    let below : f.0 < job.shape.cores = poster_below job.shape (x.slot + 1) x f.0 r.0 w r.1 in
    let b = on.first f.0 below nobody f.1 in
    free_falls job x z c want.line f.0 (owner_of x job.shape.cores want.line) (owner_of z job.shape.cores want.line) owner
    (nobody_here job z want.line (on.free (nobody_at_all job.shape (x.slot + 1) x want.line w nobody))) f.1 b.0 b.1 on.as_many

-- what is left for a want, by whether it is posted
pub left_posted : (plan : SlotPlan) (x : Machine) (c : ℕ) (want : Want) → is_some want.post ≡ true
    → left_for plan x c want ≡ posted_left plan x c want.line (owner_of x plan.cores want.line)
left_posted plan x c want posted =
    ap (λ b. if b then posted_left plan x c want.line (owner_of x plan.cores want.line) else unposted_left plan x c want.victim) posted

pub left_unposted : (plan : SlotPlan) (x : Machine) (c : ℕ) (want : Want) → is_some want.post ≡ false
    → left_for plan x c want ≡ unposted_left plan x c want.victim
left_unposted plan x c want unposted =
    ap (λ b. if b then posted_left plan x c want.line (owner_of x plan.cores want.line) else unposted_left plan x c want.victim) unposted

pub posted_on : (job : JobValue) (x z : Machine) (c : ℕ) (want : Want) → IsWhole job.shape (x.slot + 1) x.posted x.cores
    → IsWhole job.shape (x.slot + 1) z.posted z.cores → (x.cores c).want ≡ Some want → is_some want.post ≡ true
    → PostedOn job x z c want.line → left_for (plan_of job) z c want + 1 ≤ left_for (plan_of job) x c want
posted_on job x z c want w v is posted on =
    let plan : SlotPlan = plan_of job in
    let here = left_posted plan x c want posted in
    let there = left_posted plan z c want posted in
    let falls = posted_on_in job x z c want (owner_of x job.shape.cores want.line) w v (request_here job.shape (x.slot + 1) x c want w is posted) on refl in
    omega arith

-- a want that isn't posted

pub record UnpostedOn (job : JobValue) (x z : Machine) (c : ℕ) (victim : Option ℕ) : Type 0 where
  pub back : (v : ℕ) → victim ≡ Some v → BackFalls (plan_of job) x z c v
  pub request : victim ≡ None → RequestFalls (plan_of job) x z c

unposted_on_in : (job : JobValue) (x z : Machine) (c : ℕ) (victim : Option ℕ) → UnpostedOn job x z c victim
    → unposted_left (plan_of job) z c victim + 1 ≤ unposted_left (plan_of job) x c victim
unposted_on_in job x z c None on = let falls = on.request refl in omega arith
unposted_on_in job x z c (Some v) on = let falls = on.back v refl in omega arith

pub unposted_on : (job : JobValue) (x z : Machine) (c : ℕ) (want : Want) → is_some want.post ≡ false
    → UnpostedOn job x z c want.victim → left_for (plan_of job) z c want + 1 ≤ left_for (plan_of job) x c want
unposted_on job x z c want unposted on =
    let plan : SlotPlan = plan_of job in
    let here = left_unposted plan x c want unposted in
    let there = left_unposted plan z c want unposted in
    let falls = unposted_on_in job x z c want.victim on in
    omega arith
