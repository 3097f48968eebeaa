-- How the slots until a write-back or a request fall with a slot, and how many they are at most.
use Rattle.std.proofs.Common.{◌≡◌, ◌≢◌, ℕ, ◌+◌, ◌*◌, ◌<◌, ◌≤◌, length, Option, Some, None, is_some, true, refl, sym, ap, ◌∙◌, arith}
use mathlib.Core.Logic.{dite}
use native.Mathlib.Decide.{dec_le}
use Rattle.std.specs.Option.{unwrap_or}
use Rattle.pmsi_model.specs.declared.job.Geometry.{Geometry}
use Rattle.pmsi_model.specs.declared.Mode.TheVariants.{Modified}
use Rattle.pmsi_model.specs.declared.Turn.{Turn}
use Rattle.pmsi_model.specs.declared.Turn.TheVariants.{Request as RequestTurn, WriteBack as WriteBackTurn}
use Rattle.pmsi_model.specs.declared.Want.{Want}
use Rattle.pmsi_model.specs.Job.{JobValue}
use Rattle.pmsi_model.specs.Slots.{SlotPlan, plan_of, owner_of_slot, gap_of, distance, bound_of}
use Rattle.pmsi_model.specs.Machine.{Machine, Request, mode_in, has_line, first_of, ahead, request_of, owner_of}
use Rattle.pmsi_model.specs.Waiting.{place_of, back_delay, request_delay, back_slots, request_slots, queue_slots, posted_left, unposted_left, left_for}
use Rattle.pmsi_model.specs.Coherent.{posted_request}
use Rattle.pmsi_model.proofs.Cases.{by_test}
use Rattle.pmsi_model.proofs.WriteBacks.{place_within}
use Rattle.pmsi_model.proofs.Requests.{request_queued, first_some, first_request, ahead_within}
use Rattle.pmsi_model.proofs.Owners.{owner_below, owner_mode}
use Rattle.coherence_laws.proofs.Exports.{IsWhole, posted_within, backs_fit}
use Rattle.pmsi_model.proofs.Distances.{distance_within, distance_own, distance_falls}
use Rattle.waiting_laws.proofs.Numbers.{turn_falls, place_falls, back_most, request_most, one_more, more_ahead, bound_steps}

-- ---- falls

abbrev pub BackFalls : SlotPlan → Machine → Machine → ℕ → ℕ → Type 0
BackFalls plan x z o line =
    back_slots plan z o (place_of line (z.cores o).write_backs) + 1 ≤ back_slots plan x o (place_of line (x.cores o).write_backs)

abbrev pub RequestFalls : SlotPlan → Machine → Machine → ℕ → Type 0
RequestFalls plan x z f = request_slots plan z f + 1 ≤ request_slots plan x f

next_distance : (plan : SlotPlan) (x z : Machine) (o : ℕ) → z.slot ≡ x.slot + 1 → distance plan o z.slot ≡ distance plan o (x.slot + 1)
next_distance plan x z o next = ap (distance plan o) next

-- another core has the slot
pub back_far : (plan : SlotPlan) (x z : Machine) (o line : ℕ) → z.slot ≡ x.slot + 1 → o < plan.cores → owner_of_slot plan x.slot ≢ o
    → (z.cores o).turn ≡ (x.cores o).turn → place_of line (z.cores o).write_backs ≡ place_of line (x.cores o).write_backs
    → BackFalls plan x z o line
back_far plan x z o line next below other turn place =
    let d : ℕ = distance plan o z.slot in
    let e : ℕ = distance plan o x.slot in
    let falls : d + 1 ≡ e = ap (λ n. n + 1) (next_distance plan x z o next) ∙ distance_falls plan o x.slot below other in
    let p : ℕ = place_of line (x.cores o).write_backs in
    let same : gap_of plan * (2 * place_of line (z.cores o).write_backs + back_delay (z.cores o).turn) ≡ gap_of plan * (2 * p + back_delay (x.cores o).turn)
    = ap (λ n. gap_of plan * (2 * n + back_delay (z.cores o).turn)) place ∙ ap (λ t. gap_of plan * (2 * p + back_delay t)) turn in
    omega arith

pub request_far : (plan : SlotPlan) (x z : Machine) (f : ℕ) → z.slot ≡ x.slot + 1 → f < plan.cores → owner_of_slot plan x.slot ≢ f
    → (z.cores f).turn ≡ (x.cores f).turn → RequestFalls plan x z f
request_far plan x z f next below other turn =
    let d : ℕ = distance plan f z.slot in
    let e : ℕ = distance plan f x.slot in
    let falls : d + 1 ≡ e = ap (λ n. n + 1) (next_distance plan x z f next) ∙ distance_falls plan f x.slot below other in
    let same : gap_of plan * request_delay (z.cores f).turn ≡ gap_of plan * request_delay (x.cores f).turn = ap (λ t. gap_of plan * request_delay t) turn in
    omega arith

-- it is the core's own slot, and it did a request
pub back_turn : (plan : SlotPlan) (x z : Machine) (o line : ℕ) → o < plan.cores → owner_of_slot plan x.slot ≡ o
    → (x.cores o).turn ≡ RequestTurn → (z.cores o).turn ≡ WriteBackTurn
    → place_of line (z.cores o).write_backs ≡ place_of line (x.cores o).write_backs → BackFalls plan x z o line
back_turn plan x z o line below own before after place =
    let p : ℕ = place_of line (x.cores o).write_backs in
    let one : distance plan o x.slot ≡ 1 = distance_own plan o x.slot own in
    let most : distance plan o z.slot ≤ gap_of plan = distance_within plan o z.slot below in
    let falls : (distance plan o z.slot + gap_of plan * (2 * p)) + 1 ≤ distance plan o x.slot + gap_of plan * (2 * p + 1)
    = turn_falls (gap_of plan) (distance plan o x.slot) (distance plan o z.slot) (2 * p) one most in
    let here : gap_of plan * (2 * place_of line (z.cores o).write_backs + back_delay (z.cores o).turn) ≡ gap_of plan * (2 * p + 0)
    = ap (λ n. gap_of plan * (2 * n + back_delay (z.cores o).turn)) place ∙ ap (λ t. gap_of plan * (2 * p + back_delay t)) after in
    let there : gap_of plan * (2 * p + back_delay (x.cores o).turn) ≡ gap_of plan * (2 * p + 1) = ap (λ t. gap_of plan * (2 * p + back_delay t)) before in
    let zero : gap_of plan * (2 * p + 0) ≡ gap_of plan * (2 * p) = ap (λ n. gap_of plan * n) (omega arith) in
    omega arith

-- it did a write-back where the request was possible too
pub request_turn : (plan : SlotPlan) (x z : Machine) (f : ℕ) → f < plan.cores → owner_of_slot plan x.slot ≡ f
    → (x.cores f).turn ≡ WriteBackTurn → (z.cores f).turn ≡ RequestTurn → RequestFalls plan x z f
request_turn plan x z f below own before after =
    let one : distance plan f x.slot ≡ 1 = distance_own plan f x.slot own in
    let most : distance plan f z.slot ≤ gap_of plan = distance_within plan f z.slot below in
    let falls : (distance plan f z.slot + gap_of plan * 0) + 1 ≤ distance plan f x.slot + gap_of plan * (0 + 1)
    = turn_falls (gap_of plan) (distance plan f x.slot) (distance plan f z.slot) 0 one most in
    let here : gap_of plan * request_delay (z.cores f).turn ≡ gap_of plan * 0 = ap (λ t. gap_of plan * request_delay t) after in
    let there : gap_of plan * request_delay (x.cores f).turn ≡ gap_of plan * (0 + 1) = ap (λ t. gap_of plan * request_delay t) before in
    omega arith

delay_most : (turn : Turn) → back_delay turn ≤ 1
delay_most RequestTurn = omega arith
delay_most WriteBackTurn = omega arith

request_delay_most : (turn : Turn) → request_delay turn ≤ 1
request_delay_most RequestTurn = omega arith
request_delay_most WriteBackTurn = omega arith

-- it wrote back a line that stood before
pub back_place : (plan : SlotPlan) (x z : Machine) (o line : ℕ) → o < plan.cores → owner_of_slot plan x.slot ≡ o
    → place_of line (x.cores o).write_backs ≡ place_of line (z.cores o).write_backs + 1 → BackFalls plan x z o line
back_place plan x z o line below own place =
    place_falls (gap_of plan) (distance plan o x.slot) (distance plan o z.slot) (place_of line (z.cores o).write_backs) (place_of line (x.cores o).write_backs)
    (back_delay (x.cores o).turn) (back_delay (z.cores o).turn) (distance_own plan o x.slot own) (distance_within plan o z.slot below) place (delay_most (z.cores o).turn)

-- ---- at most

pub request_slots_most : (plan : SlotPlan) (x : Machine) (c : ℕ) → c < plan.cores → request_slots plan x c ≤ 2 * gap_of plan
request_slots_most plan x c below =
    request_most (gap_of plan) (distance plan c x.slot) (request_delay (x.cores c).turn) (distance_within plan c x.slot below) (request_delay_most (x.cores c).turn)

pub back_slots_most : (job : JobValue) (slot : ℕ) (x : Machine) (o line : ℕ) → IsWhole job.shape slot x.posted x.cores → o < job.shape.cores
    → has_line line (x.cores o).write_backs ≡ true
    → back_slots (plan_of job) x o (place_of line (x.cores o).write_backs) ≤ 2 * gap_of (plan_of job) * job.shape.cores
back_slots_most job slot x o line w below has =
    let p : ℕ = place_of line (x.cores o).write_backs in
    let fits : length (x.cores o).write_backs ≤ job.shape.cores = backs_fit job.shape slot x.posted x.cores o w in
    let place : p + 1 ≤ length (x.cores o).write_backs = place_within line (x.cores o).write_backs has in
    back_most (gap_of (plan_of job)) job.shape.cores (distance (plan_of job) o x.slot) p (back_delay (x.cores o).turn)
    (distance_within (plan_of job) o x.slot below) (omega arith) (delay_most (x.cores o).turn)

-- ---- who has a request

none_posted : (c : ℕ) (want : Option Want) (r : Request) → want ≡ None → posted_request c want ≢ Some r
none_posted c None r none is = grind arith
none_posted c (Some want) r none is = grind arith

-- it is one of the job's cores
pub poster_below : (shape : Geometry) (slot : ℕ) (x : Machine) (c : ℕ) (r : Request) → IsWhole shape slot x.posted x.cores
    → request_of c x.posted ≡ Some r → c < shape.cores
poster_below shape slot x c r w is = dite (dec_le shape.cores c)
    (λ past. absurd (none_posted c (x.cores c).want r (w.idle c past) (sym (w.fine c).posted_wants ∙ is)))
    (λ below. omega arith)

-- the request of a posted want
abbrev pub request_for : ℕ → Want → Request
request_for c want = record { core = c; line = want.line; kind = want.kind }

posted_for : (c : ℕ) (want : Option Want) (v : Want) → want ≡ Some v → is_some v.post ≡ true → posted_request c want ≡ Some (request_for c v)
posted_for c None v is posted = absurd (grind arith)
posted_for c (Some want) v is posted = grind arith

pub request_here : (shape : Geometry) (slot : ℕ) (x : Machine) (c : ℕ) (want : Want) → IsWhole shape slot x.posted x.cores
    → (x.cores c).want ≡ Some want → is_some want.post ≡ true → request_of c x.posted ≡ Some (request_for c want)
request_here shape slot x c want w is posted = (w.fine c).posted_wants ∙ posted_for c (x.cores c).want want is posted

some_is : (o : Option ℕ) → is_some o ≡ true → (n : ℕ) × (o ≡ Some n)
some_is None some = absurd (grind arith)
some_is (Some n) some = (n, refl)

-- the first of the queue of a line that a request is for
pub first_is : (x : Machine) (c : ℕ) (r : Request) → request_of c x.posted ≡ Some r → (f : ℕ) × (first_of r.line x.posted ≡ Some f)
first_is x c r is = some_is (first_of r.line x.posted) (first_some r.line x.posted ∙ request_queued c x.posted r is)

-- ---- what is left is at most ..

-- .. one step a request in the queue, the core's own counted
posted_most_in : (job : JobValue) (slot : ℕ) (x : Machine) (c : ℕ) (want : Want) (o : Option ℕ) → IsWhole job.shape slot x.posted x.cores
    → request_of c x.posted ≡ Some (request_for c want) → owner_of x job.shape.cores want.line ≡ o
    → posted_left (plan_of job) x c want.line o ≤ (ahead c want.line x.posted + 1) * queue_slots (plan_of job)
posted_most_in job slot x c want (Some o) w is owner =
    let plan : SlotPlan = plan_of job in
    let below : o < job.shape.cores = owner_below x job.shape.cores want.line o owner in
    let owned : mode_in x o want.line ≡ Some Modified = owner_mode x job.shape.cores want.line o owner in
    let has : has_line want.line (x.cores o).write_backs ≡ true = (w.fine o).demanded_waits want.line owned (request_queued c x.posted (request_for c want) is) in
    let back = back_slots_most job slot x o want.line w below has in
    one_more (ahead c want.line x.posted) (queue_slots plan) (back_slots plan x o (place_of want.line (x.cores o).write_backs) + 2 * gap_of plan) (omega arith)
posted_most_in job slot x c want None w is owner =
    let plan : SlotPlan = plan_of job in
    let f = first_is x c (request_for c want) is in
    let r = first_request f.0 want.line x.posted w.once f.1 in
    let below : f.0 < job.shape.cores = poster_below job.shape slot x f.0 r.0 w r.1 in
    let most : request_slots plan x f.0 ≤ 2 * gap_of plan = request_slots_most plan x f.0 below in
    let first : unwrap_or (first_of want.line x.posted) c ≡ f.0 = ap (λ (o : Option ℕ). unwrap_or o c) f.1 in
    let same : request_slots plan x (unwrap_or (first_of want.line x.posted) c) ≡ request_slots plan x f.0 = ap (request_slots plan x) first in
    one_more (ahead c want.line x.posted) (queue_slots plan) (request_slots plan x (unwrap_or (first_of want.line x.posted) c)) (omega arith)

pub posted_most : (job : JobValue) (slot : ℕ) (x : Machine) (c : ℕ) (want : Want) → IsWhole job.shape slot x.posted x.cores
    → request_of c x.posted ≡ Some (request_for c want)
    → posted_left (plan_of job) x c want.line (owner_of x job.shape.cores want.line) ≤ (ahead c want.line x.posted + 1) * queue_slots (plan_of job)
posted_most job slot x c want w is = posted_most_in job slot x c want (owner_of x job.shape.cores want.line) w is refl

-- .. one step a core, for a posted request
pub posted_all : (job : JobValue) (slot : ℕ) (x : Machine) (c : ℕ) (want : Want) → IsWhole job.shape slot x.posted x.cores
    → request_of c x.posted ≡ Some (request_for c want)
    → posted_left (plan_of job) x c want.line (owner_of x job.shape.cores want.line) ≤ job.shape.cores * queue_slots (plan_of job)
posted_all job slot x c want w is =
    let most = posted_most job slot x c want w is in
    let within = posted_within job.shape slot x.posted x.cores w in
    let ahead_most : ahead c want.line x.posted + 1 ≤ length x.posted = ahead_within c want.line x.posted (request_for c want) is in
    let more = more_ahead (ahead c want.line x.posted + 1) job.shape.cores (queue_slots (plan_of job)) (omega arith) in
    omega arith

unposted_most : (job : JobValue) (slot : ℕ) (x : Machine) (c : ℕ) (victim : Option ℕ) → IsWhole job.shape slot x.posted x.cores → c < job.shape.cores
    → ((v : ℕ) → victim ≡ Some v → has_line v (x.cores c).write_backs ≡ true)
    → unposted_left (plan_of job) x c victim ≤ (job.shape.cores + 1) * queue_slots (plan_of job)
unposted_most job slot x c None w below waits =
    let plan : SlotPlan = plan_of job in
    let most = request_slots_most plan x c below in
    one_more job.shape.cores (queue_slots plan) (request_slots plan x c) (omega arith)
unposted_most job slot x c (Some v) w below waits =
    let plan : SlotPlan = plan_of job in
    let most = back_slots_most job slot x c v w below (waits v refl) in
    one_more job.shape.cores (queue_slots plan) (back_slots plan x c (place_of v (x.cores c).write_backs) + 2 * gap_of plan) (omega arith)

-- .. the bound
pub left_most : (job : JobValue) (slot : ℕ) (x : Machine) (c : ℕ) (want : Want) → IsWhole job.shape slot x.posted x.cores → c < job.shape.cores
    → (x.cores c).want ≡ Some want → left_for (plan_of job) x c want ≤ bound_of (plan_of job)
left_most job slot x c want w below is =
    let plan : SlotPlan = plan_of job in
    let steps : (job.shape.cores + 1) * queue_slots plan ≡ bound_of plan = bound_steps (gap_of plan) job.shape.cores in
    let less = more_ahead job.shape.cores (job.shape.cores + 1) (queue_slots plan) (omega arith) in
    by_test (λ n. n ≤ bound_of plan) (is_some want.post) (posted_left plan x c want.line (owner_of x plan.cores want.line)) (unposted_left plan x c want.victim)
    (λ posted. let most = posted_all job slot x c want w (request_here job.shape slot x c want w is posted) in omega arith)
    (λ unposted. let most = unposted_most job slot x c want.victim w below (λ v of. ((w.fine c).want_fine want is).victim_waits v of) in omega arith)
