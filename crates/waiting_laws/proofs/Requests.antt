-- What is left for a want falls where the owner of the slot requests.
use Rattle.std.proofs.Common.{◌≡◌, ◌≢◌, ℕ, ◌+◌, ◌*◌, ◌<◌, ◌≤◌, Some, None, is_some, true, refl, sym, ap, ◌∙◌, subst, arith}
use mathlib.Core.Logic.{dite}
use native.Mathlib.Decide.{ℕ_discrete}
use Rattle.std.specs.Option.{option_map, unwrap_or}
use Rattle.pmsi_model.specs.declared.Want.{Want}
use Rattle.pmsi_model.specs.Job.{JobValue}
use Rattle.pmsi_model.specs.Slots.{SlotPlan, plan_of}
use Rattle.pmsi_model.specs.Run.{slot_owner}
use Rattle.pmsi_model.specs.Machine.{Machine, CoreState, first_of, ahead, request_of, removed, owner_of, nobody_owns}
use Rattle.pmsi_model.specs.Bus.{post, post_at, fill, is_served, requests_now}
use Rattle.pmsi_model.specs.Waiting.{request_slots, queue_slots, posted_left, unposted_left, left_for}
use Rattle.pmsi_model.proofs.Cases.{by_bool}
use Rattle.pmsi_model.proofs.Changes.{post-own, post-other, noted-want, fill-own, fill-other, fill-posted}
use Rattle.pmsi_model.proofs.Owners.{nobody_none}
use Rattle.pmsi_model.proofs.Requests.{ahead_less, core_is}
use Rattle.coherence_laws.proofs.Exports.{at_some, IsWhole, post_whole, fill_whole, nobody_at_all}
use Rattle.pmsi_model.proofs.Distances.{distance_some}
use Rattle.waiting_laws.proofs.Steps.{request_for, request_here, first_is, posted_most, posted_all}
use Rattle.waiting_laws.proofs.Stays.{left_posted, left_unposted}
use Rattle.waiting_laws.proofs.Asks.{IsRequest, request_then, post_asks, fill_asks, at_next, asked_posted, asked_unposted}

-- a want that still stands is the same request, with fewer slots left
abbrev pub IsNearer : JobValue → Machine → ℕ → Want → Machine → Want → Type 0
IsNearer job x c want y later = (later.issue ≡ want.issue) × (left_for (plan_of job) (at_next x y) c later + 1 ≤ left_for (plan_of job) x c want)

abbrev pub FallsTo : JobValue → Machine → ℕ → Want → Machine → Type 0
FallsTo job x c want y = (later : Want) → (y.cores c).want ≡ Some later → IsNearer job x c want y later

pub falls_to : (job : JobValue) (x y : Machine) (c : ℕ) (want later : Want) → (y.cores c).want ≡ Some later → IsNearer job x c want y later → FallsTo job x c want y
falls_to job x y c want later is nearer other other_is = at_some (IsNearer job x c want y) later other nearer (sym is ∙ other_is)

pub falls_gone : (job : JobValue) (x y : Machine) (c : ℕ) (want : Want) → (y.cores c).want ≡ None → FallsTo job x c want y
falls_gone job x y c want gone later is = absurd (grind arith)

-- a claim on a core's own want holds of it by any name
pub own_falls : (job : JobValue) (x y : Machine) (c w : ℕ) (want own : Want) → c ≡ w → (x.cores c).want ≡ Some want → (x.cores w).want ≡ Some own
    → FallsTo job x w own y → FallsTo job x c want y
own_falls job x y c w want own same is mine falls =
    at_some (λ v. FallsTo job x c v y) own want (subst (λ (n : ℕ). FallsTo job x n own y) (sym same) falls)
    (sym mine ∙ (subst (λ (n : ℕ). (x.cores n).want ≡ Some want) same is))

-- ---- post

request_some : (plan : SlotPlan) (x : Machine) (c : ℕ) → 1 ≤ request_slots plan x c
request_some plan x c = let some = distance_some plan c x.slot in omega arith

post_own_falls : (job : JobValue) (x : Machine) (w : ℕ) (v : Want) → IsWhole job.shape (x.slot + 1) x.posted x.cores → w < job.shape.cores
    → (x.cores w).want ≡ Some v → v.post ≡ None → v.victim ≡ None → FallsTo job x w v (post x w v.kind v.line)
post_own_falls job x w v whole below is unposted free =
    let plan : SlotPlan = plan_of job in
    let y : Machine = post x w v.kind v.line in
    let z : Machine = at_next x y in
    let later : Want = post_at x.slot v in
    let after : IsWhole job.shape (x.slot + 1) y.posted y.cores = post_whole job.shape x w v whole below is unposted free in
    let later_is : (y.cores w).want ≡ Some later = ap (λ (k : CoreState). k.want) (post-own x w v.kind v.line) ∙ ap (option_map (post_at x.slot)) is in
    let now : left_for plan x w v ≡ unposted_left plan x w None = left_unposted plan x w v (grind arith) ∙ ap (unposted_left plan x w) free in
    let then_left : left_for plan z w later ≡ posted_left plan z w later.line (owner_of z plan.cores later.line) = left_posted plan z w later refl in
    let most = posted_all job (x.slot + 1) z w later after (request_here job.shape (x.slot + 1) z w later after later_is refl) in
    let some = request_some plan x w in
    falls_to job x y w v later later_is (refl, omega arith)

pub post_falls : (job : JobValue) (x : Machine) (w : ℕ) (v : Want) (c : ℕ) (want : Want) → IsWhole job.shape (x.slot + 1) x.posted x.cores
    → slot_owner job x ≡ w → w < job.shape.cores → requests_now job x w ≡ true → (x.cores w).want ≡ Some v → v.post ≡ None → v.victim ≡ None
    → c < job.shape.cores → (x.cores c).want ≡ Some want → FallsTo job x c want (post x w v.kind v.line)
post_falls job x w v c want whole owner w_below now is unposted free below wants =
    let y : Machine = post x w v.kind v.line in
    let after : IsWhole job.shape (x.slot + 1) y.posted y.cores = post_whole job.shape x w v whole w_below is unposted free in
    let none : request_of w x.posted ≡ None = grind (arith, (whole.fine w).posted_wants) in
    let r : IsRequest x y w None = post_asks job (x.slot + 1) x w v.kind v.line whole none in
    dite (ℕ_discrete c w)
    (λ same. own_falls job x y c w want v same wants is (post_own_falls job x w v whole w_below is unposted free))
    (λ other. falls_to job x y c want want (ap (λ (k : CoreState). k.want) (post-other x w c v.kind v.line other) ∙ noted-want v.kind v.line (x.cores c) ∙ wants) (
      refl,
      by_bool (is_some want.post)
          (λ posted. asked_posted job x y w c want None whole after r owner now other wants posted (λ none. absurd (grind arith)))
          (λ waits. asked_unposted job x y w c want None whole r owner now other below wants waits),
    ))

-- ---- fill

-- the first of the queue is served: one fewer is ahead
served_falls : (job : JobValue) (x y : Machine) (w c : ℕ) (want : Want) → IsWhole job.shape (x.slot + 1) x.posted x.cores
    → IsWhole job.shape (x.slot + 1) y.posted y.cores → y.posted ≡ removed w x.posted → (y.cores c).want ≡ Some want
    → first_of want.line x.posted ≡ Some w → nobody_owns x job.shape.cores want.line ≡ true
    → c ≢ w → (x.cores c).want ≡ Some want → is_some want.post ≡ true
    → left_for (plan_of job) (at_next x y) c want + 1 ≤ left_for (plan_of job) x c want
served_falls job x y w c want whole after rest later first nobody other wants posted =
    let plan : SlotPlan = plan_of job in
    let z : Machine = at_next x y in
    let here = request_here job.shape (x.slot + 1) x c want whole wants posted in
    let fewer : ahead c want.line x.posted ≡ ahead c want.line y.posted + 1
    = ahead_less c w want.line x.posted (request_for c want) whole.once first (λ same. other (sym same)) here refl ∙ ap (λ rs. ahead c want.line rs + 1) (sym rest) in
    let now : left_for plan x c want ≡ posted_left plan x c want.line None
    = left_posted plan x c want posted ∙ ap (posted_left plan x c want.line) (nobody_none x job.shape.cores want.line nobody) in
    let then_left = left_posted plan z c want posted in
    let most = posted_most job (x.slot + 1) z c want after (request_here job.shape (x.slot + 1) z c want after later posted) in
    let steps : ahead c want.line x.posted * queue_slots plan ≡ (ahead c want.line y.posted + 1) * queue_slots plan = ap (λ n. n * queue_slots plan) fewer in
    let some = request_some plan x (unwrap_or (first_of want.line x.posted) c) in
    omega arith

pub fill_falls : (job : JobValue) (x : Machine) (w : ℕ) (v : Want) (c : ℕ) (want : Want) → IsWhole job.shape (x.slot + 1) x.posted x.cores
    → slot_owner job x ≡ w → w < job.shape.cores → requests_now job x w ≡ true → (x.cores w).want ≡ Some v → is_some v.post ≡ true
    → is_served job x w v.line ≡ true → c < job.shape.cores → (x.cores c).want ≡ Some want → FallsTo job x c want (fill x w)
fill_falls job x w v c want whole owner w_below now is posted served below wants =
    let y : Machine = fill x w in
    let nobody : nobody_owns x job.shape.cores v.line ≡ true = grind arith in
    let first : first_of v.line x.posted ≡ Some w = core_is w (first_of v.line x.posted) (grind arith) in
    let after : IsWhole job.shape (x.slot + 1) y.posted y.cores
    = fill_whole job.shape (x.slot + 1) x w v whole w_below is posted (nobody_at_all job.shape (x.slot + 1) x v.line whole nobody) in
    let r : IsRequest x y w (Some v.line) = fill_asks job (x.slot + 1) x w v whole is (request_here job.shape (x.slot + 1) x w v whole is posted) in
    dite (ℕ_discrete c w)
    (λ same. falls_gone job x y c want (subst (λ (n : ℕ). (y.cores n).want ≡ None) (sym same) (ap (λ (k : CoreState). k.want) (fill-own x w v is))))
    (λ other. let later : (y.cores c).want ≡ Some want = ap (λ (k : CoreState). k.want) (fill-other x w c other) ∙ wants in
    falls_to job x y c want want later (
      refl,
      by_bool (is_some want.post)
          (λ waits. dite (ℕ_discrete v.line want.line)
          (λ here. served_falls job x y w c want whole after (fill-posted x w v is) later
          (subst (λ (n : ℕ). first_of n x.posted ≡ Some w) here first) (subst (λ (n : ℕ). nobody_owns x job.shape.cores n ≡ true) here nobody) other wants waits)
          (λ apart. asked_posted job x y w c want (Some v.line) whole after r owner now other wants waits (λ same. apart (grind arith))))
          (λ waits. asked_unposted job x y w c want (Some v.line) whole r owner now other below wants waits),
    ))

-- ---- post and fill

pub post_fill_falls : (job : JobValue) (x : Machine) (w : ℕ) (v : Want) (c : ℕ) (want : Want) → IsWhole job.shape (x.slot + 1) x.posted x.cores
    → slot_owner job x ≡ w → w < job.shape.cores → requests_now job x w ≡ true → (x.cores w).want ≡ Some v → v.post ≡ None → v.victim ≡ None
    → is_served job (post x w v.kind v.line) w v.line ≡ true → c < job.shape.cores → (x.cores c).want ≡ Some want
    → FallsTo job x c want (fill (post x w v.kind v.line) w)
post_fill_falls job x w v c want whole owner w_below now is unposted free served below wants =
    let z : Machine = post x w v.kind v.line in
    let y : Machine = fill z w in
    let u : Want = post_at x.slot v in
    let u_is : (z.cores w).want ≡ Some u = ap (λ (k : CoreState). k.want) (post-own x w v.kind v.line) ∙ ap (option_map (post_at x.slot)) is in
    let nobody : nobody_owns z job.shape.cores v.line ≡ true = grind arith in
    let first : first_of v.line z.posted ≡ Some w = core_is w (first_of v.line z.posted) (grind arith) in
    let between : IsWhole job.shape (x.slot + 1) z.posted z.cores = post_whole job.shape x w v whole w_below is unposted free in
    let after : IsWhole job.shape (x.slot + 1) y.posted y.cores
    = fill_whole job.shape (x.slot + 1) z w u between w_below u_is refl (nobody_at_all job.shape (x.slot + 1) z v.line between nobody) in
    let none : request_of w x.posted ≡ None = grind (arith, (whole.fine w).posted_wants) in
    let asks : IsRequest x z w None = post_asks job (x.slot + 1) x w v.kind v.line whole none in
    let fills : IsRequest z y w (Some v.line) = fill_asks job (x.slot + 1) z w u between u_is (request_here job.shape (x.slot + 1) z w u between u_is refl) in
    let r : IsRequest x y w (Some v.line) = request_then x z y w (Some v.line) asks fills in
    dite (ℕ_discrete c w)
    (λ same. falls_gone job x y c want (subst (λ (n : ℕ). (y.cores n).want ≡ None) (sym same) (ap (λ (k : CoreState). k.want) (fill-own z w u u_is))))
    (λ other. let later : (y.cores c).want ≡ Some want = ap (λ (k : CoreState). k.want) (fill-other z w c other)
    ∙ ap (λ (k : CoreState). k.want) (post-other x w c v.kind v.line other) ∙ noted-want v.kind v.line (x.cores c) ∙ wants in
    falls_to job x y c want want later (
      refl,
      by_bool (is_some want.post)
          (λ waits. asked_posted job x y w c want (Some v.line) whole after r owner now other wants waits
          (λ same. let here : want.line ≡ v.line = grind arith in
          let f = first_is x c (request_for c want) (request_here job.shape (x.slot + 1) x c want whole wants waits) in
          let b = asks.firsts want.line f.0 (λ nothing. absurd (grind arith)) f.1 in
          let also : first_of want.line z.posted ≡ Some w = subst (λ (n : ℕ). first_of n z.posted ≡ Some w) (sym here) first in
          let both : Some w ≡ Some f.0 = sym also ∙ b.1 in
          b.0 (grind arith)))
          (λ waits. asked_unposted job x y w c want (Some v.line) whole r owner now other below wants waits),
    ))
