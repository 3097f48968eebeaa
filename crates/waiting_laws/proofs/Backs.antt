-- What is left for a want falls where the owner of the slot writes back, or can do nothing.
use Rattle.std.proofs.Common.{◌≡◌, ◌≢◌, ℕ, ◌+◌, ◌*◌, ◌<◌, ◌≤◌, List, [], ◌∷◌, drop, Option, Some, None, is_some, Bool, true, false, if◌then◌else◌, refl, sym, ap, ◌∙◌, subst, arith}
use mathlib.Core.Logic.{dite}
use native.Mathlib.Decide.{ℕ_discrete}
use Rattle.std.specs.Option.{option_map, unwrap_or}
use Rattle.pmsi_model.specs.declared.Mode.{Mode}
use Rattle.pmsi_model.specs.declared.Mode.TheVariants.{Shared, Modified}
use Rattle.pmsi_model.specs.declared.Turn.{Turn}
use Rattle.pmsi_model.specs.declared.Turn.TheVariants.{Request as RequestTurn, WriteBack as WriteBackTurn}
use Rattle.pmsi_model.specs.declared.Want.{Want}
use Rattle.pmsi_model.specs.Job.{JobValue}
use Rattle.pmsi_model.specs.Slots.{SlotPlan, plan_of}
use Rattle.pmsi_model.specs.Run.{slot_owner}
use Rattle.pmsi_model.specs.Machine.{Machine, CoreState, Request, mode_of, mode_in, without, with_mode, has_line, first_of, ahead, request_of, nobody_owns}
use Rattle.pmsi_model.specs.Bus.{is_core, can_request, can_request_for, requests_now, can_write_back, is_request_turn, write_back, clear_victim}
use Rattle.pmsi_model.specs.Waiting.{place_of, back_slots, request_slots, queue_slots, posted_left, unposted_left, left_for}
use Rattle.pmsi_model.specs.Coherent.{posted_request}
use Rattle.pmsi_model.proofs.Cases.{by_test, by_bool}
use Rattle.pmsi_model.proofs.Changes.{written_core, write_back-own, write_back-other, write_back-posted}
use Rattle.pmsi_model.proofs.Held.{mode_without, mode_with_mode}
use Rattle.pmsi_model.proofs.Requests.{first_request, core_is}
use Rattle.coherence_laws.proofs.Exports.{written_else, IsWhole}
use Rattle.pmsi_model.proofs.Distances.{distance_some}
use Rattle.waiting_laws.proofs.Steps.{BackFalls, RequestFalls, back_far, back_place, request_far, request_turn, request_slots_most, request_for, request_here, first_is, poster_below}
use Rattle.waiting_laws.proofs.Stays.{posted_on, unposted_on, left_posted, left_unposted, owner_here, nobody_here}
use Rattle.waiting_laws.proofs.Asks.{at_next}
use Rattle.waiting_laws.proofs.Requests.{FallsTo, falls_to}

-- ---- who can request

request_can : (job : JobValue) (x : Machine) (f line : ℕ) (r : Request) (o : Option Want) → posted_request f o ≡ Some r → r.line ≡ line
    → first_of line x.posted ≡ Some f → nobody_owns x job.shape.cores line ≡ true → can_request_for job x f o ≡ true
request_can job x f line r None is at first nobody = absurd (grind arith)
request_can job x f line r (Some u) is at first nobody =
    let posted : is_some u.post ≡ true = grind arith in
    let same : line ≡ u.line = grind arith in
    let first_here : first_of u.line x.posted ≡ Some f = subst (λ (n : ℕ). first_of n x.posted ≡ Some f) same first in
    let nobody_here : nobody_owns x job.shape.cores u.line ≡ true = subst (λ (n : ℕ). nobody_owns x job.shape.cores n ≡ true) same nobody in
    grind arith

-- the first of a queue, where nobody owns the line
first_can : (job : JobValue) (slot : ℕ) (x : Machine) (f line : ℕ) → IsWhole job.shape slot x.posted x.cores
    → first_of line x.posted ≡ Some f → nobody_owns x job.shape.cores line ≡ true → can_request job x f ≡ true
first_can job slot x f line w first nobody =
    let r = first_request f line x.posted w.once first in
    request_can job x f line r.0 (x.cores f).want (sym (w.fine f).posted_wants ∙ r.1) r.2 first nobody

-- a core with no victim whose want isn't posted
unposted_can : (job : JobValue) (x : Machine) (c : ℕ) (want : Want) → (x.cores c).want ≡ Some want → is_some want.post ≡ false
    → want.victim ≡ None → can_request job x c ≡ true
unposted_can job x c want is unposted free =
    subst (λ (o : Option Want). can_request_for job x c o ≡ true) (sym is) (grind arith)

-- ---- each core that another waits for is as far on, but for one line of the owner of the slot

pub record IsUnserved (job : JobValue) (x z : Machine) (w : ℕ) (served : Option ℕ) : Type 0 where
  pub back : (o line : ℕ) → o < job.shape.cores → has_line line (x.cores o).write_backs ≡ true → (o ≡ w → served ≢ Some line) → BackFalls (plan_of job) x z o line
  pub request : (f : ℕ) → f < job.shape.cores → can_request job x f ≡ true → RequestFalls (plan_of job) x z f
  pub owned : (d line : ℕ) → served ≢ Some line → mode_in x d line ≡ Some Modified → mode_in z d line ≡ Some Modified
  pub free : (d line : ℕ) → mode_in z d line ≡ Some Modified → mode_in x d line ≡ Some Modified
  pub posted : z.posted ≡ x.posted

unserved_posted : (job : JobValue) (x z : Machine) (w c : ℕ) (want : Want) (served : Option ℕ) → IsWhole job.shape (x.slot + 1) x.posted x.cores
    → IsWhole job.shape (x.slot + 1) z.posted z.cores → IsUnserved job x z w served → (x.cores c).want ≡ Some want → is_some want.post ≡ true
    → served ≢ Some want.line → left_for (plan_of job) z c want + 1 ≤ left_for (plan_of job) x c want
unserved_posted job x z w c want served whole after u is posted apart =
    posted_on job x z c want whole after is posted (record {
      back = λ o below owned has. (u.owned o want.line apart owned, u.back o want.line below has (λ same. apart));
      free = λ none d owned. none d (u.free d want.line owned);
      first = λ f below nobody first. (ap (first_of want.line) u.posted ∙ first, u.request f below (first_can job (x.slot + 1) x f want.line whole first nobody));
      as_many = ap (ahead c want.line) u.posted;
    })

unserved_unposted : (job : JobValue) (x z : Machine) (w c : ℕ) (want : Want) (served : Option ℕ) → IsWhole job.shape (x.slot + 1) x.posted x.cores
    → IsUnserved job x z w served → c < job.shape.cores → (x.cores c).want ≡ Some want → is_some want.post ≡ false
    → ((v : ℕ) → want.victim ≡ Some v → c ≡ w → served ≢ Some v) → left_for (plan_of job) z c want + 1 ≤ left_for (plan_of job) x c want
unserved_unposted job x z w c want served whole u below is unposted apart =
    unposted_on job x z c want unposted (record {
      back = λ v of. u.back c v below (((whole.fine c).want_fine want is).victim_waits v of) (apart v of);
      request = λ none. u.request c below (unposted_can job x c want is unposted none);
    })

-- ---- nothing is possible

idle_cannot : (job : JobValue) (x : Machine) (w : ℕ) → requests_now job x w ≡ false → (x.cores w).write_backs ≡ [] → can_request job x w ≡ false
idle_cannot job x w later empty =
    let nothing : can_write_back (x.cores w).write_backs ≡ false = ap can_write_back empty in grind arith

idle_unserved : (job : JobValue) (x : Machine) (w : ℕ) → slot_owner job x ≡ w → requests_now job x w ≡ false
    → (x.cores w).write_backs ≡ [] → IsUnserved job x (at_next x x) w None
idle_unserved job x w owner later empty = record {
  back = λ o line below has _. back_far (plan_of job) x (at_next x x) o line refl below
      (λ mine. let e : o ≡ w = sym mine ∙ owner in let none : has_line line (x.cores w).write_backs ≡ false = ap (has_line line) empty in
      let here : has_line line (x.cores w).write_backs ≡ true = subst (λ (n : ℕ). has_line line (x.cores n).write_backs ≡ true) e has in grind arith) refl refl;
  request = λ f below can. request_far (plan_of job) x (at_next x x) f refl below
      (λ mine. let e : f ≡ w = sym mine ∙ owner in let cannot = idle_cannot job x w later empty in
      let here : can_request job x w ≡ true = subst (λ (n : ℕ). can_request job x n ≡ true) e can in grind arith) refl;
  owned = λ d line _ is. is;
  free = λ d line is. is;
  posted = refl;
}

pub idle_falls : (job : JobValue) (x : Machine) (w c : ℕ) (want : Want) → IsWhole job.shape (x.slot + 1) x.posted x.cores
    → slot_owner job x ≡ w → requests_now job x w ≡ false → (x.cores w).write_backs ≡ []
    → c < job.shape.cores → (x.cores c).want ≡ Some want → FallsTo job x c want x
idle_falls job x w c want whole owner later empty below wants =
    let u : IsUnserved job x (at_next x x) w None = idle_unserved job x w owner later empty in
    falls_to job x x c want want wants (
      refl,
      by_bool (is_some want.post)
          (λ posted. unserved_posted job x (at_next x x) w c want None whole whole u wants posted (λ none. absurd (grind arith)))
          (λ waits. unserved_unposted job x (at_next x x) w c want None whole u below wants waits (λ v of same none. absurd (grind arith))),
    )

-- ---- a write-back

back_turn_is : (turn : Turn) → is_request_turn turn ≡ false → turn ≡ WriteBackTurn
back_turn_is RequestTurn is = absurd (grind arith)
back_turn_is WriteBackTurn is = refl

-- who writes back though it could request had the turn to write back
backs_in_turn : (job : JobValue) (x : Machine) (w : ℕ) → requests_now job x w ≡ false → can_request job x w ≡ true
    → (x.cores w).turn ≡ WriteBackTurn
backs_in_turn job x w later can = back_turn_is (x.cores w).turn (grind arith)

written_mode : (line l : ℕ) (kept : Bool) (held : List (ℕ × Mode)) → mode_of l (if kept then with_mode line Shared held else without line held) ≡ Some Modified
    → (mode_of l held ≡ Some Modified) × (l ≢ line)
written_mode line l true held is = (grind (arith, mode_with_mode l line Shared held), λ same. grind (arith, mode_with_mode l line Shared held))
written_mode line l false held is = (grind (arith, mode_without l line held), λ same. grind (arith, mode_without l line held))

place_next : (l line : ℕ) (lines before after : List ℕ) → before ≡ line ∷ lines → after ≡ drop 1 before → Some line ≢ Some l
    → place_of l before ≡ place_of l after + 1
place_next l line lines before after is then_is apart =
    let same : after ≡ lines = then_is ∙ ap (drop 1) is in
    let other : l ≢ line = (λ e. apart (ap (λ (n : ℕ). Some n) (sym e))) in
    let first : place_of l (line ∷ lines) ≡ place_of l lines + 1 = grind arith in
    ap (place_of l) is ∙ first ∙ ap (λ (ls : List ℕ). place_of l ls + 1) (sym same)

back_unserved : (job : JobValue) (x : Machine) (w line : ℕ) (lines : List ℕ) (kept : Bool) → slot_owner job x ≡ w
    → requests_now job x w ≡ false → (x.cores w).write_backs ≡ line ∷ lines → IsUnserved job x (at_next x (write_back x w line kept)) w (Some line)
back_unserved job x w line lines kept owner later backs =
    let plan : SlotPlan = plan_of job in
    let y : Machine = write_back x w line kept in
    let own : y.cores w ≡ written_core line kept (x.cores w) = write_back-own x w line kept in
    let others : (d : ℕ) → d ≢ w → y.cores d ≡ x.cores d = write_back-other x w line kept in
    record {
      back = λ o l below has apart. dite (ℕ_discrete o w)
          (λ same. back_place plan x (at_next x y) o l below (owner ∙ sym same)
          (subst (λ (n : ℕ). place_of l (x.cores n).write_backs ≡ place_of l (y.cores n).write_backs + 1) (sym same)
          (place_next l line lines (x.cores w).write_backs (y.cores w).write_backs backs (ap (λ (k : CoreState). k.write_backs) own) (apart same))))
          (λ other. back_far plan x (at_next x y) o l refl below (λ mine. other (sym mine ∙ owner))
          (ap (λ (k : CoreState). k.turn) (others o other)) (ap (λ (k : CoreState). place_of l k.write_backs) (others o other)));
      request = λ f below can. dite (ℕ_discrete f w)
          (λ same. request_turn plan x (at_next x y) f below (owner ∙ sym same)
          (subst (λ (n : ℕ). (x.cores n).turn ≡ WriteBackTurn) (sym same) (backs_in_turn job x w later (subst (λ (n : ℕ). can_request job x n ≡ true) same can)))
          (subst (λ (n : ℕ). (y.cores n).turn ≡ RequestTurn) (sym same) (ap (λ (k : CoreState). k.turn) own)))
          (λ other. request_far plan x (at_next x y) f refl below (λ mine. other (sym mine ∙ owner)) (ap (λ (k : CoreState). k.turn) (others f other)));
      owned = λ d l apart is. dite (ℕ_discrete d w)
          (λ same. subst (λ (n : ℕ). mode_in y n l ≡ Some Modified) (sym same)
          (ap (λ (k : CoreState). mode_of l k.held) own
          ∙ written_else kept line l (x.cores w).held (λ e. apart (ap (λ (n : ℕ). Some n) (sym e)))
          ∙ subst (λ (n : ℕ). mode_in x n l ≡ Some Modified) same is))
          (λ other. ap (λ (k : CoreState). mode_of l k.held) (others d other) ∙ is);
      free = λ d l is. dite (ℕ_discrete d w)
          (λ same. subst (λ (n : ℕ). mode_in x n l ≡ Some Modified) (sym same)
          (written_mode line l kept (x.cores w).held (sym (ap (λ (k : CoreState). mode_of l k.held) own) ∙ subst (λ (n : ℕ). mode_in y n l ≡ Some Modified) same is)).0)
          (λ other. sym (ap (λ (k : CoreState). mode_of l k.held) (others d other)) ∙ is);
      posted = write_back-posted x w line kept;
    }

-- nobody owns the line that was written back
written_free : (job : JobValue) (slot : ℕ) (x : Machine) (w line : ℕ) (kept : Bool) → IsWhole job.shape slot x.posted x.cores
    → mode_in x w line ≡ Some Modified → (d : ℕ) → mode_in (write_back x w line kept) d line ≢ Some Modified
written_free job slot x w line kept whole owned d is = dite (ℕ_discrete d w)
    (λ same. (written_mode line line kept (x.cores w).held
    (sym (ap (λ (k : CoreState). mode_of line k.held) (write_back-own x w line kept)) ∙ subst (λ (n : ℕ). mode_in (write_back x w line kept) n line ≡ Some Modified) same is)).1 refl)
    (λ other. let none : mode_in x d line ≡ None = whole.alone w d line owned other in
    let here : mode_in x d line ≡ Some Modified = sym (ap (λ (k : CoreState). mode_of line k.held) (write_back-other x w line kept d other)) ∙ is in grind arith)

back_some : (plan : SlotPlan) (x : Machine) (o place : ℕ) → 1 ≤ back_slots plan x o place
back_some plan x o place = let some = distance_some plan o x.slot in omega arith

-- the line that a posted want waits for is written back
waited_falls : (job : JobValue) (x : Machine) (w c line : ℕ) (kept : Bool) (want : Want) → IsWhole job.shape (x.slot + 1) x.posted x.cores
    → IsWhole job.shape (x.slot + 1) (write_back x w line kept).posted (write_back x w line kept).cores → w < job.shape.cores → mode_in x w line ≡ Some Modified
    → (x.cores c).want ≡ Some want → is_some want.post ≡ true → want.line ≡ line
    → left_for (plan_of job) (at_next x (write_back x w line kept)) c want + 1 ≤ left_for (plan_of job) x c want
waited_falls job x w c line kept want whole after below owned wants posted here =
    let plan : SlotPlan = plan_of job in
    let y : Machine = write_back x w line kept in
    let z : Machine = at_next x y in
    let same : y.posted ≡ x.posted = write_back-posted x w line kept in
    let owned_here : mode_in x w want.line ≡ Some Modified = subst (λ (n : ℕ). mode_in x w n ≡ Some Modified) (sym here) owned in
    let now : left_for plan x c want ≡ posted_left plan x c want.line (Some w)
    = left_posted plan x c want posted ∙ ap (posted_left plan x c want.line) (owner_here job (x.slot + 1) x w want.line whole below owned_here) in
    let then_left : left_for plan z c want ≡ posted_left plan z c want.line None
    = left_posted plan z c want posted
    ∙ ap (posted_left plan z c want.line) (nobody_here job z want.line
    (subst (λ (n : ℕ). (d : ℕ) → mode_in y d n ≢ Some Modified) (sym here) (written_free job (x.slot + 1) x w line kept whole owned))) in
    let asked : request_of c z.posted ≡ Some (request_for c want) = ap (request_of c) same ∙ request_here job.shape (x.slot + 1) x c want whole wants posted in
    let f = first_is z c (request_for c want) asked in
    let r = first_request f.0 want.line z.posted after.once f.1 in
    let f_below : f.0 < job.shape.cores = poster_below job.shape (x.slot + 1) z f.0 r.0 after r.1 in
    let most = request_slots_most plan z f.0 f_below in
    let first : request_slots plan z (unwrap_or (first_of want.line z.posted) c) ≡ request_slots plan z f.0 = ap (λ (o : Option ℕ). request_slots plan z (unwrap_or o c)) f.1 in
    let steps : ahead c want.line z.posted * queue_slots plan ≡ ahead c want.line x.posted * queue_slots plan = ap (λ rs. ahead c want.line rs * queue_slots plan) same in
    let some = back_some plan x w (place_of want.line (x.cores w).write_backs) in
    omega arith

-- the core's victim is written back
victim_falls : (job : JobValue) (x : Machine) (w line : ℕ) (kept : Bool) (want later : Want) → w < job.shape.cores
    → is_some want.post ≡ false → want.victim ≡ Some line → is_some later.post ≡ false → later.victim ≡ None
    → left_for (plan_of job) (at_next x (write_back x w line kept)) w later + 1 ≤ left_for (plan_of job) x w want
victim_falls job x w line kept want later below unposted victim still free =
    let plan : SlotPlan = plan_of job in
    let z : Machine = at_next x (write_back x w line kept) in
    let now : left_for plan x w want ≡ unposted_left plan x w (Some line) = left_unposted plan x w want unposted ∙ ap (unposted_left plan x w) victim in
    let then_left : left_for plan z w later ≡ unposted_left plan z w None = left_unposted plan z w later still ∙ ap (unposted_left plan z w) free in
    let most = request_slots_most plan z w below in
    let some = back_some plan x w (place_of line (x.cores w).write_backs) in
    omega arith

not_cleared : (line : ℕ) (want : Want) → want.victim ≢ Some line → clear_victim line want ≡ want
not_cleared line want other = by_test (λ (v : Want). v ≡ want) (is_core line want.victim) (record want { victim = None }) want
    (λ is. absurd (other (core_is line want.victim is)))
    (λ stays. refl)

cleared : (line : ℕ) (want : Want) → want.victim ≡ Some line → clear_victim line want ≡ record want { victim = None }
cleared line want is = by_test (λ (v : Want). v ≡ record want { victim = None }) (is_core line want.victim) (record want { victim = None }) want
    (λ yes. refl)
    (λ no. absurd (grind arith))

back_other_falls : (job : JobValue) (x : Machine) (w line : ℕ) (lines : List ℕ) (kept : Bool) (c : ℕ) (want : Want) → IsWhole job.shape (x.slot + 1) x.posted x.cores
    → IsWhole job.shape (x.slot + 1) (write_back x w line kept).posted (write_back x w line kept).cores
    → slot_owner job x ≡ w → w < job.shape.cores → requests_now job x w ≡ false → (x.cores w).write_backs ≡ line ∷ lines
    → c < job.shape.cores → (x.cores c).want ≡ Some want → (c ≡ w → want.victim ≢ Some line)
    → left_for (plan_of job) (at_next x (write_back x w line kept)) c want + 1 ≤ left_for (plan_of job) x c want
back_other_falls job x w line lines kept c want whole after owner w_below later backs below wants apart =
    let z : Machine = at_next x (write_back x w line kept) in
    let owned : mode_in x w line ≡ Some Modified = (whole.fine w).back_owned line (ap (has_line line) backs ∙ grind arith) in
    let u : IsUnserved job x z w (Some line) = back_unserved job x w line lines kept owner later backs in
    by_bool (is_some want.post)
    (λ posted. dite (ℕ_discrete want.line line)
    (λ here. waited_falls job x w c line kept want whole after w_below owned wants posted here)
    (λ away. unserved_posted job x z w c want (Some line) whole after u wants posted (λ same. away (grind arith))))
    (λ waits. unserved_unposted job x z w c want (Some line) whole u below wants waits (λ v of same e. apart same (of ∙ sym e)))

pub back_falls : (job : JobValue) (x : Machine) (w line : ℕ) (lines : List ℕ) (kept : Bool) (c : ℕ) (want : Want) → IsWhole job.shape (x.slot + 1) x.posted x.cores
    → IsWhole job.shape (x.slot + 1) (write_back x w line kept).posted (write_back x w line kept).cores
    → slot_owner job x ≡ w → w < job.shape.cores → requests_now job x w ≡ false → (x.cores w).write_backs ≡ line ∷ lines
    → c < job.shape.cores → (x.cores c).want ≡ Some want → FallsTo job x c want (write_back x w line kept)
back_falls job x w line lines kept c want whole after owner w_below later backs below wants =
    let y : Machine = write_back x w line kept in
    dite (ℕ_discrete c w)
    (λ same. let own_wants : (x.cores w).want ≡ Some want = subst (λ (n : ℕ). (x.cores n).want ≡ Some want) same wants in
    let then_wants : (y.cores w).want ≡ Some (clear_victim line want)
    = ap (λ (k : CoreState). k.want) (write_back-own x w line kept) ∙ ap (option_map (clear_victim line)) own_wants in
    subst (λ (n : ℕ). FallsTo job x n want y) (sym same) (by_bool (is_core line want.victim)
    (λ is. let victim : want.victim ≡ Some line = core_is line want.victim is in
    let none : want.post ≡ None = ((whole.fine w).want_fine want own_wants).victim_unposted line victim in
    falls_to job x y w want (record want { victim = None }) (then_wants ∙ ap (λ (v : Want). Some v) (cleared line want victim))
    (refl, victim_falls job x w line kept want (record want { victim = None }) w_below (ap is_some none) victim (ap is_some none) refl))
    (λ not. let stays : want.victim ≢ Some line = (λ is. grind arith) in
    falls_to job x y w want want (then_wants ∙ ap (λ (v : Want). Some v) (not_cleared line want stays))
    (refl, back_other_falls job x w line lines kept w want whole after owner w_below later backs w_below own_wants (λ _. stays)))))
    (λ other. falls_to job x y c want want (ap (λ (k : CoreState). k.want) (write_back-other x w line kept c other) ∙ wants)
    (refl, back_other_falls job x w line lines kept c want whole after owner w_below later backs below wants (λ same. absurd (other same))))
