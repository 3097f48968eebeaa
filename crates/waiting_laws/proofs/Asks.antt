-- What a request of the slot's owner, a post, a fill or both, leaves of what others wait for.
use Rattle.std.proofs.Common.{◌≡◌, ◌≢◌, ℕ, ◌+◌, ◌<◌, ◌≤◌, List, [], ◌∷◌, Option, Some, None, is_some, Bool, true, false, refl, sym, ap, ◌∙◌, subst, arith}
use mathlib.Core.Logic.{dite}
use native.Mathlib.Decide.{ℕ_discrete}
use Rattle.pmsi_model.specs.declared.Kind.{Kind}
use Rattle.pmsi_model.specs.declared.Kind.TheVariants.{Read, Write}
use Rattle.pmsi_model.specs.declared.Mode.TheVariants.{Modified}
use Rattle.pmsi_model.specs.declared.Turn.{Turn}
use Rattle.pmsi_model.specs.declared.Turn.TheVariants.{Request as RequestTurn, WriteBack as WriteBackTurn}
use Rattle.pmsi_model.specs.declared.Want.{Want}
use Rattle.pmsi_model.specs.Job.{JobValue}
use Rattle.pmsi_model.specs.Slots.{plan_of}
use Rattle.pmsi_model.specs.Run.{slot_owner}
use Rattle.pmsi_model.specs.Machine.{Machine, CoreState, Request, mode_of, mode_in, is_modified, has_line, append_once, first_of, ahead, request_of, removed, has_request, has_write}
use Rattle.pmsi_model.specs.Bus.{post, noted_post, fill, fill_for, append_demanded, can_write_back, is_request_turn, requests_now}
use Rattle.pmsi_model.specs.Waiting.{place_of, left_for}
use Rattle.pmsi_model.proofs.Cases.{by_test, at_core}
use Rattle.pmsi_model.proofs.Changes.{posted_core, filled_core, noted-turn, noted-mode, noted-backs}
use Rattle.pmsi_model.proofs.WriteBacks.{line_append_once, line_kept, place_append_once, place_kept}
use Rattle.pmsi_model.proofs.Requests.{request_more, request_less, first_more, first_less, first_request, ahead_more, ahead_else}
use Rattle.coherence_laws.proofs.Exports.{filled_else, IsWhole}
use Rattle.waiting_laws.proofs.Steps.{BackFalls, back_far, back_turn, request_far, request_for, request_here}
use Rattle.waiting_laws.proofs.Stays.{posted_on, unposted_on}

-- a line to write back keeps its place
abbrev pub KeepsPlaces : List ℕ → List ℕ → Type 0
KeepsPlaces before after = (line : ℕ) → has_line line before ≡ true → (has_line line after ≡ true) × (place_of line after ≡ place_of line before)

pub record IsRequest (x y : Machine) (w : ℕ) (filled : Option ℕ) : Type 0 where
  pub turns : (d : ℕ) → d ≢ w → (y.cores d).turn ≡ (x.cores d).turn
  pub own : (y.cores w).turn ≡ WriteBackTurn
  pub places : (d : ℕ) → KeepsPlaces (x.cores d).write_backs (y.cores d).write_backs
  -- but for the filled line each is owned as before
  pub owned : (d line : ℕ) → filled ≢ Some line → mode_in x d line ≡ Some Modified → mode_in y d line ≡ Some Modified
  pub free : (d line : ℕ) → filled ≢ Some line → mode_in y d line ≡ Some Modified → mode_in x d line ≡ Some Modified
  -- and its queue is as before for those that are in it
  pub firsts : (line f : ℕ) → filled ≢ Some line → first_of line x.posted ≡ Some f → (f ≢ w) × (first_of line y.posted ≡ Some f)
  pub aheads : (c line : ℕ) (r : Request) → c ≢ w → request_of c x.posted ≡ Some r → r.line ≡ line → filled ≢ Some line
      → (request_of c y.posted ≡ Some r) × (ahead c line y.posted ≡ ahead c line x.posted)

pub request_then : (x z y : Machine) (w : ℕ) (filled : Option ℕ) → IsRequest x z w None → IsRequest z y w filled → IsRequest x y w filled
request_then x z y w filled first second = record {
  turns = λ d other. second.turns d other ∙ first.turns d other;
  own = second.own;
  places = λ d line has. let a = first.places d line has in let b = second.places d line a.0 in (b.0, b.1 ∙ a.1);
  owned = λ d line apart is. second.owned d line apart (first.owned d line (λ none. absurd (grind arith)) is);
  free = λ d line apart is. first.free d line (λ none. absurd (grind arith)) (second.free d line apart is);
  firsts = λ line f apart is. second.firsts line f apart (first.firsts line f (λ none. absurd (grind arith)) is).1;
  aheads = λ c line r other is at apart.
      let a = first.aheads c line r other is at (λ none. absurd (grind arith)) in
      let b = second.aheads c line r other a.0 at apart in (b.0, b.1 ∙ a.1);
}

-- ---- post

noted_places : (kind : Kind) (line : ℕ) (k : CoreState) → KeepsPlaces k.write_backs (noted_post kind line k).write_backs
noted_places kind line k =
    subst (λ (lines : List ℕ). KeepsPlaces k.write_backs lines) (sym (noted-backs kind line k))
    (by_test (λ (lines : List ℕ). KeepsPlaces k.write_backs lines) (is_modified (mode_of line k.held)) (append_once line k.write_backs) k.write_backs
    (λ owner l has. (grind (arith, line_append_once l line k.write_backs), place_append_once l line k.write_backs has))
    (λ other l has. (has, refl)))

noted_owned : (kind : Kind) (line l : ℕ) (k : CoreState) → mode_of l k.held ≡ Some Modified → mode_of l (noted_post kind line k).held ≡ Some Modified
noted_owned kind line l k is = grind (arith, noted-mode kind line l k)

noted_free : (kind : Kind) (line l : ℕ) (k : CoreState) → mode_of l (noted_post kind line k).held ≡ Some Modified → mode_of l k.held ≡ Some Modified
noted_free kind line l k is = grind (arith, noted-mode kind line l k)

pub post_asks : (job : JobValue) (slot : ℕ) (x : Machine) (w : ℕ) (kind : Kind) (line : ℕ) → IsWhole job.shape slot x.posted x.cores
    → request_of w x.posted ≡ None → IsRequest x (post x w kind line) w None
unfolding post
post_asks job slot x w kind line whole none =
    let r : Request = record { core = w; line = line; kind = kind } in
    let k : CoreState = posted_core x.slot (x.cores w) in
    let noted : ℕ → CoreState = λ d. noted_post kind line (x.cores d) in
    record {
      turns = at_core (λ d j. d ≢ w → j.turn ≡ (x.cores d).turn) w k noted (λ other. absurd (other refl)) (λ d other _. noted-turn kind line (x.cores d));
      own = at_core (λ d j. d ≡ w → j.turn ≡ WriteBackTurn) w k noted (λ same. refl) (λ d other same. absurd (other same)) w refl;
      places = at_core (λ d j. KeepsPlaces (x.cores d).write_backs j.write_backs) w k noted (λ l has. (has, refl)) (λ d other. noted_places kind line (x.cores d));
      owned = at_core (λ d j. (l : ℕ) → None ≢ Some l → mode_of l (x.cores d).held ≡ Some Modified → mode_of l j.held ≡ Some Modified) w k noted
          (λ l _ is. is) (λ d other l _ is. noted_owned kind line l (x.cores d) is);
      free = at_core (λ d j. (l : ℕ) → None ≢ Some l → mode_of l j.held ≡ Some Modified → mode_of l (x.cores d).held ≡ Some Modified) w k noted
          (λ l _ is. is) (λ d other l _ is. noted_free kind line l (x.cores d) is);
      firsts = λ l f _ is. let q = first_request f l x.posted whole.once is in
          (λ same. absurd (let e = subst (λ (n : ℕ). request_of n x.posted ≡ Some q.0) same q.1 in grind arith), grind (arith, first_more l x.posted r));
      aheads = λ c l q other is at _. (grind (arith, request_more c x.posted r), ahead_more c l x.posted r q is);
    }

-- ---- fill

demanded_places : (kind : Kind) (behind : Bool) (line : ℕ) (lines : List ℕ) → KeepsPlaces lines (append_demanded kind behind line lines)
demanded_places Read behind line lines l has = (has, refl)
demanded_places Write true line lines l has = (line_kept l lines (line ∷ []) has, place_kept l lines (line ∷ []) has)
demanded_places Write false line lines l has = (has, refl)

apart_line : (l line : ℕ) → Some line ≢ Some l → l ≢ line
apart_line l line apart same = apart (ap (λ (n : ℕ). Some n) (sym same))

fill_asks_for : (job : JobValue) (slot : ℕ) (x : Machine) (w : ℕ) (want : Want) → IsWhole job.shape slot x.posted x.cores
    → request_of w x.posted ≡ Some (request_for w want) → IsRequest x (fill_for x w (Some want)) w (Some want.line)
fill_asks_for job slot x w want whole is =
    let k : CoreState = filled_core x w want in
    let behind : Bool = has_write want.line (removed w x.posted) in
    record {
      turns = at_core (λ d j. d ≢ w → j.turn ≡ (x.cores d).turn) w k x.cores (λ other. absurd (other refl)) (λ d other _. refl);
      own = at_core (λ d j. d ≡ w → j.turn ≡ WriteBackTurn) w k x.cores (λ same. refl) (λ d other same. absurd (other same)) w refl;
      places = at_core (λ d j. KeepsPlaces (x.cores d).write_backs j.write_backs) w k x.cores
          (demanded_places want.kind (has_request want.line (removed w x.posted)) want.line (x.cores w).write_backs) (λ d other l has. (has, refl));
      owned = at_core (λ d j. (l : ℕ) → Some want.line ≢ Some l → mode_of l (x.cores d).held ≡ Some Modified → mode_of l j.held ≡ Some Modified) w k x.cores
          (λ l apart here. filled_else want.kind behind want.line l (x.cores w).held (apart_line l want.line apart) ∙ here) (λ d other l _ here. here);
      free = at_core (λ d j. (l : ℕ) → Some want.line ≢ Some l → mode_of l j.held ≡ Some Modified → mode_of l (x.cores d).held ≡ Some Modified) w k x.cores
          (λ l apart here. sym (filled_else want.kind behind want.line l (x.cores w).held (apart_line l want.line apart)) ∙ here) (λ d other l _ here. here);
      firsts = λ l f apart first. let q = first_request f l x.posted whole.once first in
          let not_own : f ≢ w = (λ same. absurd (let e = subst (λ (n : ℕ). request_of n x.posted ≡ Some q.0) same q.1 in
          let s : Some (request_for w want) ≡ Some q.0 = sym is ∙ e in
          let at = q.2 in apart_line l want.line apart (grind arith))) in
          (not_own, first_less w l x.posted (λ mine. not_own (grind arith)) ∙ first);
      aheads = λ c l r other here at apart. (
        grind (arith, request_less c w x.posted),
        ahead_else c w l x.posted (request_for w want) whole.once is (λ same. apart_line l want.line apart (sym same)) (λ same. other (sym same)),
      );
    }

pub fill_asks : (job : JobValue) (slot : ℕ) (x : Machine) (w : ℕ) (want : Want) → IsWhole job.shape slot x.posted x.cores
    → (x.cores w).want ≡ Some want → request_of w x.posted ≡ Some (request_for w want) → IsRequest x (fill x w) w (Some want.line)
unfolding fill
fill_asks job slot x w want whole is here =
    subst (λ (o : Option Want). IsRequest x (fill_for x w o) w (Some want.line)) (sym is) (fill_asks_for job slot x w want whole here)

-- ---- the turn

can_back : (l : ℕ) (lines : List ℕ) → has_line l lines ≡ true → can_write_back lines ≡ true
can_back l [] has = absurd (grind arith)
can_back l (x ∷ lines) has = refl

turn_is : (turn : Turn) → is_request_turn turn ≡ true → turn ≡ RequestTurn
turn_is RequestTurn is = refl
turn_is WriteBackTurn is = absurd (grind arith)

-- who requests though it could write back had the turn to request
pub asks_in_turn : (job : JobValue) (x : Machine) (w l : ℕ) → requests_now job x w ≡ true → has_line l (x.cores w).write_backs ≡ true
    → (x.cores w).turn ≡ RequestTurn
asks_in_turn job x w l now has = turn_is (x.cores w).turn (let can = can_back l (x.cores w).write_backs has in grind arith)

-- ---- what is left for another core's want

abbrev pub at_next : Machine → Machine → Machine
at_next x y = record y { slot = x.slot + 1 }

back_on : (job : JobValue) (x y : Machine) (w o line : ℕ) (filled : Option ℕ) → IsRequest x y w filled → slot_owner job x ≡ w
    → requests_now job x w ≡ true → o < job.shape.cores → has_line line (x.cores o).write_backs ≡ true
    → BackFalls (plan_of job) x (at_next x y) o line
back_on job x y w o line filled r owner now below has = dite (ℕ_discrete o w)
    (λ same. back_turn (plan_of job) x (at_next x y) o line below (owner ∙ sym same)
    (subst (λ (n : ℕ). (x.cores n).turn ≡ RequestTurn) (sym same) (asks_in_turn job x w line now (subst (λ (n : ℕ). has_line line (x.cores n).write_backs ≡ true) same has)))
    (subst (λ (n : ℕ). (y.cores n).turn ≡ WriteBackTurn) (sym same) r.own) (r.places o line has).1)
    (λ other. back_far (plan_of job) x (at_next x y) o line refl below (λ mine. other (sym mine ∙ owner)) (r.turns o other) (r.places o line has).1)

pub asked_posted : (job : JobValue) (x y : Machine) (w c : ℕ) (want : Want) (filled : Option ℕ) → IsWhole job.shape (x.slot + 1) x.posted x.cores
    → IsWhole job.shape (x.slot + 1) y.posted y.cores → IsRequest x y w filled → slot_owner job x ≡ w
    → requests_now job x w ≡ true → c ≢ w → (x.cores c).want ≡ Some want → is_some want.post ≡ true → filled ≢ Some want.line
    → left_for (plan_of job) (at_next x y) c want + 1 ≤ left_for (plan_of job) x c want
asked_posted job x y w c want filled whole v r owner now other is posted apart =
    posted_on job x (at_next x y) c want whole v is posted (record {
      back = λ o below owned has. (r.owned o want.line apart owned, back_on job x y w o want.line filled r owner now below has);
      free = λ none d owned. none d (r.free d want.line apart owned);
      first = λ f below nobody first. let b = r.firsts want.line f apart first in
          (b.1, request_far (plan_of job) x (at_next x y) f refl below (λ mine. b.0 (sym mine ∙ owner)) (r.turns f b.0));
      as_many = (r.aheads c want.line (request_for c want) other (request_here job.shape (x.slot + 1) x c want whole is posted) refl apart).1;
    })

pub asked_unposted : (job : JobValue) (x y : Machine) (w c : ℕ) (want : Want) (filled : Option ℕ) → IsWhole job.shape (x.slot + 1) x.posted x.cores
    → IsRequest x y w filled → slot_owner job x ≡ w
    → requests_now job x w ≡ true → c ≢ w → c < job.shape.cores → (x.cores c).want ≡ Some want → is_some want.post ≡ false
    → left_for (plan_of job) (at_next x y) c want + 1 ≤ left_for (plan_of job) x c want
asked_unposted job x y w c want filled whole r owner now other below is unposted =
    unposted_on job x (at_next x y) c want unposted (record {
      back = λ v of. back_on job x y w c v filled r owner now below (((whole.fine c).want_fine want is).victim_waits v of);
      request = λ none. request_far (plan_of job) x (at_next x y) c refl below (λ mine. other (sym mine ∙ owner)) (r.turns c other);
    })
