-- What a core can do in its slot, as the bus has it.
use Rattle.std.proofs.Common.{◌≡◌, ℕ, List, [], ◌∷◌, Option, Some, None, is_some, is_none, Bool, true, false, not, ◌&&◌, ◌||◌, if◌then◌else◌, refl, sym, ap, ◌∙◌, arith}
use Rattle.pmsi_model.specs.declared.Action.TheVariants.{Idle, Post, Fill, PostFill, Back}
use Rattle.pmsi_model.specs.declared.Kind.{Kind}
use Rattle.pmsi_model.specs.declared.Mode.{Mode}
use Rattle.pmsi_model.specs.declared.Turn.{Turn}
use Rattle.pmsi_model.specs.declared.Want.{Want}
use Rattle.pmsi_model.specs.Job.{JobValue}
use Rattle.pmsi_model.specs.Machine.{Machine, Request, mode_in, has_line, first_of, request_of}
use Rattle.pmsi_model.specs.Bus.{is_core, is_served, can_request_for, can_request, can_write_back, is_request_turn, requests_now, name_of, post, keeps_line, post_action, request_action, back_action, action_of}
use Rattle.pmsi_model.specs.Coherent.{posted_request}
use Rattle.pmsi_model.specs.Shared.{SharedValue, owner_in, is_ready_for, is_ready, with_request, posted_in}
use Rattle.pmsi_model.specs.Parts.{IsSharedOf}
use Rattle.pmsi_model.proofs.Changes.{post-posted}
use Rattle.pmsi_model.proofs.Requests.{request_more}
use Rattle.pmsi_model.proofs.Owners.{none_is}
use Rattle.coherence_laws.proofs.Exports.{kind_named}
use Rattle.pend_buffers.specs.declared.Choice.TheVariants.{Idle as IdleChoice, Request as RequestChoice, Back as BackChoice}
use Rattle.pend_buffers.specs.Pending.{PendingValue, can_ask, choice_of}
use Rattle.core_unit.proofs.Sides.{shared_posted}

-- ---- a posted request

-- the bus finds it ready where the machine serves it
pub ready_served : (job : JobValue) (y : Machine) (m : SharedValue) (c : ℕ) (r : Request) → IsSharedOf job y m → request_of c y.posted ≡ Some r
    → is_ready m c ≡ is_served job y c r.line
ready_served job y m c r h is =
    ap (is_ready_for m c) (ap (request_of c) h.posted ∙ is)
    ∙ ap (λ (rs : List Request). is_core c (first_of r.line rs) && is_none (owner_in m r.line)) h.posted
    ∙ ap (λ (o : Option ℕ). is_core c (first_of r.line y.posted) && is_none o) (h.owners r.line)

asks_by : (job : JobValue) (y : Machine) (m : SharedValue) (c : ℕ) (want : Want) (b : Bool) → IsSharedOf job y m
    → request_of c y.posted ≡ (if b then Some (record { core = c; line = want.line; kind = want.kind }) else None)
    → (if b then is_ready m c else is_none want.victim) ≡ (if b then is_served job y c want.line else is_none want.victim)
asks_by job y m c want true h is = ready_served job y m c (record { core = c; line = want.line; kind = want.kind }) h is
asks_by job y m c want false h is = refl

asks : (job : JobValue) (y : Machine) (m : SharedValue) (c : ℕ) (o : Option Want) → IsSharedOf job y m → request_of c y.posted ≡ posted_request c o
    → can_ask (is_ready m c) o ≡ can_request_for job y c o
asks job y m c None h is = refl
asks job y m c (Some want) h is = asks_by job y m c want (is_some want.post) h is

module _ (job : JobValue) (y : Machine) (m : SharedValue) (c : ℕ) (h : IsSharedOf job y m) (posted_wants : request_of c y.posted ≡ posted_request c (y.cores c).want) where
  pub ready_now : can_ask (is_ready m c) (y.cores c).want ≡ can_request job y c
  ready_now = asks job y m c (y.cores c).want h posted_wants

  -- ---- the choice of a core with these buffers

  pub choice_is : (p : PendingValue) → p.want ≡ (y.cores c).want → p.write_backs ≡ (y.cores c).write_backs → p.turn ≡ (y.cores c).turn
      → choice_of (is_ready m c) p ≡ (if requests_now job y c then RequestChoice else if can_write_back (y.cores c).write_backs then BackChoice else IdleChoice)
  choice_is p want backs turn =
      ap (λ (o : Option Want). if can_ask (is_ready m c) o && (not (can_write_back p.write_backs) || is_request_turn p.turn) then RequestChoice else if can_write_back p.write_backs then BackChoice else IdleChoice) want
      ∙ ap (λ (lines : List ℕ). if can_ask (is_ready m c) (y.cores c).want && (not (can_write_back lines) || is_request_turn p.turn) then RequestChoice else if can_write_back lines then BackChoice else IdleChoice) backs
      ∙ ap (λ (t : Turn). if can_ask (is_ready m c) (y.cores c).want && (not (can_write_back (y.cores c).write_backs) || is_request_turn t) then RequestChoice else if can_write_back (y.cores c).write_backs then BackChoice else IdleChoice) turn
      ∙ ap (λ (b : Bool). if b && (not (can_write_back (y.cores c).write_backs) || is_request_turn (y.cores c).turn) then RequestChoice else if can_write_back (y.cores c).write_backs then BackChoice else IdleChoice) ready_now

chose_request : (a b : Bool) → (if a then RequestChoice else if b then BackChoice else IdleChoice) ≡ RequestChoice → a ≡ true
chose_request true b is = refl
chose_request false true is = absurd cc
chose_request false false is = absurd cc

chose_back : (a b : Bool) → (if a then RequestChoice else if b then BackChoice else IdleChoice) ≡ BackChoice → (a ≡ false) × (b ≡ true)
chose_back true b is = absurd cc
chose_back false true is = (refl, refl)
chose_back false false is = absurd cc

chose_idle : (a b : Bool) → (if a then RequestChoice else if b then BackChoice else IdleChoice) ≡ IdleChoice → (a ≡ false) × (b ≡ false)
chose_idle true b is = absurd cc
chose_idle false true is = absurd cc
chose_idle false false is = (refl, refl)

some_wait : (lines : List ℕ) → can_write_back lines ≡ true → (line : ℕ) × (rest : List ℕ) × (lines ≡ line ∷ rest)
some_wait [] waits = absurd (grind arith)
some_wait (line ∷ rest) waits = (line, rest, refl)

none_wait : (lines : List ℕ) → can_write_back lines ≡ false → lines ≡ []
none_wait [] waits = refl
none_wait (line ∷ rest) waits = absurd (grind arith)

module _ (job : JobValue) (y : Machine) (m : SharedValue) (c : ℕ) (p : PendingValue) (h : IsSharedOf job y m) (posted_wants : request_of c y.posted ≡ posted_request c (y.cores c).want)
    (want : p.want ≡ (y.cores c).want) (backs : p.write_backs ≡ (y.cores c).write_backs) (turn : p.turn ≡ (y.cores c).turn) where
  pub choice_requests : choice_of (is_ready m c) p ≡ RequestChoice → requests_now job y c ≡ true
  choice_requests is = chose_request (requests_now job y c) (can_write_back (y.cores c).write_backs) (sym (choice_is job y m c h posted_wants p want backs turn) ∙ is)

  pub choice_backs : choice_of (is_ready m c) p ≡ BackChoice → (requests_now job y c ≡ false) × ((line : ℕ) × (rest : List ℕ) × ((y.cores c).write_backs ≡ line ∷ rest))
  choice_backs is = let chosen = chose_back (requests_now job y c) (can_write_back (y.cores c).write_backs) (sym (choice_is job y m c h posted_wants p want backs turn) ∙ is) in
      (chosen.0, some_wait (y.cores c).write_backs chosen.1)

  pub choice_idles : choice_of (is_ready m c) p ≡ IdleChoice → (requests_now job y c ≡ false) × ((y.cores c).write_backs ≡ [])
  choice_idles is = let chosen = chose_idle (requests_now job y c) (can_write_back (y.cores c).write_backs) (sym (choice_is job y m c h posted_wants p want backs turn) ∙ is) in
      (chosen.0, none_wait (y.cores c).write_backs chosen.1)

-- a core that requests now has a want; a posted one is served, and an unposted one has no victim
wants_for : (job : JobValue) (y : Machine) (c : ℕ) (o : Option Want) → can_request_for job y c o ≡ true → (want : Want) × (o ≡ Some want)
wants_for job y c None can = absurd (grind arith)
wants_for job y c (Some want) can = (want, refl)

both : (a b : Bool) → (a && b) ≡ true → a ≡ true
both true b is = refl
both false b is = absurd (grind arith)

pub can_now : (job : JobValue) (y : Machine) (c : ℕ) → requests_now job y c ≡ true → can_request job y c ≡ true
can_now job y c now = both (can_request job y c) (not (can_write_back (y.cores c).write_backs) || is_request_turn (y.cores c).turn) now

pub wants_now : (job : JobValue) (y : Machine) (c : ℕ) → requests_now job y c ≡ true → (want : Want) × ((y.cores c).want ≡ Some want)
wants_now job y c now = wants_for job y c (y.cores c).want (can_now job y c now)

module _ (job : JobValue) (y : Machine) (c : ℕ) (want : Want) (wants : (y.cores c).want ≡ Some want) (now : requests_now job y c ≡ true) where
  can_for : can_request_for job y c (Some want) ≡ true
  can_for = ap (can_request_for job y c) (sym wants) ∙ can_now job y c now

  pub served_now : is_some want.post ≡ true → is_served job y c want.line ≡ true
  served_now posted = let can = can_for in grind arith

  pub free_now : want.post ≡ None → want.victim ≡ None
  free_now unposted = none_is want.victim
      (ap (λ (o : Option ℕ). if is_some o then is_served job y c want.line else is_none want.victim) (sym unposted) ∙ can_for)

-- ---- a request that is posted now

module _ (job : JobValue) (y : Machine) (m : SharedValue) (c : ℕ) (want : Want) (mode : Option Mode) (h : IsSharedOf job y m)
    (posted_wants : request_of c y.posted ≡ posted_request c (y.cores c).want) (wants : (y.cores c).want ≡ Some want) (unposted : want.post ≡ None) where
  pub no_request : request_of c y.posted ≡ None
  no_request = posted_wants ∙ ap (posted_request c) wants ∙ ap (λ (o : Option ℕ). if is_some o then Some (record { core = c; line = want.line; kind = want.kind }) else None) unposted

  pub new_request : request_of c (post y c want.kind want.line).posted ≡ Some (record { core = c; line = want.line; kind = want.kind })
  new_request = ap (request_of c) (post-posted y c want.kind want.line)
      ∙ (let more = request_more c y.posted (record { core = c; line = want.line; kind = want.kind }) in let none = no_request in grind arith)

  pub ready_posted : is_ready (posted_in c want.line (name_of want.kind mode) m) c ≡ is_served job (post y c want.kind want.line) c want.line
  ready_posted = ap (λ (kind : Kind). is_ready (with_request c want.line kind m) c) (kind_named want.kind mode)
      ∙ ready_served job (post y c want.kind want.line) (with_request c want.line want.kind m) c (record { core = c; line = want.line; kind = want.kind })
      (shared_posted job y m c want.line want.kind h) new_request

-- ---- the action

module _ (job : JobValue) (y : Machine) (c : ℕ) where
  pub action_requests : (want : Want) → requests_now job y c ≡ true → (y.cores c).want ≡ Some want → action_of job y c ≡ request_action job y c (Some want)
  unfolding action_of
  action_requests want now wants =
      ap (λ (b : Bool). if b then request_action job y c (y.cores c).want else back_action y c (y.cores c).write_backs) now
      ∙ ap (request_action job y c) wants

  pub action_fills : (want : Want) → requests_now job y c ≡ true → (y.cores c).want ≡ Some want → is_some want.post ≡ true → action_of job y c ≡ Fill want.line
  action_fills want now wants posted = action_requests want now wants
      ∙ ap (λ (b : Bool). if b then Fill want.line else post_action job y c want) posted

  action_posts_by : (want : Want) → requests_now job y c ≡ true → (y.cores c).want ≡ Some want → want.post ≡ None → action_of job y c ≡ post_action job y c want
  action_posts_by want now wants unposted = action_requests want now wants
      ∙ ap (λ (o : Option ℕ). if is_some o then Fill want.line else post_action job y c want) unposted

  -- a request is posted, and filled at once where the bus finds it ready
  pub action_posts : (m : SharedValue) (want : Want) → IsSharedOf job y m → request_of c y.posted ≡ posted_request c (y.cores c).want
      → requests_now job y c ≡ true → (y.cores c).want ≡ Some want → want.post ≡ None
      → action_of job y c ≡ (if is_ready (posted_in c want.line (name_of want.kind (mode_in y c want.line)) m) c
      then PostFill (name_of want.kind (mode_in y c want.line)) want.line else Post (name_of want.kind (mode_in y c want.line)) want.line)
  action_posts m want h posted_wants now wants unposted = action_posts_by want now wants unposted
      ∙ ap (λ (b : Bool). if b then PostFill (name_of want.kind (mode_in y c want.line)) want.line else Post (name_of want.kind (mode_in y c want.line)) want.line)
      (sym (ready_posted job y m c want (mode_in y c want.line) h posted_wants wants unposted))

  pub action_idles : requests_now job y c ≡ false → (y.cores c).write_backs ≡ [] → action_of job y c ≡ Idle
  unfolding action_of
  action_idles waits none =
      ap (λ (b : Bool). if b then request_action job y c (y.cores c).want else back_action y c (y.cores c).write_backs) waits
      ∙ ap (back_action y c) none

  pub action_backs : (line : ℕ) (lines : List ℕ) → requests_now job y c ≡ false → (y.cores c).write_backs ≡ line ∷ lines → action_of job y c ≡ Back line (keeps_line y c line)
  unfolding action_of
  action_backs line lines waits is =
      ap (λ (b : Bool). if b then request_action job y c (y.cores c).want else back_action y c (y.cores c).write_backs) waits
      ∙ ap (back_action y c) is

  pub first_listed : (line : ℕ) (lines : List ℕ) → (y.cores c).write_backs ≡ line ∷ lines → has_line line (y.cores c).write_backs ≡ true
  first_listed line lines is = ap (has_line line) is ∙ grind arith
