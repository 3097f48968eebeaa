-- The bus before and after the action of a slot's owner.
use Rattle.std.proofs.Common.{◌≡◌, ◌≢◌, ℕ, ◌+◌, ◌-◌, ◌*◌, ◌/◌, ◌<◌, ◌≤◌, List, [], ◌∷◌, ◌++◌, length, drop, get_or, Some, None, is_some, Bool, true, false, if◌then◌else◌, refl, sym, ap, ◌∙◌, subst, arith, length-append, length-drop}
use Rattle.std.specs.Option.{option_map}
use Rattle.std.proofs.lemmas.List.{drop-append-le, drop-drop}
use Rattle.pmsi_model.specs.declared.job.Geometry.{Geometry}
use Rattle.pmsi_model.specs.declared.Action.{Action}
use Rattle.pmsi_model.specs.declared.Action.TheVariants.{Idle, Post, Fill, PostFill, Back}
use Rattle.pmsi_model.specs.declared.Kind.{Kind}
use Rattle.pmsi_model.specs.declared.Mode.TheVariants.{Modified}
use Rattle.pmsi_model.specs.declared.Name.{Name}
use Rattle.pmsi_model.specs.declared.Want.{Want}
use Rattle.pmsi_model.specs.Job.{JobValue, IsJob}
use Rattle.pmsi_model.specs.Slots.{SlotPlan, plan_of, gap_of, owner_of_slot}
use Rattle.pmsi_model.specs.Machine.{Machine, CoreState, mode_in, owner_of, request_of}
use Rattle.pmsi_model.specs.Bus.{is_served, requests_now, kind_of_name, name_of, post, post_at, fill, keeps_line, action_of, after_action}
use Rattle.pmsi_model.specs.Coherent.{IsCoherent, posted_request}
use Rattle.pmsi_model.specs.Phase.{context_of}
use Rattle.pmsi_model.specs.Run.{machine_at, after_phases, slot_done, record_at, records}
use Rattle.pmsi_model.specs.Shared.{SharedValue, BusSide, owner_in, line_in, is_ready, with_request, filled, posted_in, written_back, last_of, ended, side_posted, side_filled, side_back, side_idle, CanPost, CanFill, CanWriteBack}
use Rattle.pmsi_model.specs.Parts.{word_at, IsSharedOf, IsBusPart}
use Rattle.pmsi_model.proofs.Boundaries.{phases-slot, machine_at-slot, next_machine, next_records}
use Rattle.pmsi_model.proofs.Cases.{by_test}
use Rattle.pmsi_model.proofs.Changes.{post-own, post-memory}
use Rattle.pmsi_model.proofs.Distances.{slot_owner_below}
use Rattle.pmsi_model.proofs.Owners.{nobody_none, owner_alone, owner_same}
use Rattle.coherence_laws.proofs.Exports.{stays_memory, IsAsked, want_asked_between, kind_named, phases_coherent}
use Rattle.core_unit.proofs.Sides.{side_carried, line_in-length, line_in-word, asked_at, asked_below, line_within, shared_posted, IsFillable, shared_filled, IsBackable, shared_back}
use Rattle.core_unit.proofs.SidesOwners.{post-owner}
use Rattle.core_unit.proofs.SidesReady.{ready_served, no_request, new_request, ready_posted, served_now, first_listed, action_posts, action_fills, action_backs, action_idles}

-- ---- the last actions

-- one more item, after the last so many
pub last_more : {X : Type 0} (n : ℕ) (xs : List X) (a : X) → last_of n (last_of n xs ++ a ∷ []) ≡ last_of n (xs ++ a ∷ [])
last_more {X = X} n xs a = let few : length xs - n ≤ length xs = omega arith in
    ap (λ (ys : List X). last_of n ys) (sym (drop-append-le (length xs - n) xs (a ∷ []) few))
    ∙ drop-drop (length (drop (length xs - n) (xs ++ a ∷ [])) - n) (length xs - n) (xs ++ a ∷ [])
    ∙ ap (λ (j : ℕ). drop j (xs ++ a ∷ [])) (let e : (length xs - n) + (length (drop (length xs - n) (xs ++ a ∷ [])) - n) ≡ length (xs ++ a ∷ []) - n =
    omega (arith, length-drop (length xs - n) (xs ++ a ∷ []), length-append xs (a ∷ [])) in e)

kept_trace : (keeps : Bool) (trace old : List Action) (action : Action) → trace ≡ (if keeps then old else [])
    → (if keeps then trace ++ action ∷ [] else trace) ≡ (if keeps then old ++ action ∷ [] else [])
kept_trace true trace old action is = ap (λ (items : List Action). items ++ action ∷ []) is
kept_trace false trace old action is = is

-- ---- a slot whose owner is core c

slot_context : (job : JobValue) (x : Machine) (d : ℕ) → let y : Machine = after_phases job x in let c : ℕ = owner_of_slot (plan_of job) x.slot in
    context_of (slot_done job x) d ≡ context_of (after_action y c (action_of job y c)) d
unfolding slot_done
slot_context job x d = refl

slot_posted : (job : JobValue) (x : Machine) → let y : Machine = after_phases job x in let c : ℕ = owner_of_slot (plan_of job) x.slot in
    (slot_done job x).posted ≡ (after_action y c (action_of job y c)).posted
unfolding slot_done
slot_posted job x = refl

slot_owner : (job : JobValue) (slot c : ℕ) → owner_of_slot (plan_of job) slot ≡ c → owner_of_slot (plan_of job) (machine_at job slot).slot ≡ c
slot_owner job slot c own = ap (owner_of_slot (plan_of job)) (machine_at-slot job slot) ∙ own

-- the action of the slot
pub record_is : (job : JobValue) (slot c : ℕ) → owner_of_slot (plan_of job) slot ≡ c
    → record_at job slot ≡ action_of job (after_phases job (machine_at job slot)) c
record_is job slot c own = ap (action_of job (after_phases job (machine_at job slot))) (slot_owner job slot c own)

-- the next boundary has each core, the memory and the requests as the action leaves them
pub next_context : (job : JobValue) (slot c d : ℕ) (action : Action) → owner_of_slot (plan_of job) slot ≡ c → action_of job (after_phases job (machine_at job slot)) c ≡ action
    → context_of (machine_at job (slot + 1)) d ≡ context_of (after_action (after_phases job (machine_at job slot)) c action) d
next_context job slot c d action own acted =
    ap (λ (z : Machine). context_of z d) (next_machine job slot) ∙ slot_context job (machine_at job slot) d
    ∙ ap (λ (o : ℕ). context_of (after_action (after_phases job (machine_at job slot)) o (action_of job (after_phases job (machine_at job slot)) o)) d) (slot_owner job slot c own)
    ∙ ap (λ (a : Action). context_of (after_action (after_phases job (machine_at job slot)) c a) d) acted

pub next_posted : (job : JobValue) (slot c : ℕ) (action : Action) → owner_of_slot (plan_of job) slot ≡ c → action_of job (after_phases job (machine_at job slot)) c ≡ action
    → (machine_at job (slot + 1)).posted ≡ (after_action (after_phases job (machine_at job slot)) c action).posted
next_posted job slot c action own acted =
    ap (λ (z : Machine). z.posted) (next_machine job slot) ∙ slot_posted job (machine_at job slot)
    ∙ ap (λ (o : ℕ). (after_action (after_phases job (machine_at job slot)) o (action_of job (after_phases job (machine_at job slot)) o)).posted) (slot_owner job slot c own)
    ∙ ap (λ (a : Action). (after_action (after_phases job (machine_at job slot)) c a).posted) acted

-- the slot in which the owner acts
pub slot_now : (job : JobValue) (slot : ℕ) → (after_phases job (machine_at job slot)).slot ≡ slot
slot_now job slot = phases-slot job job.shape.cores (machine_at job slot) ∙ machine_at-slot job slot

slot_shared : (job : JobValue) (x : Machine) (c : ℕ) (m : SharedValue) → owner_of_slot (plan_of job) x.slot ≡ c
    → IsSharedOf job (after_action (after_phases job x) c (action_of job (after_phases job x) c)) m → IsSharedOf job (slot_done job x) m
unfolding slot_done
slot_shared job x c m own h = let owner : ℕ = owner_of_slot (plan_of job) x.slot in
    let z : Machine = after_action (after_phases job x) (owner_of_slot (plan_of job) x.slot) (action_of job (after_phases job x) (owner_of_slot (plan_of job) x.slot)) in
    let h' : IsSharedOf job z m = subst (λ (d : ℕ). IsSharedOf job (after_action (after_phases job x) d (action_of job (after_phases job x) d)) m) (sym own) h in
    let same : (line : ℕ) → owner_of (slot_done job x) job.shape.cores line ≡ owner_of z job.shape.cores line = λ line. owner_same (slot_done job x) z job.shape.cores line (λ d below. refl) in record {
      shape = h'.shape;
      posted = h'.posted;
      owners = λ line. h'.owners line ∙ sym (same line);
      lines = h'.lines;
      size = h'.size;
      words = λ i below none. h'.words i below (sym (same (i / job.shape.line_words)) ∙ none);
    }

module _ (job : JobValue) (slot c : ℕ) (b : BusSide) (is : IsJob job) (part : IsBusPart job slot b) (more : slot < job.shape.slots) (own : owner_of_slot (plan_of job) slot ≡ c) where
  abbrev y : Machine
  y = after_phases job (machine_at job slot)

  -- ---- before the action

  pub side_now : IsSharedOf job (after_phases job (machine_at job slot)) b.memory
  side_now = side_carried job slot b.memory is part.memory

  pub owner_within : c < job.shape.cores
  owner_within = subst (λ (d : ℕ). d < job.shape.cores) own (slot_owner_below (plan_of job) slot is.shape.some_cores)

  pub coherent_now : IsCoherent job.shape (record (after_phases job (machine_at job slot)) { slot = slot + 1 })
  coherent_now = phases_coherent job is slot job.shape.cores (omega arith)

  pub wants_posted : request_of c y.posted ≡ posted_request c (y.cores c).want
  wants_posted = coherent_now.posted_wants c

  pub asked_now : (want : Want) → (y.cores c).want ≡ Some want → IsAsked job.shape want
  asked_now want wants = want_asked_between job is slot job.shape.cores c want wants

  pub extent_now : length y.memory ≡ job.shape.memory
  extent_now = (stays_memory job is slot).1.size

  pub request_now : (want : Want) → (y.cores c).want ≡ Some want → is_some want.post ≡ true
      → request_of c y.posted ≡ Some (record { core = c; line = want.line; kind = want.kind })
  request_now want wants posted = wants_posted ∙ ap (posted_request c) wants
      ∙ ap (λ (t : Bool). if t then Some (record { core = c; line = want.line; kind = want.kind }) else None) posted

  -- ---- what the core may ask of the bus

  pub can_post : (want : Want) → (y.cores c).want ≡ Some want → want.post ≡ None → CanPost c want.line b.memory
  can_post want wants unposted = record {
    within = line_within job y b.memory want.line side_now (asked_below job y b.memory want is side_now (asked_now want wants));
    unposted = ap (request_of c) side_now.posted ∙ no_request job y b.memory c want None side_now wants_posted wants unposted;
  }

  pub can_fill : (want : Want) → requests_now job y c ≡ true → (y.cores c).want ≡ Some want → is_some want.post ≡ true → CanFill c want.line b.memory
  can_fill want now wants posted = record {
    ready = ready_served job y b.memory c (record { core = c; line = want.line; kind = want.kind }) side_now (request_now want wants posted)
        ∙ served_now job y c want wants now posted;
    asked = ap (option_map (λ r. r.line)) (ap (request_of c) side_now.posted ∙ request_now want wants posted);
  }

  pub first_owned : (line : ℕ) (lines : List ℕ) → (y.cores c).write_backs ≡ line ∷ lines → mode_in y c line ≡ Some Modified
  first_owned line lines first = coherent_now.back_owned c line (first_listed job y c line lines first)

  owned_by_none : (line : ℕ) → mode_in y c line ≡ Some Modified → (d : ℕ) → d ≢ c → mode_in y d line ≢ Some Modified
  owned_by_none line owned d other also = let none = coherent_now.owned_alone c d line owned other in absurd cc

  pub back_owner : (line : ℕ) (lines : List ℕ) → (y.cores c).write_backs ≡ line ∷ lines → owner_in b.memory line ≡ Some c
  back_owner line lines first = side_now.owners line
      ∙ owner_alone y job.shape.cores line c owner_within (first_owned line lines first) (λ d below. owned_by_none line (first_owned line lines first) d)

  pub can_back : (line : ℕ) (lines words : List ℕ) → (y.cores c).write_backs ≡ line ∷ lines → length words ≡ job.shape.line_words → CanWriteBack c line words b.memory
  can_back line lines words first count = record {
    owner = back_owner line lines first;
    count = count ∙ ap (λ (g : Geometry). g.line_words) (sym side_now.shape);
  }

  -- ---- the words of the wanted line

  want_below : (want : Want) → (y.cores c).want ≡ Some want → want.line < length b.memory.owners
  want_below want wants = asked_below job y b.memory want is side_now (asked_now want wants)

  pub want_length : (want : Want) → (y.cores c).want ≡ Some want → length (line_in b.memory want.line) ≡ job.shape.line_words
  want_length want wants = line_in-length job y b.memory want.line side_now (want_below want wants)

  -- a line that nobody owns has the words of the flat memory
  pub want_words : (want : Want) → (y.cores c).want ≡ Some want → owner_of y job.shape.cores want.line ≡ None → (place : ℕ) → place < job.shape.line_words
      → get_or (line_in b.memory want.line) place 0 ≡ word_at y.memory (want.line * job.shape.line_words + place)
  want_words want wants none place below = line_in-word job y b.memory want.line place side_now (want_below want wants) none below

  pub fill_unowned : (want : Want) → requests_now job y c ≡ true → (y.cores c).want ≡ Some want → is_some want.post ≡ true → owner_of y job.shape.cores want.line ≡ None
  fill_unowned want now wants posted = nobody_none y job.shape.cores want.line (let served = served_now job y c want wants now posted in grind arith)

  pub post_unowned : (want : Want) → (y.cores c).want ≡ Some want → want.post ≡ None
      → is_ready (posted_in c want.line (name_of want.kind (mode_in y c want.line)) b.memory) c ≡ true → owner_of y job.shape.cores want.line ≡ None
  post_unowned want wants unposted ready =
      let served : is_served job (post y c want.kind want.line) c want.line ≡ true =
      sym (ready_posted job y b.memory c want (mode_in y c want.line) side_now wants_posted wants unposted) ∙ ready in
      sym (post-owner y c want.kind want.line job.shape.cores want.line)
      ∙ nobody_none (post y c want.kind want.line) job.shape.cores want.line (grind arith)

  -- ---- the action of the slot

  pub post_record : (want : Want) → requests_now job y c ≡ true → (y.cores c).want ≡ Some want → want.post ≡ None
      → record_at job slot ≡ (if is_ready (posted_in c want.line (name_of want.kind (mode_in y c want.line)) b.memory) c
      then PostFill (name_of want.kind (mode_in y c want.line)) want.line else Post (name_of want.kind (mode_in y c want.line)) want.line)
  post_record want now wants unposted = record_is job slot c own ∙ action_posts job y c b.memory want side_now wants_posted now wants unposted

  pub fill_record : (want : Want) → requests_now job y c ≡ true → (y.cores c).want ≡ Some want → is_some want.post ≡ true → record_at job slot ≡ Fill want.line
  fill_record want now wants posted = record_is job slot c own ∙ action_fills job y c want now wants posted

  pub back_record : (line : ℕ) (lines : List ℕ) → requests_now job y c ≡ false → (y.cores c).write_backs ≡ line ∷ lines → record_at job slot ≡ Back line (keeps_line y c line)
  back_record line lines waits first = record_is job slot c own ∙ action_backs job y c line lines waits first

  pub idle_record : requests_now job y c ≡ false → (y.cores c).write_backs ≡ [] → record_at job slot ≡ Idle
  idle_record waits none = record_is job slot c own ∙ action_idles job y c waits none

  -- ---- after the action

  pub next_side : (action : Action) (m : SharedValue) → action_of job y c ≡ action → IsSharedOf job (after_action y c action) m → IsBusPart job (slot + 1) (ended action m b)
  next_side action m acted h = let recorded : record_at job slot ≡ action = record_is job slot c own ∙ acted in record {
    memory = subst (λ (z : Machine). IsSharedOf job z m) (sym (next_machine job slot))
        (slot_shared job (machine_at job slot) c m (slot_owner job slot c own) (subst (λ (a : Action). IsSharedOf job (after_action y c a) m) (sym acted) h));
    plan = part.plan;
    now = ap (λ (s : ℕ). s + 1) part.now;
    within = omega arith;
    recent = ap (λ (plan : SlotPlan). last_of (gap_of plan) (b.recent ++ action ∷ [])) part.plan
        ∙ ap (λ (items : List Action). last_of (gap_of (plan_of job)) (items ++ action ∷ [])) part.recent
        ∙ last_more (gap_of (plan_of job)) (records job slot) action
        ∙ ap (λ (a : Action). last_of (gap_of (plan_of job)) (records job slot ++ a ∷ [])) (sym recorded)
        ∙ ap (last_of (gap_of (plan_of job))) (sym (next_records job slot));
    trace = kept_trace b.keeps b.trace (records job slot) action part.trace
        ∙ ap (λ (a : Action). if b.keeps then records job slot ++ a ∷ [] else []) (sym recorded)
        ∙ ap (λ (items : List Action). if b.keeps then items else []) (sym (next_records job slot));
  }

  pub idle_side : requests_now job y c ≡ false → (y.cores c).write_backs ≡ [] → IsBusPart job (slot + 1) (side_idle b)
  unfolding after_action
  idle_side waits none = next_side Idle b.memory (action_idles job y c waits none) side_now

  pub fillable_now : (want : Want) → requests_now job y c ≡ true → (y.cores c).want ≡ Some want → is_some want.post ≡ true → IsFillable job y c want
  fillable_now want now wants posted = record {
    below = owner_within;
    wants = wants;
    request = request_now want wants posted;
    nobody = (let served = served_now job y c want wants now posted in grind arith);
    asked = asked_now want wants;
    extent = extent_now;
  }

  pub fill_side : (want : Want) → requests_now job y c ≡ true → (y.cores c).want ≡ Some want → is_some want.post ≡ true
      → IsBusPart job (slot + 1) (side_filled c want.line b)
  unfolding after_action
  fill_side want now wants posted = next_side (Fill want.line) (filled c b.memory) (action_fills job y c want now wants posted)
      (shared_filled job y b.memory c want is side_now (fillable_now want now wants posted))

  pub fillable_posted : (want : Want) → (y.cores c).want ≡ Some want → want.post ≡ None → is_served job (post y c want.kind want.line) c want.line ≡ true
      → IsFillable job (post y c want.kind want.line) c (post_at y.slot want)
  fillable_posted want wants unposted served = record {
    below = owner_within;
    wants = ap (λ (k : CoreState). k.want) (post-own y c want.kind want.line) ∙ ap (option_map (post_at y.slot)) wants;
    request = new_request job y b.memory c want None side_now wants_posted wants unposted;
    nobody = grind arith;
    asked = asked_at job.shape y.slot want (asked_now want wants);
    extent = ap length (post-memory y c want.kind want.line) ∙ extent_now;
  }

  -- by the kind of the request's name
  abbrev PostFillShared : Want → Kind → Type 0
  PostFillShared want kind = IsSharedOf job (fill (post y c kind want.line) c) (filled c (with_request c want.line kind b.memory))

  post_fill_shared : (want : Want) → (y.cores c).want ≡ Some want → want.post ≡ None → is_served job (post y c want.kind want.line) c want.line ≡ true
      → PostFillShared want want.kind
  post_fill_shared want wants unposted served = shared_filled job (post y c want.kind want.line) (with_request c want.line want.kind b.memory) c (post_at y.slot want) is
      (shared_posted job y b.memory c want.line want.kind side_now) (fillable_posted want wants unposted served)

  pub post_side : (want : Want) → requests_now job y c ≡ true → (y.cores c).want ≡ Some want → want.post ≡ None
      → IsBusPart job (slot + 1) (side_posted c want.line (name_of want.kind (mode_in y c want.line)) b)
  unfolding after_action
  post_side want now wants unposted = let name : Name = name_of want.kind (mode_in y c want.line) in
      let acted = action_posts job y c b.memory want side_now wants_posted now wants unposted in
      let same = kind_named want.kind (mode_in y c want.line) in
      by_test (IsBusPart job (slot + 1)) (is_ready (posted_in c want.line (name_of want.kind (mode_in y c want.line)) b.memory) c)
      (ended (PostFill name want.line) (filled c (posted_in c want.line name b.memory)) b) (ended (Post name want.line) (posted_in c want.line name b.memory) b)
      (λ yes. next_side (PostFill name want.line) (filled c (posted_in c want.line name b.memory))
      (acted ∙ ap (λ (t : Bool). if t then PostFill (name_of want.kind (mode_in y c want.line)) want.line else Post (name_of want.kind (mode_in y c want.line)) want.line) yes)
      (subst (PostFillShared want) (sym same) (post_fill_shared want wants unposted
      (sym (ready_posted job y b.memory c want (mode_in y c want.line) side_now wants_posted wants unposted) ∙ yes))))
      (λ no. next_side (Post name want.line) (posted_in c want.line name b.memory)
      (acted ∙ ap (λ (t : Bool). if t then PostFill (name_of want.kind (mode_in y c want.line)) want.line else Post (name_of want.kind (mode_in y c want.line)) want.line) no)
      (shared_posted job y b.memory c want.line (kind_of_name (name_of want.kind (mode_in y c want.line))) side_now))

  pub backable : (line : ℕ) (lines words : List ℕ) → (y.cores c).write_backs ≡ line ∷ lines → 4 * ((line + 1) * job.shape.line_words) ≤ job.shape.memory → length words ≡ job.shape.line_words
      → ((place : ℕ) → place < job.shape.line_words → get_or words place 0 ≡ word_at y.memory (line * job.shape.line_words + place)) → IsBackable job y c line words
  backable line lines words first within count agree = record {
    alone = owned_by_none line (first_owned line lines first);
    within = within;
    count = count;
    agree = agree;
  }

  pub back_side : (line : ℕ) (lines words : List ℕ) (kept : Bool) → requests_now job y c ≡ false → (y.cores c).write_backs ≡ line ∷ lines → kept ≡ keeps_line y c line
      → IsBackable job y c line words → IsBusPart job (slot + 1) (side_back line words kept b)
  unfolding after_action
  back_side line lines words kept waits first keeps backs = next_side (Back line kept) (written_back line words b.memory)
      (action_backs job y c line lines waits first ∙ ap (Back line) (sym keeps))
      (shared_back job y b.memory c line words kept is side_now backs)
