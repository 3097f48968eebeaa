-- The action of a slot's owner: what it needs, and where it leads.
use Rattle.std.proofs.Common.{◌≡◌, ℕ, ◌+◌, ◌*◌, ◌^◌, ◌<◌, ◌≤◌, ◌&&◌, List, [], ◌∷◌, ◌++◌, length, Option, Some, None, is_some, Bool, true, false, if◌then◌else◌, refl, sym, ap, ◌∙◌, subst, arith}
use Rattle.std.specs.Option.{unwrap_or}
use Rattle.pmsi_model.specs.declared.job.Geometry.{Geometry}
use Rattle.pmsi_model.specs.declared.Action.{Action}
use Rattle.pmsi_model.specs.declared.Action.TheVariants.{Idle, Post, Fill, PostFill, Back}
use Rattle.pmsi_model.specs.declared.Kind.{Kind}
use Rattle.pmsi_model.specs.declared.Mode.TheVariants.{Modified}
use Rattle.pmsi_model.specs.declared.Name.{Name}
use Rattle.pmsi_model.specs.declared.Touch.{Touch}
use Rattle.pmsi_model.specs.declared.Want.{Want}
use Rattle.pmsi_model.specs.Job.{JobValue, IsJob}
use Rattle.pmsi_model.specs.Slots.{SlotPlan, plan_of, owner_of_slot}
use Rattle.pmsi_model.specs.Machine.{Machine, CoreState, Request, mode_of, mode_in, first_of, nobody_owns, owner_of, request_of}
use Rattle.pmsi_model.specs.Phase.{Context, context_of, met_bytes, touches_by}
use Rattle.pmsi_model.specs.Bus.{action_of, after_action, clear_victim, fill, is_core, is_served, keeps_line, kind_of_name, name_of, post, post_at, requests_now}
use Rattle.pmsi_model.specs.Coherent.{posted_request}
use Rattle.pmsi_model.specs.Run.{action_touch, after_phases, machine_at, want_touch}
use Rattle.pmsi_model.specs.Shared.{SharedValue, BusSide, CanFill, CanPost, CanWriteBack, IsLine, is_ready, line_in, posted_in, side_filled, side_idle, side_posted}
use Rattle.pmsi_model.specs.Parts.{IsBusPart, IsSharedOf}
use Rattle.pmsi_model.proofs.Cases.{by_test}
use Rattle.coherence_laws.proofs.Exports.{fill_whole, IsAsked, no_victim, kind_named, nobody_at_all, phases_at, post_fill_whole, IsWhole}
use Rattle.pend_buffers.specs.declared.Choice.{Choice}
use Rattle.pend_buffers.specs.declared.Choice.TheVariants.{Idle as IdleChoice, Request as RequestChoice, Back as BackChoice}
use Rattle.pend_buffers.specs.Pending.{choice_of}
use Rattle.cache_array.specs.Cache.{Holds as IsHeld, held_of, words_of}
use Rattle.rv_exec.specs.Accesses.{covered}
use Rattle.core_unit.specs.declared.state.State.{State}
use Rattle.core_unit.specs.State.{asked, backed, core_of, fills_at_once, keeps, met_among, name_for, posted_state, row_for, served, stepped, touch_on, with_touch}
use Rattle.core_unit.specs.Stands.{KnowsStates, StandsFor}
use Rattle.core_unit.specs.Parts.{CanAct, HasRows, IsPart, IsPartAfter, own_touches}
use Rattle.core_unit.specs.Acts.{CanBack, CanFillFor, CanPostFor, CanRequest, IsActed, IsBacked, IsFilled, IsPosted, IsRequested, outcome}
use Rattle.core_unit.proofs.ActsBacks.{IsWritable, back_backed, back_changes, keeps_is}
use Rattle.core_unit.proofs.ActsCopies.{AreWords}
use Rattle.core_unit.proofs.ActsFills.{IsServable, fill_changes, fill_served, met_now}
use Rattle.core_unit.proofs.ActsNeeds.{IsNeeded, backs_room, serves, serves_asked}
use Rattle.core_unit.proofs.ActsPosts.{IsPostable, filled_changes, met_then, post_asked, post_changes, post_served}
use Rattle.core_unit.proofs.ActsRows.{rows_grow, rows_stay, served_row}
use Rattle.core_unit.proofs.ActsTouches.{IsTouched, acted_own, ended_touches, served_touched, still_standing, touches_after, touches_before, touched_none}
use Rattle.core_unit.proofs.Carried.{carried, knows_carried}
use Rattle.core_unit.proofs.Changed.{first_served}
use Rattle.core_unit.proofs.Snoops.{IsCoreIn}
use Rattle.core_unit.proofs.SnoopsSlots.{knows_stepped, stands_stepped}
use Rattle.core_unit.proofs.Sides.{IsBackable, asked_below, line_within}
use Rattle.core_unit.proofs.SidesNext as side
use Rattle.core_unit.proofs.SidesReady.{action_fills, action_posts, action_backs, action_idles, choice_backs, choice_idles, choice_requests, free_now, ready_posted, served_now, wants_now}

-- the core of a job whose slot it is, by its number and plan
pub owner_is : (job : JobValue) (slot c : ℕ) (v : State) (b : BusSide) → CanAct v b → IsPartAfter job slot c v → owner_of_slot (plan_of job) slot ≡ c
owner_is job slot c v b can p = let mine = p.in_slot.stands.carries in let theirs = can.part.in_slot.stands.carries in
    ap (λ (plan : SlotPlan). owner_of_slot plan slot) (sym mine.plan ∙ theirs.plan) ∙ ap (owner_of_slot (plan_of can.job)) (sym p.in_slot.now) ∙ can.own
    ∙ sym theirs.number ∙ mine.number

second_is : (a b : Bool) → (a && b) ≡ true → b ≡ true
second_is true b is = is
second_is false b is = absurd (grind arith)

line_extent : (line words memory : ℕ) → (line + 1) * (4 * words) ≤ memory → 4 * ((line + 1) * words) ≤ memory
line_extent line words memory within = let e : (line + 1) * (4 * words) ≡ 4 * ((line + 1) * words) = grind arith in omega arith

posted_keeps : (c line : ℕ) (name : Name) (b : BusSide) → (side_posted c line name b).keeps ≡ b.keeps
posted_keeps c line name b = grind arith

posted_kept : (want : Want) (v : State) (m : SharedValue) → (posted_state want m v).keeps ≡ v.keeps
posted_kept want v m = by_test (λ (w : State). w.keeps ≡ v.keeps) (fills_at_once want m v) (served want (line_in m want.line) v.slot (asked want v)) (asked want v)
    (λ filled. refl) (λ waits. refl)

-- what the core and the bus keep stays
requested_keeps : (post : Option ℕ) (want : Want) (v : State) (b : BusSide) (action : Action) (w : State) (after : BusSide)
    → IsRequested post want v b (outcome action w after)
    → (w.keeps ≡ v.keeps) × (after.keeps ≡ b.keeps)
requested_keeps None want v b action w after d = (
  ap (λ (u : State). u.keeps) d.core ∙ posted_kept want v b.memory,
  ap (λ (s : BusSide). s.keeps) d.side
      ∙ posted_keeps v.number want.line (name_for want v) b,
)
requested_keeps (Some at) want v b action w after d = (ap (λ (u : State). u.keeps) d.core, ap (λ (s : BusSide). s.keeps) d.side)

module _ (job : JobValue) (slot c : ℕ) (v : State) (b : BusSide) (p : IsPartAfter job slot c v) (q : IsBusPart job slot b)
    (own : owner_of_slot (plan_of job) slot ≡ c) where
  abbrev y : Machine
  y = after_phases job (machine_at job slot)

  is : IsJob job
  is = p.in_slot.stands.carries.within

  core_in : IsCoreIn job c y v
  core_in = record { stands = carried job slot c v p; knows = knows_carried job slot c v p }

  core : y.cores c ≡ core_of v
  core = core_in.stands.core

  number : v.number ≡ c
  number = core_in.stands.carries.number

  whole : IsWhole job.shape (slot + 1) y.posted y.cores
  whole = phases_at job is slot job.shape.cores (omega arith)

  now : y.slot ≡ slot
  now = side.slot_now job slot

  whole_now : IsWhole job.shape (y.slot + 1) y.posted y.cores
  whole_now = subst (λ (s : ℕ). IsWhole job.shape (s + 1) y.posted y.cores) (sym now) whole

  here : v.slot ≡ y.slot
  here = p.in_slot.now ∙ sym now

  below : c < job.shape.cores
  below = core_in.stands.carries.below

  side_now : IsSharedOf job y b.memory
  side_now = side.side_now job slot c b is q p.more own

  wants_posted : request_of c y.posted ≡ posted_request c (y.cores c).want
  wants_posted = side.wants_posted job slot c b is q p.more own

  wants_core : (want : Want) → v.pending.want ≡ Some want → (y.cores c).want ≡ Some want
  wants_core want wants = ap (λ (k : CoreState). k.want) core ∙ wants

  backs_core : (lines : List ℕ) → v.pending.write_backs ≡ lines → (y.cores c).write_backs ≡ lines
  backs_core lines waits = ap (λ (k : CoreState). k.write_backs) core ∙ waits

  -- ---- the choice

  chosen : (choice : Choice) → choice_of (is_ready b.memory v.number) v.pending ≡ choice → choice_of (is_ready b.memory c) v.pending ≡ choice
  chosen choice made = ap (λ (d : ℕ). choice_of (is_ready b.memory d) v.pending) (sym number) ∙ made

  pub requests : choice_of (is_ready b.memory v.number) v.pending ≡ RequestChoice → requests_now job y c ≡ true
  requests made = choice_requests job y b.memory c v.pending side_now wants_posted (ap (λ (k : CoreState). k.want) (sym core))
      (ap (λ (k : CoreState). k.write_backs) (sym core)) (ap (λ (k : CoreState). k.turn) (sym core))
      (chosen RequestChoice made)

  pub writes_back : choice_of (is_ready b.memory v.number) v.pending ≡ BackChoice
      → (requests_now job y c ≡ false) × ((line : ℕ) × (rest : List ℕ) × ((y.cores c).write_backs ≡ line ∷ rest))
  writes_back made = choice_backs job y b.memory c v.pending side_now wants_posted (ap (λ (k : CoreState). k.want) (sym core))
      (ap (λ (k : CoreState). k.write_backs) (sym core)) (ap (λ (k : CoreState). k.turn) (sym core))
      (chosen BackChoice made)

  pub idles : choice_of (is_ready b.memory v.number) v.pending ≡ IdleChoice → (requests_now job y c ≡ false) × ((y.cores c).write_backs ≡ [])
  idles made = choice_idles job y b.memory c v.pending side_now wants_posted (ap (λ (k : CoreState). k.want) (sym core))
      (ap (λ (k : CoreState). k.write_backs) (sym core)) (ap (λ (k : CoreState). k.turn) (sym core))
      (chosen IdleChoice made)

  -- ---- the next boundary

  next_part : (action : Action) (w : State) → action_of job y c ≡ action → IsCoreIn job c (after_action y c action) w → w.slot ≡ v.slot
      → IsTouched (touches_by c (action_touch y c action)) v w → HasRows job (slot + 1) c w → IsPart job (slot + 1) c (stepped w)
  next_part action w acted h same touched rows = record {
    in_slot = record {
      stands = stands_stepped job c (context_of (machine_at job (slot + 1)) c) w
          (subst (λ (x : Context). StandsFor job c x w) (sym (side.next_context job slot c c action own acted)) h.stands);
      knows = knows_stepped (machine_at job (slot + 1)).posted c w
          (subst (λ (posted : List Request). KnowsStates posted c w) (sym (side.next_posted job slot c action own acted)) h.knows);
      now = ap (λ (n : ℕ). n + 1) (same ∙ p.in_slot.now);
      within = (let more = p.more in omega arith);
      rows = record { rows = rows.rows; few = rows.few; room = rows.room };
    };
    fresh = refl;
    touches = ended_touches job (touches_before job slot c) (touches_by c (action_touch y c action)) (own_touches job (slot + 1) c)
        ((slot + 1) * job.shape.quantum) v w
        (touches_after job slot c is below ∙ ap (λ (ts : List Touch). touches_before job slot c ++ ts)
        (acted_own job slot c action own acted)) touched p.touches;
  }

  -- ---- nothing is done

  pub acted_idle : requests_now job y c ≡ false → (y.cores c).write_backs ≡ [] → IsActed job slot c Idle (stepped v) (side_idle b)
  unfolding after_action
  acted_idle waits none = let acted = action_idles job y c waits none in record {
    what = sym (side.idle_record job slot c b is q p.more own waits none);
    core = next_part Idle v acted core_in refl (touched_none v v refl refl refl refl) (rows_stay job slot c v v own p.in_slot.rows Idle acted refl refl);
    bus = side.idle_side job slot c b is q p.more own waits none;
  }

  -- ---- a line is written back

  module _ (line : ℕ) (lines : List ℕ) (first : v.pending.write_backs ≡ line ∷ lines) where
    held : IsHeld line v.cache.lines
    held none = let owned = side.first_owned job slot c b is q p.more own line lines (backs_core (line ∷ lines) first) in
        let there : mode_of line (held_of v.cache.lines) ≡ Some Modified = ap (λ (k : CoreState). mode_of line k.held) (sym core) ∙ owned in absurd cc

    size : length (words_of line v.cache.lines) ≡ job.shape.line_words
    size = core_in.stands.carries.agree.sizes line held

    writable : IsWritable job (slot + 1) y c line lines v
    writable = record { whole = whole; core_in = core_in; first = first; held = held }

    pub can_back : CanBack line lines v b.memory
    can_back = record {
      held = held;
      changes = back_changes job (slot + 1) y c line lines v writable;
      can = subst (λ (d : ℕ). CanWriteBack d line (words_of line v.cache.lines) b.memory) (sym number)
          (side.can_back job slot c b is q p.more own line lines (words_of line v.cache.lines) (backs_core (line ∷ lines) first) size);
    }

    keeps_line_is : keeps line v ≡ keeps_line y c line
    keeps_line_is = keeps_is job (slot + 1) y c line lines v writable

    backable : IsBackable job y c line (words_of line v.cache.lines)
    backable = side.backable job slot c b is q p.more own line lines (words_of line v.cache.lines) (backs_core (line ∷ lines) first)
        (let within = core_in.stands.carries.agree.within line held in let bytes = core_in.stands.carries.bytes in omega arith) size
        (λ place short. core_in.stands.carries.agree.words line place short held)

    acts_back : requests_now job y c ≡ false → action_of job y c ≡ Back line (keeps line v)
    acts_back waits = action_backs job y c line lines waits (backs_core (line ∷ lines) first) ∙ ap (Back line) (sym keeps_line_is)

    back_part : requests_now job y c ≡ false → IsPart job (slot + 1) c (stepped (backed line lines v))
    unfolding after_action
    back_part waits = next_part (Back line (keeps line v)) (backed line lines v) (acts_back waits) (back_backed job (slot + 1) y c line lines v writable) refl
        (touched_none v (backed line lines v) refl refl refl (still_standing (clear_victim line) v.pending.want))
        (rows_stay job slot c v (backed line lines v) own p.in_slot.rows (Back line (keeps line v)) (acts_back waits) refl refl)

    pub acted_back : (action : Action) (w : State) (after : BusSide) → requests_now job y c ≡ false → IsBacked line lines v b (outcome action w after)
        → IsActed job slot c action (stepped w) after
    acted_back action w after waits d = record {
      what = d.what ∙ ap (Back line) keeps_line_is ∙ sym (side.back_record job slot c b is q p.more own line lines waits (backs_core (line ∷ lines) first));
      core = subst (λ (u : State). IsPart job (slot + 1) c (stepped u)) (sym d.core) (back_part waits);
      bus = subst (IsBusPart job (slot + 1)) (sym d.side)
          (side.back_side job slot c b is q p.more own line lines (words_of line v.cache.lines) (keeps line v) waits
          (backs_core (line ∷ lines) first) keeps_line_is backable);
    }

  -- ---- a request

  module _ (want : Want) (wants : v.pending.want ≡ Some want) (asks : requests_now job y c ≡ true) where
    mine : (y.cores c).want ≡ Some want
    mine = wants_core want wants

    asked_want : IsAsked job.shape want
    asked_want = side.asked_now job slot c b is q p.more own want mine

    extent : 4 * ((want.line + 1) * job.shape.line_words) ≤ length y.memory
    extent = let bytes = side.extent_now job slot c b is q p.more own in
        let within : IsLine job.shape want.line = subst (λ (g : Geometry). IsLine g want.line) side_now.shape
        (line_within job y b.memory want.line side_now (asked_below job y b.memory want is side_now asked_want)) in
        let less = line_extent want.line job.shape.line_words job.shape.memory within in omega arith

    reads : owner_of y job.shape.cores want.line ≡ None → AreWords job.shape.line_words y.memory want.line (line_in b.memory want.line)
    reads none = record {
      size = side.want_length job slot c b is q p.more own want mine;
      same = side.want_words job slot c b is q p.more own want mine none;
      within = extent;
    }

    needed : want.victim ≡ None → IsNeeded job slot c y want (line_in b.memory want.line) v
    needed free = record {
      whole = whole;
      core_in = core_in;
      own = own;
      more = p.more;
      wants = mine;
      free = free;
      aligned = asked_want.fit.aligned;
      count = side.want_length job slot c b is q p.more own want mine;
      rows = p.in_slot.rows;
      touched = p.touches;
    }

    -- once it is served the core has its access
    want_touched : (w : State) → covered want.access (met_among v.shape want.access (line_in b.memory want.line)) ≡ met_bytes want.access y.memory
        → w.keeps ≡ v.keeps
        → w.touches ≡ (with_touch (touch_on want.access (met_among v.shape want.access (line_in b.memory want.line)) v) v).touches → w.retired ≡ v.retired + 1
        → w.pending.want ≡ None
        → IsTouched (touches_by c (want_touch y c (y.cores c).want)) v w
    want_touched w met = served_touched y c want (met_among v.shape want.access (line_in b.memory want.line)) v w mine wants here number met

    -- ---- it was posted

    module _ (at : ℕ) (post_is : want.post ≡ Some at) where
      posted : is_some want.post ≡ true
      posted = ap (λ (o : Option ℕ). is_some o) post_is

      nobody : nobody_owns y job.shape.cores want.line ≡ true
      nobody = (side.fillable_now job slot c b is q p.more own want asks mine posted).nobody

      servable : IsServable job (slot + 1) y c want (line_in b.memory want.line) v
      servable = record {
        whole = whole;
        core_in = core_in;
        wants = mine;
        posted = posted;
        asked = asked_want;
        first = first_served c (first_of want.line y.posted) (nobody_owns y job.shape.cores want.line) (served_now job y c want mine asks posted);
        nobody = nobody;
        read = reads (side.fill_unowned job slot c b is q p.more own want asks mine posted);
      }

      filled_whole : IsWhole job.shape (slot + 1) (fill y c).posted (fill y c).cores
      filled_whole = fill_whole job.shape (slot + 1) y c want whole below mine posted (nobody_at_all job.shape (slot + 1) y want.line whole nobody)

      filled_core_in : IsCoreIn job c (fill y c) (served want (line_in b.memory want.line) at v)
      filled_core_in = fill_served job (slot + 1) y c want (line_in b.memory want.line) v servable at

      fill_free : want.victim ≡ None
      fill_free = no_victim job.shape (slot + 1) (y.cores c).held (y.cores c).write_backs (y.cores c).status want ((whole.fine c).want_fine want mine) posted

      can_fill_for : CanFillFor want v b.memory
      can_fill_for = record {
        can = subst (λ (d : ℕ). CanFill d want.line b.memory) (sym number) (side.can_fill job slot c b is q p.more own want asks mine posted);
        serve = serves job slot c y want (line_in b.memory want.line) v (needed fill_free)
            (fill_changes job (slot + 1) y c want (line_in b.memory want.line) v servable
            (backs_room job (slot + 1) c (fill y c) want (line_in b.memory want.line) at v filled_whole below filled_core_in));
      }

      acts_fill : action_of job y c ≡ Fill want.line
      acts_fill = action_fills job y c want asks mine posted

      abbrev filled_state : State
      filled_state = served want (line_in b.memory want.line) at v

      fill_part : IsPart job (slot + 1) c (stepped (served want (line_in b.memory want.line) at v))
      unfolding after_action
      fill_part = next_part (Fill want.line) filled_state acts_fill filled_core_in refl
          (want_touched filled_state (met_now job (slot + 1) y c want (line_in b.memory want.line) v servable) refl refl refl refl)
          (rows_grow job slot c v filled_state own p.in_slot.rows (Fill want.line) (row_for want at v) acts_fill
          (served_row y c want at v number here mine (ap (λ (o : Option ℕ). unwrap_or o y.slot) post_is)) number refl)

      acted_fill : (action : Action) (w : State) (after : BusSide) → IsFilled want at v b (outcome action w after) → IsActed job slot c action (stepped w) after
      acted_fill action w after d = record {
        what = d.what ∙ sym (side.fill_record job slot c b is q p.more own want asks mine posted);
        core = subst (λ (u : State). IsPart job (slot + 1) c (stepped u)) (sym d.core) fill_part;
        bus = subst (IsBusPart job (slot + 1)) (sym (d.side ∙ ap (λ (e : ℕ). side_filled e want.line b) number))
            (side.fill_side job slot c b is q p.more own want asks mine posted);
      }

    -- ---- it is posted now

    module _ (unposted : want.post ≡ None) where
      postable : IsPostable job y c want v
      postable = record {
        whole = whole_now;
        core_in = core_in;
        now = here;
        below = below;
        wants = mine;
        unposted = unposted;
        free = free_now job y c want mine asks unposted;
        asked = asked_want;
      }

      abbrev name : Name
      name = name_of want.kind (mode_in y c want.line)

      name_is : name_for want v ≡ name_of want.kind (mode_in y c want.line)
      name_is = ap (λ (k : CoreState). name_of want.kind (mode_of want.line k.held)) (sym core)

      ready_is : fills_at_once want b.memory v ≡ is_ready (posted_in c want.line (name_of want.kind (mode_in y c want.line)) b.memory) c
      ready_is = ap (λ (d : ℕ). is_ready (posted_in d want.line (name_for want v) b.memory) d) number
          ∙ ap (λ (n : Name). is_ready (posted_in c want.line n b.memory) c) name_is

      module _ (ready : fills_at_once want b.memory v ≡ true) where
        is_now : is_served job (post y c want.kind want.line) c want.line ≡ true
        is_now = sym (ready_posted job y b.memory c want (mode_in y c want.line) side_now wants_posted mine unposted) ∙ sym ready_is ∙ ready

        nobody_then : nobody_owns (post y c want.kind want.line) job.shape.cores want.line ≡ true
        nobody_then = second_is (is_core c (first_of want.line (post y c want.kind want.line).posted))
            (nobody_owns (post y c want.kind want.line) job.shape.cores want.line) is_now

        first_then : first_of want.line (post y c want.kind want.line).posted ≡ Some c
        first_then = first_served c (first_of want.line (post y c want.kind want.line).posted)
            (nobody_owns (post y c want.kind want.line) job.shape.cores want.line) is_now

        post_reads : AreWords job.shape.line_words y.memory want.line (line_in b.memory want.line)
        post_reads = reads (side.post_unowned job slot c b is q p.more own want mine unposted (sym ready_is ∙ ready))

      served_core_in : fills_at_once want b.memory v ≡ true → (at : ℕ)
          → IsCoreIn job c (fill (post y c want.kind want.line) c) (served want (line_in b.memory want.line) at (asked want v))
      served_core_in ready at = post_served job y c want v postable (line_in b.memory want.line) (first_then ready) (nobody_then ready) (post_reads ready) at

      post_free : want.victim ≡ None
      post_free = free_now job y c want mine asks unposted

      post_room : fills_at_once want b.memory v ≡ true → length (asked want v).pending.write_backs < job.shape.cores
      post_room ready = backs_room job (y.slot + 1) c (fill (post y c want.kind want.line) c) want (line_in b.memory want.line) 0 (asked want v)
          (post_fill_whole job y c want whole_now below mine unposted post_free (nobody_then ready)) below (served_core_in ready 0)

      can_post_for : CanPostFor want v b.memory
      can_post_for = record {
        can = subst (λ (d : ℕ). CanPost d want.line b.memory) (sym number) (side.can_post job slot c b is q p.more own want mine unposted);
        changes = post_changes job y c want v postable;
        serve = λ ready. serves_asked job slot c y want (line_in b.memory want.line) v (needed post_free)
            (filled_changes job y c want v postable (line_in b.memory want.line) (first_then ready) (nobody_then ready) (post_reads ready) (post_room ready));
      }

      -- the action by whether the request is filled at once
      abbrev action_by : Bool → Action
      action_by filled = if filled then PostFill (name_of want.kind (mode_in y c want.line)) want.line else Post
          (name_of want.kind (mode_in y c want.line)) want.line

      acts_by : (filled : Bool) → fills_at_once want b.memory v ≡ filled → action_of job y c ≡ action_by filled
      acts_by filled by = action_posts job y c b.memory want side_now wants_posted asks mine unposted ∙ ap action_by (sym ready_is ∙ by)

      kind_is : kind_of_name (name_of want.kind (mode_in y c want.line)) ≡ want.kind
      kind_is = kind_named want.kind (mode_in y c want.line)

      filled_part : fills_at_once want b.memory v ≡ true → IsPart job (slot + 1) c (stepped (served want (line_in b.memory want.line) v.slot (asked want v)))
      unfolding after_action
      filled_part ready = let w : State = served want (line_in b.memory want.line) v.slot (asked want v) in
          next_part (PostFill name want.line) w (acts_by true ready)
          (subst (λ (kind : Kind). IsCoreIn job c (fill (post y c kind want.line) c) (served want (line_in b.memory want.line) v.slot (asked want v)))
          (sym kind_is) (served_core_in ready v.slot)) refl
          (want_touched w (met_then job y c want v postable (line_in b.memory want.line) (first_then ready) (nobody_then ready) (post_reads ready)) refl refl refl refl)
          (rows_grow job slot c v w own p.in_slot.rows (PostFill name want.line) (row_for want v.slot v) (acts_by true ready)
          (served_row y c want v.slot v number here mine (ap (λ (o : Option ℕ). unwrap_or o y.slot) unposted ∙ sym here)) number refl)

      queued_part : fills_at_once want b.memory v ≡ false → IsPart job (slot + 1) c (stepped (asked want v))
      unfolding after_action
      queued_part waits = next_part (Post name want.line) (asked want v) (acts_by false waits)
          (subst (λ (kind : Kind). IsCoreIn job c (post y c kind want.line) (asked want v)) (sym kind_is) (post_asked job y c want v postable)) refl
          (touched_none v (asked want v) refl refl refl (still_standing (post_at v.slot) v.pending.want))
          (rows_stay job slot c v (asked want v) own p.in_slot.rows (Post name want.line) (acts_by false waits) refl refl)

      post_part : IsPart job (slot + 1) c (stepped (posted_state want b.memory v))
      post_part = by_test (λ (w : State). IsPart job (slot + 1) c (stepped w)) (fills_at_once want b.memory v)
          (served want (line_in b.memory want.line) v.slot (asked want v)) (asked want v) filled_part queued_part

      acted_post : (action : Action) (w : State) (after : BusSide) → IsPosted want v b (outcome action w after) → IsActed job slot c action (stepped w) after
      acted_post action w after d = record {
        what = d.what
            ∙ ap (λ (n : Name). if fills_at_once want b.memory v then PostFill n want.line else Post n want.line) name_is
            ∙ ap action_by ready_is
            ∙ sym (side.post_record job slot c b is q p.more own want asks mine unposted);
        core = subst (λ (u : State). IsPart job (slot + 1) c (stepped u)) (sym d.core) post_part;
        bus = subst (IsBusPart job (slot + 1))
            (sym (d.side ∙ ap (λ (e : ℕ). side_posted e want.line (name_for want v) b) number ∙ ap (λ (n : Name). side_posted c want.line n b) name_is))
            (side.post_side job slot c b is q p.more own want asks mine unposted);
      }

    -- ---- either

    can_request_by : (o : Option ℕ) → want.post ≡ o → CanRequest o want v b.memory
    can_request_by None by = can_post_for by
    can_request_by (Some at) by = can_fill_for at by

    pub can_request : CanRequest want.post want v b.memory
    can_request = can_request_by want.post refl

    acted_by : (o : Option ℕ) → want.post ≡ o → (action : Action) (w : State) (after : BusSide) → IsRequested o want v b (outcome action w after)
        → IsActed job slot c action (stepped w) after
    acted_by None by action w after d = acted_post by action w after d
    acted_by (Some at) by action w after d = acted_fill at by action w after d

    pub acted_request : (action : Action) (w : State) (after : BusSide) → IsRequested want.post want v b (outcome action w after)
        → IsActed job slot c action (stepped w) after
    acted_request action w after d = acted_by want.post refl action w after d

  pub wants_some : requests_now job y c ≡ true → (want : Want) × (v.pending.want ≡ Some want)
  wants_some asks = let some = wants_now job y c asks in (some.0, ap (λ (k : CoreState). k.want) (sym core) ∙ some.1)

  -- ---- what was chosen

  pub idle_acted : choice_of (is_ready b.memory v.number) v.pending ≡ IdleChoice → IsActed job slot c Idle (stepped v) (side_idle b)
  idle_acted made = let chosen = idles made in acted_idle chosen.0 chosen.1

  pub request_acted : choice_of (is_ready b.memory v.number) v.pending ≡ RequestChoice → (action : Action) (w : State) (after : BusSide)
      → ((want : Want) → v.pending.want ≡ Some want → IsRequested want.post want v b (outcome action w after)) → IsActed job slot c action (stepped w) after
  request_acted made action w after done = let asks = requests made in let some = wants_some asks in
      acted_request some.0 some.1 asks action w after (done some.0 some.1)

  pub back_acted : choice_of (is_ready b.memory v.number) v.pending ≡ BackChoice → (action : Action) (w : State) (after : BusSide)
      → ((line : ℕ) (lines : List ℕ) → v.pending.write_backs ≡ line ∷ lines → IsBacked line lines v b (outcome action w after))
      → IsActed job slot c action (stepped w) after
  back_acted made action w after done = let chosen = writes_back made in let line : ℕ = chosen.1.0 in let lines : List ℕ = chosen.1.1 in
      let first : v.pending.write_backs ≡ line ∷ lines = ap (λ (k : CoreState). k.write_backs) (sym core) ∙ chosen.1.2 in
      acted_back line lines first action w after chosen.0 (done line lines first)

-- ---- what a core does of what it chose

-- the core does it, as the code has it
abbrev pub Does : Choice → State → BusSide → Action → State → BusSide → Type 0
Does IdleChoice v b action w after = (action ≡ Idle) × (w ≡ v) × (after ≡ side_idle b)
Does RequestChoice v b action w after = (want : Want) → v.pending.want ≡ Some want → IsRequested want.post want v b (outcome action w after)
Does BackChoice v b action w after = (line : ℕ) (lines : List ℕ) → v.pending.write_backs ≡ line ∷ lines → IsBacked line lines v b (outcome action w after)

-- then it acted, for each job of which it can be, and what core and bus keep stays
pub record IsDone (v : State) (b : BusSide) (action : Action) (w : State) (after : BusSide) : Type 0 where
  pub acted : (job : JobValue) (slot c : ℕ) → IsPartAfter job slot c v → IsBusPart job slot b → IsActed job slot c action (stepped w) after
  pub keeps : w.keeps ≡ v.keeps
  pub bus_keeps : after.keeps ≡ b.keeps

-- an action, a state and a bus by other names
renamed_acted : (job : JobValue) (slot c : ℕ) (action a : Action) (w u : State) (after m : BusSide) → action ≡ a → w ≡ u → after ≡ m
    → IsActed job slot c a (stepped u) m → IsActed job slot c action (stepped w) after
renamed_acted job slot c action a w u after m what core bus d = record {
  what = what ∙ d.what;
  core = subst (λ (x : State). IsPart job (slot + 1) c (stepped x)) (sym core) d.core;
  bus = subst (IsBusPart job (slot + 1)) (sym bus) d.bus;
}

module _ (v : State) (b : BusSide) (can : CanAct v b) (action : Action) (w : State) (after : BusSide) where
  abbrev Chose : Choice → Type 0
  Chose choice = choice_of (is_ready b.memory v.number) v.pending ≡ choice

  wanted : Chose RequestChoice → (want : Want) × (v.pending.want ≡ Some want)
  wanted made = wants_some can.job v.slot can.core v b can.part can.bus can.own (requests can.job v.slot can.core v b can.part can.bus can.own made)

  request_keeps : Chose RequestChoice → Does RequestChoice v b action w after → (w.keeps ≡ v.keeps) × (after.keeps ≡ b.keeps)
  request_keeps made done = let some = wanted made in requested_keeps some.0.post some.0 v b action w after (done some.0 some.1)

  listed : Chose BackChoice → (line : ℕ) × (lines : List ℕ) × (v.pending.write_backs ≡ line ∷ lines)
  listed made = let some = (writes_back can.job v.slot can.core v b can.part can.bus can.own made).1 in
      (some.0, some.1, ap (λ (k : CoreState). k.write_backs) (sym (core can.job v.slot can.core v b can.part can.bus can.own)) ∙ some.2)

  pub done : (choice : Choice) → Chose choice → Does choice v b action w after → IsDone v b action w after
  done IdleChoice made does = record {
    acted = λ job slot c p q. renamed_acted job slot c action Idle w v after (side_idle b) does.0 does.1 does.2
        (idle_acted job slot c v b p q (owner_is job slot c v b can p) made);
    keeps = ap (λ (u : State). u.keeps) does.1;
    bus_keeps = ap (λ (s : BusSide). s.keeps) does.2;
  }
  done RequestChoice made does = record {
    acted = λ job slot c p q. request_acted job slot c v b p q (owner_is job slot c v b can p) made action w after does;
    keeps = (request_keeps made does).0;
    bus_keeps = (request_keeps made does).1;
  }
  done BackChoice made does = let some = listed made in let backs = does some.0 some.1 some.2 in record {
    acted = λ job slot c p q. back_acted job slot c v b p q (owner_is job slot c v b can p) made action w after does;
    keeps = ap (λ (u : State). u.keeps) backs.core;
    bus_keeps = ap (λ (s : BusSide). s.keeps) backs.side;
  }

-- an action, a state and a bus by other names
pub does_as : (choice : Choice) (v : State) (b : BusSide) (action a : Action) (w u : State) (after m : BusSide) → action ≡ a → w ≡ u → after ≡ m
    → Does choice v b a u m → Does choice v b action w after
does_as choice v b action a w u after m what core bus does = subst (λ (x : Action). Does choice v b x w after) (sym what)
    (subst (λ (x : State). Does choice v b a x after) (sym core) (subst (λ (x : BusSide). Does choice v b a u x) (sym bus) does))

-- the next slot is one of the job
pub slot_fits : (v : State) (b : BusSide) (action : Action) (w : State) (after : BusSide) → CanAct v b → IsDone v b action w after → w.slot + 1 < 2 ^ 32
slot_fits v b action w after can d = let a = d.acted can.job v.slot can.core can.part can.bus in
    let now = a.core.in_slot.now in let within = a.core.in_slot.within in let most = a.core.in_slot.stands.carries.within.shape.slots in omega arith
