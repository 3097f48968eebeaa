-- A core that snoops another core's action stands for what the action leaves.
use Rattle.std.proofs.Common.{◌≡◌, ◌≢◌, ℕ, ◌+◌, ◌<◌, ◌≤◌, List, [], ◌∷◌, ◌++◌, length, length-append, Option, Some, None, is_some, Bool, true, false, refl, sym, ap, ◌∙◌, subst, arith}
use Rattle.std.specs.Option.{option_map}
use Rattle.pmsi_model.specs.declared.Action.{Action}
use Rattle.pmsi_model.specs.declared.Action.TheVariants.{Idle, Post, Fill, PostFill}
use Rattle.pmsi_model.specs.declared.Kind.{Kind}
use Rattle.pmsi_model.specs.declared.Kind.TheVariants.{Read, Write}
use Rattle.pmsi_model.specs.declared.Mode.{Mode}
use Rattle.pmsi_model.specs.declared.State.{State as LineName}
use Rattle.pmsi_model.specs.declared.Mode.TheVariants.{Shared, Modified}
use Rattle.pmsi_model.specs.declared.Want.{Want}
use Rattle.pmsi_model.specs.Job.{JobValue}
use Rattle.pmsi_model.specs.Machine.{Machine, CoreState, Request, append_once, first_of, has_line, has_write, mode_in, mode_of, nobody_owns, removed, request_of}
use Rattle.pmsi_model.specs.Named.{state_in}
use Rattle.pmsi_model.specs.Phase.{context_of, memory_after}
use Rattle.pmsi_model.specs.Bus.{action_of, after_action, back_action, can_request_for, fill, filled_line, is_served, kind_of_name, name_of, noted_post, post, post_action, post_at, request_action, requests_now, write_back, keeps_line}
use Rattle.pmsi_model.proofs.Cases.{by_test}
use Rattle.pmsi_model.proofs.Changes.{fill-memory, fill-other, fill-own, fill-posted, noted-backs, noted-mode, post-memory, post-other, post-own, post-posted, write_back-other}
use Rattle.pmsi_model.proofs.Held.{mode_to_front}
use Rattle.coherence_laws.specs.Apart.{line_bytes_in}
use Rattle.coherence_laws.proofs.Exports.{fill_whole, post_whole, line_after_other, access_memory, IsAsked, backs_fit, kind_named, nobody_at_all, post_fill_whole, unposted_now, IsWhole}
use Rattle.pmsi_model.proofs.Accesses.{IsFit, read_after}
use Rattle.cache_ctrl.specs.declared.Duty.{Duty}
use Rattle.cache_ctrl.specs.Duties.{other_duty, other_event}
use Rattle.cache_ctrl.proofs.Exports.{IsSettled, noted_done, other_fills, other_posts, other_posts_else}
use Rattle.cache_array.specs.Cache.{held_of}
use Rattle.core_unit.specs.declared.state.State.{State}
use Rattle.core_unit.specs.Changes.{CanDo, duty_in, next_for}
use Rattle.core_unit.specs.State.{core_of, snooped_request, snooped}
use Rattle.core_unit.specs.Stands.{Carries, KnowsStates, StandsFor}
use Rattle.core_unit.specs.Snoops.{CanSnoopRequest, CanSnoopAction}
use Rattle.core_unit.proofs.Carried.{carries_along}
use Rattle.core_unit.proofs.Sides.{asked_at}
use Rattle.core_unit.proofs.Changed.{carries_changed, changed_core, changed_listed, entry_of, first_served, knows_changed, settled_in, some_comes, states_room}

-- a core in a machine, with what it knows of the states of its lines
pub record IsCoreIn (job : JobValue) (d : ℕ) (y : Machine) (v : State) : Type 0 where
  pub stands : StandsFor job d (context_of y d) v
  pub knows : KnowsStates y.posted d v

-- what the duty at another core's request needs
duty_room : (kind : Kind) (line : ℕ) (mode : Option Mode) (waits : Bool) (v : State) → mode_of line (held_of v.cache.lines) ≡ mode → has_line line v.pending.write_backs ≡ waits
    → (mode ≡ Some Modified → waits ≡ false → length v.pending.write_backs < v.pending.cores) → CanDo (other_duty kind mode waits) line v
duty_room kind line None waits v held listed room = tt
duty_room Read line (Some Shared) waits v held listed room = tt
duty_room Write line (Some Shared) waits v held listed room = λ none. absurd cc
duty_room kind line (Some Modified) true v held listed room = tt
duty_room kind line (Some Modified) false v held listed room = (listed, room refl refl)

module _ (job : JobValue) (s : ℕ) (y : Machine) (d : ℕ) (v : State) (w : IsWhole job.shape s y.posted y.cores) (h : IsCoreIn job d y v) where
  settled : IsSettled y.posted d (core_of v)
  settled = settled_in job.shape s y d (core_of v) w h.stands.core

  -- ---- a request is posted

  module _ (c : ℕ) (kind : Kind) (line : ℕ) (other : d ≢ c) where
    entry : next_for (other_event kind) line v ≡ Some (
      state_in (y.posted ++ record { core = c; line = line; kind = kind } ∷ []) d (noted_post kind line (core_of v)) line,
      other_duty kind (mode_of line (held_of v.cache.lines)) (has_line line v.pending.write_backs),
    )
    entry = let r : Request = record { core = c; line = line; kind = kind } in
        entry_of (other_event kind) line y.posted d v (
          state_in (y.posted ++ r ∷ []) d (noted_post kind line (core_of v)) line,
          other_duty kind (mode_of line (held_of v.cache.lines)) (has_line line v.pending.write_backs),
        ) h.knows
        (other_posts y.posted d (core_of v) r settled (λ same. other (sym same)))

    core_noted : core_of (snooped_request kind line v) ≡ noted_post kind line (core_of v)
    core_noted = changed_core (other_event kind) line v (state_in (y.posted ++ record { core = c; line = line; kind = kind } ∷ []) d (noted_post kind line (core_of v)) line)
        (other_duty kind (mode_of line (held_of v.cache.lines)) (has_line line v.pending.write_backs)) entry
        ∙ sym (noted_done kind line (core_of v))

    knows_noted : KnowsStates (y.posted ++ record { core = c; line = line; kind = kind } ∷ []) d (snooped_request kind line v)
    knows_noted = let r : Request = record { core = c; line = line; kind = kind } in
        knows_changed y.posted (y.posted ++ r ∷ []) d v (snooped_request kind line v) line (noted_post kind line (core_of v)) h.knows core_noted
        (changed_listed (other_event kind) line v (state_in (y.posted ++ r ∷ []) d (noted_post kind line (core_of v)) line)
        (other_duty kind (mode_of line (held_of v.cache.lines)) (has_line line v.pending.write_backs)) entry)
        (λ l away. other_posts_else y.posted d (core_of v) r l (λ same. other (sym same)) away)
        (λ l away. grind (arith, noted-mode kind line l (core_of v)))

    pub post_snooped : IsCoreIn job d (post y c kind line) (snooped_request kind line v)
    post_snooped = record {
      stands = record {
        carries = subst (λ (memory : List ℕ). Carries job d memory (snooped_request kind line v)) (sym (post-memory y c kind line))
            (carries_changed job d y.memory (next_for (other_event kind) line v) line v h.stands.carries);
        core = post-other y c d kind line other ∙ ap (noted_post kind line) h.stands.core ∙ sym core_noted;
      };
      knows = subst (λ (posted : List Request). KnowsStates posted d (snooped_request kind line v)) (sym (post-posted y c kind line)) knows_noted;
    }

  -- ---- a request is served: its core's access is on a line that this core doesn't own, nor hold if it is a write

  module _ (c : ℕ) (want : Want) (after : IsWhole job.shape s (fill y c).posted (fill y c).cores) (is : (y.cores c).want ≡ Some want) (posted : is_some want.post ≡ true)
      (asked : IsAsked job.shape want) (first : first_of want.line y.posted ≡ Some c) (nobody : nobody_owns y job.shape.cores want.line ≡ true) (other : d ≢ c) where
    fit : IsFit (length y.memory) want.access
    fit = subst (λ (n : ℕ). IsFit n want.access) (sym h.stands.carries.bytes) asked.fit

    core_stays : (fill y c).cores d ≡ core_of v
    core_stays = fill-other y c d other ∙ h.stands.core

    writer_owns : want.kind ≡ Write → mode_of want.line ((fill y c).cores c).held ≡ Some Modified
    writer_owns write = ap (λ (k : CoreState). mode_of want.line k.held) (fill-own y c want is)
        ∙ ap (λ (kind : Kind). mode_of want.line (filled_line kind (has_write want.line (removed c y.posted)) want.line (y.cores c).held)) write
        ∙ mode_to_front want.line want.line Modified (y.cores c).held ∙ grind arith

    written_unheld : want.kind ≡ Write → mode_of want.line (held_of v.cache.lines) ≡ None
    written_unheld write = ap (λ (k : CoreState). mode_of want.line k.held) (sym core_stays) ∙ after.alone c d want.line (writer_owns write) other

    held_stays : (kind : Kind) → want.kind ≡ kind → (line : ℕ) → mode_of line (held_of v.cache.lines) ≢ None
        → line_bytes_in job.shape line (memory_after want.access y.memory) ≡ line_bytes_in job.shape line y.memory
    held_stays Read reads line held = ap (line_bytes_in job.shape line) (read_after want.access y.memory fit (sym asked.kind ∙ reads))
    held_stays Write writes line held = line_after_other job.shape want.access y.memory (let least = h.stands.carries.within.shape.least_line in omega arith) fit line
        (λ same. held (ap (λ (l : ℕ). mode_of l (held_of v.cache.lines)) (same ∙ sym asked.line) ∙ written_unheld writes))

    abbrev request : Request
    request = record { core = c; line = want.line; kind = want.kind }

    requested : request_of c y.posted ≡ Some request
    requested = let f = (w.fine c).posted_wants in grind arith

    unowned : mode_of want.line (held_of v.cache.lines) ≢ Some Modified
    unowned owned = nobody_at_all job.shape s y want.line w nobody d (ap (λ (k : CoreState). mode_of want.line k.held) h.stands.core ∙ owned)

    pub fill_snooped : IsCoreIn job d (fill y c) v
    fill_snooped = record {
      stands = record {
        carries = subst (λ (memory : List ℕ). Carries job d memory v) (sym (fill-memory y c want is))
            (carries_along job d y.memory (memory_after want.access y.memory) v
            (access_memory job want.access y.memory (record { size = h.stands.carries.bytes; bytes = h.stands.carries.small }))
            (held_stays want.kind refl) h.stands.carries);
        core = core_stays;
      };
      knows = subst (λ (posted : List Request). KnowsStates posted d v) (sym (fill-posted y c want is)) (record {
        names = λ line. h.knows.names line
            ∙ sym (other_fills y.posted d c (core_of v) line request w.once (λ same. other (sym same)) requested first unowned);
        once = h.knows.once;
      });
    }

  -- ---- a line is written back

  pub back_snooped : (c line : ℕ) (kept : Bool) → d ≢ c → IsCoreIn job d (write_back y c line kept) v
  unfolding write_back
  back_snooped c line kept other = record {
    stands = record { carries = h.stands.carries; core = write_back-other y c line kept d other ∙ h.stands.core };
    knows = h.knows;
  }

  -- ---- room for what the core learns

  module _ (c : ℕ) (kind : Kind) (line : ℕ) (after : IsWhole job.shape s (post y c kind line).posted (post y c kind line).cores) (other : d ≢ c) where
    listed_after : mode_of line (held_of v.cache.lines) ≡ Some Modified → ((post y c kind line).cores d).write_backs ≡ append_once line v.pending.write_backs
    listed_after owned = ap (λ (k : CoreState). k.write_backs) (post-other y c d kind line other) ∙ ap (λ (k : CoreState). (noted_post kind line k).write_backs) h.stands.core
        ∙ noted-backs kind line (core_of v) ∙ grind arith

    fits : mode_of line (held_of v.cache.lines) ≡ Some Modified → length (append_once line v.pending.write_backs) ≤ job.shape.cores
    fits owned = subst (λ (lines : List ℕ). length lines ≤ job.shape.cores) (listed_after owned) (backs_fit job.shape s (post y c kind line).posted (post y c kind line).cores d after)

    pub can_snoop : CanSnoopRequest kind line v
    can_snoop = let same = h.stands.carries.cores in let few = h.stands.carries.within.shape.cores in
        let next = entry c kind line other in record {
          comes = some_comes (next_for (other_event kind) line v) (
            state_in (y.posted ++ record { core = c; line = line; kind = kind } ∷ []) d (noted_post kind line (core_of v)) line,
            other_duty kind (mode_of line (held_of v.cache.lines)) (has_line line v.pending.write_backs),
          ) next;
          room = states_room y.posted d v h.knows
              (let most = subst (λ (k : CoreState). length k.write_backs ≤ job.shape.cores) h.stands.core (backs_fit job.shape s y.posted y.cores d w) in omega arith);
          duty = subst (λ (o : Option (LineName × Duty)). CanDo (duty_in o) line v) (sym next)
              (duty_room kind line (mode_of line (held_of v.cache.lines)) (has_line line v.pending.write_backs) v refl refl
              (λ owned new. (let most = fits owned in
              let count : length (append_once line v.pending.write_backs) ≡ length v.pending.write_backs + 1 = grind (arith, length-append v.pending.write_backs (line ∷ [])) in omega arith)));
        }

-- ---- the action of the slot's owner

-- there is room for what the core learns, and then it stands for what the action leaves
pub record IsActionSnooped (job : JobValue) (y : Machine) (c d : ℕ) (v : State) (action : Action) : Type 0 where
  pub room : CanSnoopAction action v
  pub core_in : IsCoreIn job d (after_action y c action) (snooped action v)

module _ (job : JobValue) (y : Machine) (c d : ℕ) (v : State) (w : IsWhole job.shape (y.slot + 1) y.posted y.cores) (below : c < job.shape.cores) (other : d ≢ c)
    (asked : (want : Want) → (y.cores c).want ≡ Some want → IsAsked job.shape want) (h : IsCoreIn job d y v) where
  idle_snooped : IsActionSnooped job y c d v Idle
  unfolding after_action
  idle_snooped = record { room = tt; core_in = h }

  back_action_snooped : (lines : List ℕ) → IsActionSnooped job y c d v (back_action y c lines)
  unfolding after_action
  back_action_snooped [] = idle_snooped
  back_action_snooped (line ∷ lines) = record { room = tt; core_in = back_snooped job (y.slot + 1) y d v w h c line (keeps_line y c line) other }

  module _ (want : Want) (is : (y.cores c).want ≡ Some want) (now : requests_now job y c ≡ true) where
    can : can_request_for job y c (Some want) ≡ true
    can = subst (λ (o : Option Want). can_request_for job y c o ≡ true) is (grind arith)

    fill_action_snooped : is_some want.post ≡ true → IsActionSnooped job y c d v (Fill want.line)
    unfolding after_action
    fill_action_snooped posted = record {
      room = tt;
      core_in = fill_snooped job (y.slot + 1) y d v w h c want
          (fill_whole job.shape (y.slot + 1) y c want w below is posted (nobody_at_all job.shape (y.slot + 1) y want.line w (let can = can in grind arith)))
          is posted (asked want is) (first_served c (first_of want.line y.posted) (nobody_owns y job.shape.cores want.line) (let can = can in grind arith))
          (let can = can in grind arith) other;
    }

    module _ (unposted : is_some want.post ≡ false) where
      named : kind_of_name (name_of want.kind (mode_in y c want.line)) ≡ want.kind
      named = kind_named want.kind (mode_in y c want.line)

      free : want.victim ≡ None
      free = unposted_now job y c want is unposted now

      posted_whole : IsWhole job.shape (y.slot + 1) (post y c want.kind want.line).posted (post y c want.kind want.line).cores
      posted_whole = post_whole job.shape y c want w below is (grind arith) free

      request_room : CanSnoopRequest want.kind want.line v
      request_room = can_snoop job (y.slot + 1) y d v w h c want.kind want.line posted_whole other

      request_snooped : IsCoreIn job d (post y c want.kind want.line) (snooped_request want.kind want.line v)
      request_snooped = post_snooped job (y.slot + 1) y d v w h c want.kind want.line other

      waits_snooped : IsActionSnooped job y c d v (Post (name_of want.kind (mode_in y c want.line)) want.line)
      unfolding after_action
      waits_snooped = record {
        room = subst (λ (kind : Kind). CanSnoopRequest kind want.line v) (sym named) request_room;
        core_in = subst (λ (kind : Kind). IsCoreIn job d (post y c kind want.line) (snooped_request kind want.line v)) (sym named) request_snooped;
      }

      posted_want : ((post y c want.kind want.line).cores c).want ≡ Some (post_at y.slot want)
      posted_want = ap (λ (k : CoreState). k.want) (post-own y c want.kind want.line) ∙ ap (option_map (post_at y.slot)) is

      served_snooped : is_served job (post y c want.kind want.line) c want.line ≡ true → IsActionSnooped job y c d v (PostFill (name_of want.kind (mode_in y c want.line)) want.line)
      unfolding after_action
      served_snooped served = let nobody : nobody_owns (post y c want.kind want.line) job.shape.cores want.line ≡ true = grind arith in record {
        room = subst (λ (kind : Kind). CanSnoopRequest kind want.line v) (sym named) request_room;
        core_in = subst (λ (kind : Kind). IsCoreIn job d (fill (post y c kind want.line) c) (snooped_request kind want.line v)) (sym named)
            (fill_snooped job (y.slot + 1) (post y c want.kind want.line) d (snooped_request want.kind want.line v) posted_whole request_snooped c (post_at y.slot want)
            (post_fill_whole job y c want w below is (grind arith) free nobody)
            posted_want refl (asked_at job.shape y.slot want (asked want is))
            (first_served c (first_of want.line (post y c want.kind want.line).posted) (nobody_owns (post y c want.kind want.line) job.shape.cores want.line) served)
            nobody other);
      }

      post_action_snooped : IsActionSnooped job y c d v (post_action job y c want)
      post_action_snooped = by_test (IsActionSnooped job y c d v) (is_served job (post y c want.kind want.line) c want.line)
          (PostFill (name_of want.kind (mode_in y c want.line)) want.line) (Post (name_of want.kind (mode_in y c want.line)) want.line)
          (λ served. served_snooped served) (λ waits. waits_snooped)

  request_action_snooped : (want : Option Want) → (y.cores c).want ≡ want → requests_now job y c ≡ true → IsActionSnooped job y c d v (request_action job y c want)
  request_action_snooped None is now = idle_snooped
  request_action_snooped (Some want) is now = by_test (IsActionSnooped job y c d v) (is_some want.post) (Fill want.line) (post_action job y c want)
      (λ posted. fill_action_snooped want is now posted) (λ unposted. post_action_snooped want is now unposted)

  pub action_snooped : IsActionSnooped job y c d v (action_of job y c)
  unfolding action_of
  action_snooped = by_test (IsActionSnooped job y c d v) (requests_now job y c) (request_action job y c (y.cores c).want) (back_action y c (y.cores c).write_backs)
      (λ now. request_action_snooped (y.cores c).want refl now) (λ later. back_action_snooped (y.cores c).write_backs)
