-- A core that posts a request stands for what the post leaves, and where the request is filled at once for what the fill leaves.
use Rattle.std.proofs.Common.{◌≡◌, ◌≢◌, ℕ, ◌+◌, ◌<◌, ◌≤◌, List, [], ◌∷◌, ◌++◌, length, Option, Some, None, is_some, true, if◌then◌else◌, refl, sym, ap, ◌∙◌, subst, arith}
use Rattle.std.specs.Option.{option_map}
use Rattle.pmsi_model.specs.declared.Kind.{Kind}
use Rattle.pmsi_model.specs.declared.Kind.TheVariants.{Read, Write}
use Rattle.pmsi_model.specs.declared.Mode.{Mode}
use Rattle.pmsi_model.specs.declared.Mode.TheVariants.{Modified}
use Rattle.pmsi_model.specs.declared.State.{State as LineName}
use Rattle.pmsi_model.specs.declared.Want.{Want}
use Rattle.pmsi_model.specs.Job.{JobValue}
use Rattle.pmsi_model.specs.Machine.{Machine, CoreState, Request, mode_in, mode_of, first_of, nobody_owns, request_of}
use Rattle.pmsi_model.specs.Named.{state_in}
use Rattle.pmsi_model.specs.Phase.{met_bytes}
use Rattle.pmsi_model.specs.Bus.{fill, post, post_at}
use Rattle.pmsi_model.specs.Coherent.{posted_request}
use Rattle.pmsi_model.proofs.Changes.{post-memory, post-own, post-posted, posted_core}
use Rattle.coherence_laws.proofs.Exports.{backs_fit, post_whole, IsAsked, IsWhole}
use Rattle.cache_ctrl.specs.declared.Duty.{Duty}
use Rattle.cache_ctrl.specs.declared.Duty.TheVariants.{Nothing}
use Rattle.cache_ctrl.specs.declared.Event.TheVariants.{OwnFill}
use Rattle.cache_ctrl.specs.Duties.{own_event}
use Rattle.cache_ctrl.proofs.Exports.{own_posts, own_posts_else, want_request}
use Rattle.cache_array.specs.Cache.{held_of}
use Rattle.rv_exec.specs.Accesses.{covered}
use Rattle.core_unit.specs.declared.state.State.{State}
use Rattle.core_unit.specs.Changes.{CanChange, CanDo, changed_by, duty_in, next_for}
use Rattle.core_unit.specs.State.{asked, core_of, met_among, served, turned, with_want}
use Rattle.core_unit.specs.Stands.{Carries, IsWantOf, KnowsStates}
use Rattle.core_unit.proofs.ActsCopies.{AreWords}
use Rattle.core_unit.proofs.ActsFills.{IsServable, fill_changes, fill_served, met_now}
use Rattle.core_unit.proofs.Carried.{relined}
use Rattle.core_unit.proofs.Changed.{changed_listed, duty_agree, entry_of, knows_changed, some_comes, states_room}
use Rattle.core_unit.proofs.Snoops.{IsCoreIn}
use Rattle.core_unit.proofs.Sides.{asked_at}

-- ---- a want when its request is posted

pub posted_want : (job : JobValue) (slot : ℕ) (o : Option Want) → ((want : Want) → o ≡ Some want → IsWantOf job want) → (want : Want) → option_map (post_at slot) o ≡ Some want → IsWantOf job want
posted_want job slot None old want is = absurd (grind arith)
posted_want job slot (Some w) old want is = let a = old w refl in let same : post_at slot w ≡ want = grind arith in
    subst (IsWantOf job) same (record { access = a.access; line = a.line; kind = a.kind })

-- a wanted line isn't owned
unowned_by : (kind : Kind) (mode : Option Mode) → (kind ≡ Read → mode ≡ None) → (kind ≡ Write → mode ≢ Some Modified) → mode ≢ Some Modified
unowned_by Read mode read write owned = let none = read refl in absurd cc
unowned_by Write mode read write owned = write refl owned

-- ---- the post

-- a core's request that isn't posted, and can be
pub record IsPostable (job : JobValue) (y : Machine) (c : ℕ) (want : Want) (v : State) : Type 0 where
  pub whole : IsWhole job.shape (y.slot + 1) y.posted y.cores
  pub core_in : IsCoreIn job c y v
  pub now : v.slot ≡ y.slot
  pub below : c < job.shape.cores
  pub wants : (y.cores c).want ≡ Some want
  pub unposted : want.post ≡ None
  pub free : want.victim ≡ None
  pub asked : IsAsked job.shape want

module _ (job : JobValue) (y : Machine) (c : ℕ) (want : Want) (v : State) (p : IsPostable job y c want v) where
  pub wanted_unowned : mode_in y c want.line ≢ Some Modified
  wanted_unowned = let f = (p.whole.fine c).want_fine want p.wants in unowned_by want.kind (mode_in y c want.line) f.read_unheld f.write_unowned

  wants : v.pending.want ≡ Some want
  wants = ap (λ (k : CoreState). k.want) (sym p.core_in.stands.core) ∙ p.wants

  no_request : request_of c y.posted ≡ None
  no_request = (p.whole.fine c).posted_wants ∙ ap (posted_request c) p.wants
      ∙ ap (λ (o : Option ℕ). if is_some o then Some (record { core = c; line = want.line; kind = want.kind }) else None) p.unposted

  unheld : want.kind ≡ Read → mode_of want.line (held_of v.cache.lines) ≡ None
  unheld reads = ap (λ (k : CoreState). mode_of want.line k.held) (sym p.core_in.stands.core) ∙ ((p.whole.fine c).want_fine want p.wants).read_unheld reads

  unowned : mode_of want.line (held_of v.cache.lines) ≢ Some Modified
  unowned owned = wanted_unowned (ap (λ (k : CoreState). mode_of want.line k.held) p.core_in.stands.core ∙ owned)

  entry : next_for (own_event want.kind) want.line v
      ≡ Some (state_in (y.posted ++ want_request c want ∷ []) c (posted_core v.slot (core_of v)) want.line, Nothing)
  entry = entry_of (own_event want.kind) want.line y.posted c v (state_in (y.posted ++ want_request c want ∷ []) c (posted_core v.slot (core_of v)) want.line, Nothing)
      p.core_in.knows (own_posts y.posted c v.slot (core_of v) want no_request wants unheld unowned)

  -- the post of the request changes the state of its line
  pub post_changes : CanChange (own_event want.kind) want.line v
  post_changes = record {
    comes = some_comes (next_for (own_event want.kind) want.line v) (state_in (y.posted ++ want_request c want ∷ []) c (posted_core v.slot (core_of v)) want.line, Nothing) entry;
    room = states_room y.posted c v p.core_in.knows
        (let most = subst (λ (k : CoreState). length k.write_backs ≤ job.shape.cores) p.core_in.stands.core (backs_fit job.shape (y.slot + 1) y.posted y.cores c p.whole) in
        let few = p.core_in.stands.carries.within.shape.cores in omega arith);
    duty = subst (λ (o : Option (LineName × Duty)). CanDo (duty_in o) want.line v) (sym entry) tt;
  }

  asked_core : core_of (asked want v) ≡ posted_core v.slot (core_of v)
  asked_core = ap (λ (o : Option (LineName × Duty)). let u : State = turned (with_want (option_map (post_at v.slot) v.pending.want) (changed_by o want.line v)) in core_of u) entry

  knows_asked : KnowsStates (y.posted ++ want_request c want ∷ []) c (asked want v)
  knows_asked = knows_changed y.posted (y.posted ++ want_request c want ∷ []) c v (asked want v) want.line (posted_core v.slot (core_of v)) p.core_in.knows asked_core
      (changed_listed (own_event want.kind) want.line v (state_in (y.posted ++ want_request c want ∷ []) c (posted_core v.slot (core_of v)) want.line) Nothing entry)
      (λ l away. own_posts_else y.posted c v.slot (core_of v) want l no_request away)
      (λ l away. refl)

  pub post_asked : IsCoreIn job c (post y c want.kind want.line) (asked want v)
  post_asked = record {
    stands = record {
      carries = subst (λ (memory : List ℕ). Carries job c memory (asked want v)) (sym (post-memory y c want.kind want.line))
          (relined job c y.memory v (asked want v) p.core_in.stands.carries refl
          (duty_agree job y.memory (duty_in (next_for (own_event want.kind) want.line v)) want.line v.cache.lines p.core_in.stands.carries.agree)
          (posted_want job v.slot v.pending.want p.core_in.stands.carries.want));
      core = post-own y c want.kind want.line ∙ ap (posted_core y.slot) p.core_in.stands.core ∙ ap (λ (slot : ℕ). posted_core slot (core_of v)) (sym p.now) ∙ sym asked_core;
    };
    knows = subst (λ (posted : List Request). KnowsStates posted c (asked want v)) (sym (post-posted y c want.kind want.line)) knows_asked;
  }

  -- ---- the request is filled at once

  pub posted_whole : IsWhole job.shape (y.slot + 1) (post y c want.kind want.line).posted (post y c want.kind want.line).cores
  posted_whole = post_whole job.shape y c want p.whole p.below p.wants p.unposted p.free

  module _ (words : List ℕ) (first : first_of want.line (post y c want.kind want.line).posted ≡ Some c)
      (nobody : nobody_owns (post y c want.kind want.line) job.shape.cores want.line ≡ true) (read : AreWords job.shape.line_words y.memory want.line words) where
    pub posted_servable : IsServable job (y.slot + 1) (post y c want.kind want.line) c (post_at y.slot want) words (asked want v)
    posted_servable = record {
      whole = posted_whole;
      core_in = post_asked;
      wants = ap (λ (k : CoreState). k.want) (post-own y c want.kind want.line) ∙ ap (option_map (post_at y.slot)) p.wants;
      posted = refl;
      asked = asked_at job.shape y.slot want p.asked;
      first = first;
      nobody = nobody;
      read = subst (λ (memory : List ℕ). AreWords job.shape.line_words memory want.line words) (sym (post-memory y c want.kind want.line)) read;
    }

    pub met_then : covered want.access (met_among v.shape want.access words) ≡ met_bytes want.access y.memory
    met_then = met_now job (y.slot + 1) (post y c want.kind want.line) c (post_at y.slot want) words (asked want v) posted_servable
        ∙ ap (met_bytes want.access) (post-memory y c want.kind want.line)

    pub post_served : (slot : ℕ) → IsCoreIn job c (fill (post y c want.kind want.line) c) (served want words slot (asked want v))
    post_served slot = fill_served job (y.slot + 1) (post y c want.kind want.line) c (post_at y.slot want) words (asked want v) posted_servable slot

    -- the state of the line can change once more
    pub filled_changes : length (asked want v).pending.write_backs < job.shape.cores → CanChange OwnFill want.line (asked want v)
    filled_changes room = fill_changes job (y.slot + 1) (post y c want.kind want.line) c (post_at y.slot want) words (asked want v) posted_servable room
