-- What the service of a request needs: room in the cache, and among the lines to write back.
use Rattle.std.proofs.Common.{◌≡◌, ◌≢◌, ◌⊎◌, ℕ, ◌+◌, ◌*◌, ◌%◌, ◌<◌, ◌≤◌, List, [], ◌∷◌, length, length-append, Some, None, refl, sym, ap, ◌∙◌, subst, inl, inr, arith}
use Rattle.std.specs.Option.{option_map}
use Rattle.pmsi_model.specs.declared.job.Geometry.{Geometry}
use Rattle.pmsi_model.specs.declared.Want.{Want}
use Rattle.pmsi_model.specs.Access.{width_of}
use Rattle.pmsi_model.specs.Geometry.{IsGeometry}
use Rattle.pmsi_model.specs.Job.{JobValue}
use Rattle.pmsi_model.specs.Slots.{plan_of, owner_of_slot}
use Rattle.pmsi_model.specs.Machine.{Machine, CoreState, mode_of}
use Rattle.pmsi_model.specs.Phase.{set_lines}
use Rattle.pmsi_model.specs.Bus.{post_at}
use Rattle.pmsi_model.proofs.Encodings.{either}
use Rattle.coherence_laws.proofs.Exports.{backs_fewer, FineCore, IsWhole}
use Rattle.cache_ctrl.specs.declared.Duty.{Duty}
use Rattle.cache_ctrl.specs.declared.Duty.TheVariants.{Nothing, Append, DropCopy}
use Rattle.cache_ctrl.specs.declared.Event.TheVariants.{OwnFill}
use Rattle.cache_ctrl.specs.Duties.{backs_by}
use Rattle.cache_array.specs.declared.line.CachedLine.{CachedLine}
use Rattle.cache_array.specs.Cache.{Holds as IsHeld, held_of}
use Rattle.core_unit.specs.declared.state.State.{State}
use Rattle.core_unit.specs.Changes.{CanChange, duty_in, next_for}
use Rattle.core_unit.specs.State.{asked, core_of, served}
use Rattle.core_unit.specs.Stands.{CanServe}
use Rattle.core_unit.specs.Parts.{HasRows, HasTouches}
use Rattle.core_unit.proofs.ActsRows.{row_fits}
use Rattle.core_unit.proofs.ActsTouches.{touches_before, want_fits, want_retires}
use Rattle.core_unit.proofs.Snoops.{IsCoreIn}
use Rattle.core_unit.proofs.States.{asked_lines}

backs_grow : (duty : Duty) (line : ℕ) (lines : List ℕ) → length lines ≤ length (backs_by duty line lines)
backs_grow Nothing line lines = omega arith
backs_grow Append line lines = omega (arith, length-append lines (line ∷ []))
backs_grow DropCopy line lines = omega arith

-- once a request is served its core wants nothing, so there was room among its lines to write back
pub backs_room : (job : JobValue) (s c : ℕ) (z : Machine) (want : Want) (words : List ℕ) (post : ℕ) (v : State)
    → IsWhole job.shape s z.posted z.cores → c < job.shape.cores
    → IsCoreIn job c z (served want words post v) → length v.pending.write_backs < job.shape.cores
backs_room job s c z want words post v w below h =
    let duty : Duty = duty_in (next_for OwnFill want.line v) in
    let fewer : length (backs_by duty want.line v.pending.write_backs) < job.shape.cores =
    backs_fewer job.shape s z.posted z.cores c (core_of (served want words post v)) w
    (subst (λ (k : CoreState). FineCore job.shape s z.posted c k) h.stands.core (w.fine c)) below refl in
    let more = backs_grow duty want.line v.pending.write_backs in omega arith

-- a want that is served, of a core in an own slot
pub record IsNeeded (job : JobValue) (slot c : ℕ) (y : Machine) (want : Want) (words : List ℕ) (v : State) : Type 0 where
  pub whole : IsWhole job.shape (slot + 1) y.posted y.cores
  pub core_in : IsCoreIn job c y v
  pub own : owner_of_slot (plan_of job) slot ≡ c
  pub more : slot < job.shape.slots
  pub wants : (y.cores c).want ≡ Some want
  pub free : want.victim ≡ None
  pub aligned : want.access.address % width_of want.access.op ≡ 0
  pub count : length words ≡ job.shape.line_words
  pub rows : HasRows job slot c v
  pub touched : HasTouches job (touches_before job slot c) ((slot + 1) * job.shape.quantum) v

module _ (job : JobValue) (slot c : ℕ) (y : Machine) (want : Want) (words : List ℕ) (v : State) (n : IsNeeded job slot c y want words v) where
  shape : IsGeometry job.shape
  shape = n.core_in.stands.carries.within.shape

  wanted : v.pending.want ≡ Some want
  wanted = ap (λ (k : CoreState). k.want) (sym n.core_in.stands.core) ∙ n.wants

  fits : IsHeld want.line v.cache.lines ⊎ (length (set_lines v.shape want.line (held_of v.cache.lines)) < v.shape.ways)
  fits = subst (λ (g : Geometry). IsHeld want.line v.cache.lines ⊎ (length (set_lines g want.line (held_of v.cache.lines)) < g.ways))
      (sym n.core_in.stands.carries.shape)
      (subst (λ (k : CoreState). (mode_of want.line k.held ≢ None) ⊎ (length (set_lines job.shape want.line k.held) < job.shape.ways)) n.core_in.stands.core
      (either (λ held. inl held) (λ else_. either (λ few. inr few) (λ victim. absurd (victim n.free)) else_)
      ((n.whole.fine c).want_fine want n.wants).has_room))

  pub serves : CanChange OwnFill want.line v → CanServe want words v
  serves changes = record {
    takes = record {
      cache = n.core_in.stands.carries.cache ∙ sym n.core_in.stands.carries.shape;
      count = n.count ∙ ap (λ (g : Geometry). g.line_words) (sym n.core_in.stands.carries.shape);
      fits = fits;
      changes = changes;
    };
    shape = subst IsGeometry (sym n.core_in.stands.carries.shape) shape;
    aligned = n.aligned;
    retires = want_retires job slot (touches_before job slot c) v want n.core_in.stands.carries.within n.more wanted n.touched;
    rows = row_fits job slot c v v n.own n.rows n.more;
    touches = want_fits job slot (touches_before job slot c) v want n.core_in.stands.carries.within n.more wanted n.touched;
    wanted = (let is = wanted in λ none. absurd (grind arith));
  }

  asked_wants : option_map (post_at v.slot) v.pending.want ≢ None
  asked_wants none = let is : option_map (post_at v.slot) v.pending.want ≡ Some (post_at v.slot want) = ap (option_map (post_at v.slot)) wanted in
      absurd (grind arith)

  -- also once its request is posted
  pub serves_asked : CanChange OwnFill want.line (asked want v) → CanServe want words (asked want v)
  serves_asked changes = record {
    takes = record {
      cache = n.core_in.stands.carries.cache ∙ sym n.core_in.stands.carries.shape;
      count = n.count ∙ ap (λ (g : Geometry). g.line_words) (sym n.core_in.stands.carries.shape);
      fits = subst (λ (lines : List CachedLine). IsHeld want.line lines ⊎ (length (set_lines v.shape want.line (held_of lines)) < v.shape.ways)) (sym (asked_lines want v)) fits;
      changes = changes;
    };
    shape = subst IsGeometry (sym n.core_in.stands.carries.shape) shape;
    aligned = n.aligned;
    retires = want_retires job slot (touches_before job slot c) v want n.core_in.stands.carries.within n.more wanted n.touched;
    rows = row_fits job slot c v v n.own n.rows n.more;
    touches = want_fits job slot (touches_before job slot c) v want n.core_in.stands.carries.within n.more wanted n.touched;
    wanted = asked_wants;
  }
