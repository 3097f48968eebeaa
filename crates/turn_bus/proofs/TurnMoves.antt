-- What a step of one seat leaves of the rule's facts on all seats.
use Rattle.std.proofs.Common.{◌≡◌, ◌≢◌, ℕ, ◌+◌, ◌-◌, ◌<◌, ◌≤◌, List, Bool, true, false, set, slice_index, sym, ◌∙◌, subst, arith}
use mathlib.Core.Option.{some}
use lib.ListN.{get_elem?}
use lib.Seq.{set-get_or}
use Rattle.atomic_table.specs.Table.{stepped, Act, Valid, carried_after}
use Rattle.atomic_table.proofs.Lists.{set_else}
use Rattle.pmsi_model.specs.Job.{JobValue}
use Rattle.pmsi_model.specs.Slots.{plan_of, gap_of, distance}
use Rattle.pmsi_model.specs.Spreads.{Fits}
use Rattle.pmsi_model.proofs.Distances.{distance_some}
use Rattle.slot_plan.proofs.Exports.{next_at_distance}
use Rattle.turn_bus.specs.declared.about.About.{About}
use Rattle.turn_bus.specs.declared.view.View.{View}
use Rattle.turn_bus.specs.Rule.{Slot, Table, Hand, Knows, Holds, Kept, holds}
use Rattle.turn_bus.specs.Sharing.{Absent}
use Rattle.turn_bus.proofs.Views.{views_stay, own_stays, apart}

-- the bus comes less than a gap past a core that it fits, so the ring still has the record of the core's slot
pub soon : (job : JobValue) (c count turn : ℕ) → c < job.shape.cores → Fits job c count turn → turn < count + gap_of (plan_of job)
soon job c count turn below fits =
    let some : 1 ≤ distance (plan_of job) c count = distance_some (plan_of job) c count in
    let next = next_at_distance (plan_of job) c count (count + (distance (plan_of job) c count - 1)) below (omega arith) in
    let ahead : turn ≤ count + (distance (plan_of job) c count - 1) = fits.before (count + (distance (plan_of job) c count - 1)) next.not_below next.own in
    let less = next.soon in
    omega arith

-- a view that stays that of the same seat
pub record Same (v w : View) : Type 0 where
  pub job : w.job ≡ v.job
  pub keeps : w.keeps ≡ v.keeps
  pub number : w.number ≡ v.number
  pub spent : w.spent ≡ v.spent
  pub made : w.made ≡ v.made
  pub joined : w.joined ≡ v.joined

module _ (job : JobValue) (keep : Bool) where
  -- a step of the seat `id` on word `i` that writes this is allowed, and tells this
  abbrev pub Next : Table → ℕ → ℕ → ℕ → Hand → (ℕ → Hand → Type 0) → Type 0
  Next s i new id me then =
      (w : View) × (a : Act Slot) × Valid s.homes me.1 a × Kept job keep (stepped s i new id me.1 w a) × then (slice_index s.words i) (w, carried_after me.1 a)

  module _ (s : Table) (r : Kept job keep s) (id : ℕ) (v w : View) (at : get_elem? s.views id ≡ some v) (live : v.spent ≡ false) (same : Same v w) where
    -- each seat knows what it should, where the turn goes from the rule's to `turn`
    pub each_moved : (turn : ℕ) → r.turn ≤ turn → Fits job v.number w.count turn → w.seen ≤ turn →
        ((d other : ℕ) → d ≢ v.number → Fits job d other r.turn → Fits job d other turn) →
        (j : ℕ) (x : View) → get_elem? (set s.views id w) j ≡ some x → x.spent ≡ false → Knows job keep turn r.made r.joined x
    each_moved turn more fits seen others = views_stay (λ j x. x.spent ≡ false → Knows job keep turn r.made r.joined x) s.views id w
        (λ _. let k = r.each id v at live in record {
          job_is = same.job ∙ k.job_is;
          keeps_is = same.keeps ∙ k.keeps_is;
          number = subst (λ (n : ℕ). n < job.shape.cores) (sym same.number) k.number;
          fits = subst (λ (n : ℕ). Fits job n w.count turn) (sym same.number) fits;
          seen = seen;
          is_made = subst (λ (n : ℕ). n < r.made) (sym same.number) k.is_made;
          is_left = subst (λ (n : ℕ). Absent n r.joined) (sym same.number) k.is_left;
          counts = λ z. let c = k.counts (sym same.number ∙ z) in (same.made ∙ c.0, same.joined ∙ c.1);
        })
        (λ j x other e alive. let f = r.each j x e alive in let past : x.seen ≤ r.turn = f.seen in record {
          job_is = f.job_is;
          keeps_is = f.keeps_is;
          number = f.number;
          fits = others x.number x.count (λ n. other (r.own j id x v e at alive live n)) f.fits;
          seen = omega arith;
          is_made = f.is_made;
          is_left = f.is_left;
          counts = f.counts;
        })

    pub own_moved : (j k : ℕ) (x y : View) → get_elem? (set s.views id w) j ≡ some x → get_elem? (set s.views id w) k ≡ some y → x.spent ≡ false → y.spent ≡ false →
        x.number ≡ y.number → j ≡ k
    own_moved = own_stays s.views id v w at same.number same.spent r.own

    -- a load by a seat that doesn't have the bus: the words and the bus stay
    pub only_looks : v.holding ≡ false → w.holding ≡ false → Fits job v.number w.count r.turn → w.seen ≤ r.turn → (i : ℕ) →
        Kept job keep record { words = set s.words i (slice_index s.words i); homes = s.homes; views = set s.views id w }
    only_looks calm idle fits seen i = subst (λ (ws : List ℕ). Kept job keep record { words = ws; homes = s.homes; views = set s.views id w }) (sym (set-get_or s.words i 0)) record {
      turn = r.turn;
      made = r.made;
      joined = r.joined;
      held = r.held;
      holder = r.holder;
      within = r.within;
      ring = r.ring;
      one_slot = r.one_slot;
      turn_within = r.turn_within;
      word = r.word;
      records = r.records;
      free = r.free;
      each = each_moved r.turn (omega arith) fits seen (λ _ _ _ f. f);
      unmade = r.unmade;
      own = own_moved;
      holds_one = views_stay (λ j x. x.holding ≡ true → (r.held ≡ true) × (j ≡ r.holder) × Holds job r.turn s.words x) s.views id w
          (λ h. let bad : false ≡ true = sym idle ∙ h in cc)
          (λ j x _ e h. r.holds_one j x e h);
      held_by = λ h. let b = r.held_by h in (b.0, set_else s.views id r.holder w (apart s.views id r.holder v b.0 at b.1 calm b.2) ∙ b.1, b.2, b.3);
    }

-- a fact of the rule at the job of a view is one at the table's, and the other way round
module _ (about : About) (s : Table) (r : holds about s) (id : ℕ) (v : View) (at : get_elem? s.views id ≡ some v) (live : v.spent ≡ false) (P : JobValue → Bool → Type 0) where
  pub here : P about.job about.keeps → P v.job v.keeps
  here p = let k = r.each id v at live in subst (λ j. P j v.keeps) (sym k.job_is) (subst (P about.job) (sym k.keeps_is) p)

  pub there : P v.job v.keeps → P about.job about.keeps
  there p = let k = r.each id v at live in subst (P about.job) k.keeps_is (subst (λ j. P j v.keeps) k.job_is p)
