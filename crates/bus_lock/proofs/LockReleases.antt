-- Giving the lock up keeps the rule, with the bus put back: once the seat's core and the bus have met, or as it was.
use Rattle.std.proofs.Common.{◌≡◌, ◌≢◌, ℕ, ◌+◌, ◌*◌, ◌<◌, List, [], ◌∷◌, Bool, true, false, length, set, Some, None, refl, sym, ap, ◌∙◌, subst, arith, length-set, get_or-set_same}
use mathlib.Core.Option.{some, none}
use lib.ListN.{get_elem?}
use Rattle.atomic_table.specs.Table.{step, gives, Allows, rest, put_back}
use Rattle.atomic_table.proofs.Lists.{set_here}
use Rattle.pmsi_model.specs.Job.{JobValue}
use Rattle.pmsi_model.specs.Shared.{BusSide}
use Rattle.pmsi_model.specs.Spreads.{Fits, IsMeet}
use Rattle.pmsi_model.proofs.Spreads.{meets_fit}
use Rattle.bus_lock.specs.declared.about.About.{About}
use Rattle.bus_lock.specs.declared.view.View.{View}
use Rattle.bus_lock.specs.Rule.{Slot, Table, Hand, Knows, Kept, holds, slot_over, declined, released, IsHolding}
use Rattle.turn_bus.specs.Sharing.{IsBusAt, Absent}
use Rattle.bus_lock.proofs.Views.{views_stay, own_stays}
use Rattle.bus_lock.proofs.LockTries.{Next}

-- what a seat that gives the lock up has done to the bus, and what it knows then
pub record Ends (me : Hand) (turn : ℕ) (b : BusSide) (w : View) : Type 0 where
  pub holding : me.0.holding ≡ true
  pub live : me.0.spent ≡ false
  pub carries : me.1 ≡ (0, Some b) ∷ []
  pub bus : IsBusAt me.0.job me.0.keeps turn b
  pub same_job : (w.job ≡ me.0.job) × (w.keeps ≡ me.0.keeps)
  pub same : (w.number ≡ me.0.number) × (w.spent ≡ me.0.spent) × (w.made ≡ me.0.made) × (w.joined ≡ me.0.joined)
  pub free : w.holding ≡ false
  pub fits : Fits me.0.job me.0.number w.count turn
  pub others : (d other : ℕ) → d ≢ me.0.number → Fits me.0.job d other me.0.at → Fits me.0.job d other turn

releases_at : (id : ℕ) (me : Hand) (new turn : ℕ) (b : BusSide) (w : View) → Ends me turn b w → new ≡ 2 * turn → (s : Table) →
    (r : Kept me.0.job me.0.keeps s) → get_elem? s.views id ≡ some me.0 → Next me.0.job me.0.keeps s new id me (λ found m'. m' ≡ (w, rest me.1))
releases_at id me new turn b w end is s r at =
    let one = r.holds_one id me.0 at end.holding in
    let now : me.0.at ≡ r.turn = one.2 in
    let k = r.each id me.0 at end.live in
    let one_word : length s.words ≡ 1 = r.one_word in
    let one_slot : length s.homes ≡ 1 = r.one_slot in
    let bus : Slot = Some b in
    let back : put_back s.homes me.1 ≡ set s.homes 0 (some bus) = ap (put_back s.homes) end.carries in
    let others : (d other : ℕ) → d ≢ me.0.number → Fits me.0.job d other r.turn → Fits me.0.job d other turn =
    (λ d other differs f. end.others d other differs (subst (λ (t : ℕ). Fits me.0.job d other t) (sym now) f)) in (
      w,
      gives,
      tt,
      record {
        turn = turn;
        made = r.made;
        joined = r.joined;
        held = false;
        holder = 0;
        within = r.within;
        one_word = length-set s.words 0 new ∙ one_word;
        one_slot = ap length back ∙ (length-set s.homes 0 (some bus) ∙ one_slot);
        turn_within = end.bus.0.within;
        word = get_or-set_same s.words 0 new 0 (omega arith) ∙ omega arith;
        free = λ _. (b, ap (λ l. get_elem? l 0) back ∙ set_here s.homes 0 (some bus) (omega arith), end.bus);
        out = λ bad. let e : false ≡ true = bad in cc;
        each = views_stay (λ j v. v.spent ≡ false → Knows me.0.job me.0.keeps turn r.made r.joined v) s.views id w
            (λ _. record {
              job_is = end.same_job.0;
              keeps_is = end.same_job.1;
              number = subst (λ (x : ℕ). x < me.0.job.shape.cores) (sym end.same.0) k.number;
              fits = subst (λ (x : ℕ). Fits me.0.job x w.count turn) (sym end.same.0) end.fits;
              is_made = subst (λ (x : ℕ). x < r.made) (sym end.same.0) k.is_made;
              is_left = subst (λ (x : ℕ). Absent x r.joined) (sym end.same.0) k.is_left;
              counts = λ z. let c = k.counts (sym end.same.0 ∙ z) in (end.same.2 ∙ c.0, end.same.3 ∙ c.1);
            })
            (λ j v other e live. let f = r.each j v e live in record {
              job_is = f.job_is;
              keeps_is = f.keeps_is;
              number = f.number;
              fits = others v.number v.count (λ same. other (r.own j id v me.0 e at live end.live same)) f.fits;
              is_made = f.is_made;
              is_left = f.is_left;
              counts = f.counts;
            });
        unmade = λ c from. let made : me.0.number < r.made = k.is_made in others c 0 (λ same. absurd (omega arith)) (r.unmade c from);
        own = own_stays s.views id me.0 w at end.same.0 end.same.1 r.own;
        holds_one = views_stay (λ j v. v.holding ≡ true → (false ≡ true) × (j ≡ 0) × (v.at ≡ turn)) s.views id w
            (λ h. let bad : false ≡ true = sym end.free ∙ h in cc)
            (λ j v other e h. let t = r.holds_one j v e h in absurd (other (t.1 ∙ sym one.1)));
        held_by = λ bad. let e : false ≡ true = bad in cc;
      },
      refl,
    )

-- a fact of the rule at the job of a view is one at the table's, and the other way round
module _ (about : About) (s : Table) (r : holds about s) (id : ℕ) (v : View) (at : get_elem? s.views id ≡ some v) (live : v.spent ≡ false) (P : JobValue → Bool → Type 0) where
  pub here : P about.job about.keeps → P v.job v.keeps
  here p = let k = r.each id v at live in subst (λ j. P j v.keeps) (sym k.job_is) (subst (P about.job) (sym k.keeps_is) p)

  pub there : P v.job v.keeps → P about.job about.keeps
  there p = let k = r.each id v at live in subst (P about.job) k.keeps_is (subst (λ j. P j v.keeps) k.job_is p)

releases : (about : About) (slots id : ℕ) (me : Hand) (new turn : ℕ) (b : BusSide) (w : View) → Ends me turn b w → new ≡ 2 * turn →
    Allows (holds about) slots id me 0 (λ _. new) (λ found m'. m' ≡ (w, rest me.1))
releases about slots id me new turn b w end is s r _ at _ =
    there about s r id me.0 at end.live (λ j k. Next j k s new id me (λ found m'. m' ≡ (w, rest me.1)))
    (releases_at id me new turn b w end is s (here about s r id me.0 at end.live (λ j k. Kept j k s) r) at)

-- ---- the seat as it is once the bus lies in its hand, to be put back

put_in : (m m' : Hand) (bus : BusSide) → m' ≡ (m.0, (0, Some bus) ∷ rest m.1) → m.1 ≡ (0, None) ∷ [] → m' ≡ (m.0, (0, Some bus) ∷ [])
put_in m m' bus e empty = e ∙ ap (λ (l : List (ℕ × Slot)). let h : Hand = (m.0, (0, Some bus) ∷ rest l) in h) empty

pub ends_slot : (about : About) (slots id : ℕ) (m m' : Hand) (bus : BusSide) (next new : ℕ) → m' ≡ (m.0, (0, Some bus) ∷ rest m.1) →
    IsBusAt m.0.job m.0.keeps next bus → IsHolding m → Fits m.0.job m.0.number m.0.count m.0.at →
    IsMeet m.0.job m.0.number m.0.count m.0.at (m.0.count + 1) next → new ≡ 2 * next →
    Allows (holds about) slots id m' 0 (λ _. new) (released slot_over (step slots 0 new 0 none) m')
ends_slot about slots id m m' bus next new e is seat fits meet word =
    let hand : Hand = (m.0, (0, Some bus) ∷ []) in
    let same : m' ≡ hand = put_in m m' bus e seat.2 in
    let fit = meets_fit m.0.job m.0.number m.0.count m.0.at (m.0.count + 1) next fits meet in
    let end : Ends hand next bus (slot_over m.0) = record {
      holding = seat.0;
      live = seat.1;
      carries = refl;
      bus = is;
      same_job = (refl, refl);
      same = (refl, refl, refl, refl);
      free = refl;
      fits = fit.0;
      others = fit.1;
    } in
    subst (λ (h : Hand). Allows (holds about) slots id h 0 (λ _. new) (released slot_over (step slots 0 new 0 none) h)) (sym same)
    (releases about slots id hand new next bus (slot_over m.0) end word)

pub declines : (about : About) (slots id : ℕ) (m m' : Hand) (bus : BusSide) (turn new : ℕ) → m' ≡ (m.0, (0, Some bus) ∷ rest m.1) →
    IsBusAt m.0.job m.0.keeps turn bus → IsHolding m → Fits m.0.job m.0.number m.0.count m.0.at → m.0.at ≡ turn → new ≡ 2 * turn →
    Allows (holds about) slots id m' 0 (λ _. new) (released declined (step slots 0 new 0 none) m')
declines about slots id m m' bus turn new e is seat fits now word =
    let hand : Hand = (m.0, (0, Some bus) ∷ []) in
    let same : m' ≡ hand = put_in m m' bus e seat.2 in
    let end : Ends hand turn bus (declined m.0) = record {
      holding = seat.0;
      live = seat.1;
      carries = refl;
      bus = is;
      same_job = (refl, refl);
      same = (refl, refl, refl, refl);
      free = refl;
      fits = subst (λ (t : ℕ). Fits m.0.job m.0.number m.0.count t) now fits;
      others = λ d other _ f. subst (λ (t : ℕ). Fits m.0.job d other t) now f;
    } in
    subst (λ (h : Hand). Allows (holds about) slots id h 0 (λ _. new) (released declined (step slots 0 new 0 none) h)) (sym same)
    (releases about slots id hand new turn bus (declined m.0) end word)

pub given_back : (m m' m'' : Hand) (bus : BusSide) (after : View → View) → m' ≡ (m.0, (0, Some bus) ∷ rest m.1) → m'' ≡ (after m'.0, rest m'.1) →
    m.1 ≡ (0, None) ∷ [] → m'' ≡ (after m.0, [])
given_back m m' m'' bus after e f empty =
    f
    ∙ (ap (λ (h : Hand). let x : Hand = (after h.0, rest h.1) in x) e
    ∙ ap (λ (l : List (ℕ × Slot)). let x : Hand = (after m.0, rest l) in x) empty)
