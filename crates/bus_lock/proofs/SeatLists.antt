-- Making a seat and joining one keep the rule; so does the table at the start, and at the end the bus lies in the slot.
use Rattle.std.proofs.Common.{◌≡◌, ◌≢◌, ℕ, zero, suc, ◌+◌, ◌<◌, ◌≤◌, List, [], ◌∷◌, ◌++◌, Bool, true, false, length, set, Some, refl, sym, ap, ◌∙◌, subst, ⊎_elim, arith}
use mathlib.Core.Option.{some, some-injective, some-ne-none}
use mathlib.Core.Logic.{dite}
use native.Mathlib.Decide.{ℕ_discrete}
use lib.ListN.{get_elem?}
use Rattle.atomic_table.specs.Table.{Splits, Joins, Final, Seen, opening}
use Rattle.atomic_table.proofs.Lists.{at_set, set_else, at_longer}
use Rattle.pmsi_model.specs.Job.{JobValue, IsJob}
use Rattle.pmsi_model.specs.Shared.{BusSide}
use Rattle.pmsi_model.proofs.Spreads.{start_fits}
use Rattle.bus_lock.specs.declared.about.About.{About}
use Rattle.bus_lock.specs.declared.view.View.{View}
use Rattle.bus_lock.specs.Rule.{Slot, Table, Knows, Kept, holds, fresh_view, one_more, new_seat, with_joined, spent_view, Opening, Ending}
use Rattle.turn_bus.specs.Sharing.{IsBusAt, Absent}
use Rattle.bus_lock.proofs.Views.{views_stay, was, own_stays, apart, at_end, AreApart}
use Rattle.bus_lock.proofs.LockReleases.{here, there}

-- ---- one more seat

module _ (id : ℕ) (v : View) (alive : v.spent ≡ false) (calm : v.holding ≡ false) (o : Opening v) (s : Table) (r : Kept v.job v.keeps s) (at : get_elem? s.views id ≡ some v) where
  root : Knows v.job v.keeps r.turn r.made r.joined v
  root = r.each id v at alive

  abbrev left : List View
  left = set s.views id (one_more v)

  made_is : v.made ≡ r.made
  made_is = (root.counts o.zero).0

  joined_is : v.joined ≡ r.joined
  joined_is = (root.counts o.zero).1

  -- all seats of before have lower numbers
  below : (j : ℕ) (x : View) → get_elem? left j ≡ some x → x.spent ≡ false → x.number < r.made
  below j x e live =
      let t = was s.views id v (one_more v) at refl refl j x e in
      subst (λ (n : ℕ). n < r.made) t.2 ((r.each j t.0 t.1 (t.3 ∙ live)).is_made)

  knows_old : (j : ℕ) (x : View) → get_elem? left j ≡ some x → x.spent ≡ false → Knows v.job v.keeps r.turn (r.made + 1) r.joined x
  knows_old j x e live = views_stay (λ j x. x.spent ≡ false → Knows v.job v.keeps r.turn (r.made + 1) r.joined x) s.views id (one_more v)
      (λ _. let k = root in let m : v.number < r.made = k.is_made in let n : v.made ≡ r.made = made_is in record {
        job_is = refl;
        keeps_is = refl;
        number = k.number;
        fits = k.fits;
        is_made = omega arith;
        is_left = k.is_left;
        counts = λ z. (omega arith, joined_is);
      })
      (λ k y other f l. let g = r.each k y f l in let m : y.number < r.made = g.is_made in record {
        job_is = g.job_is;
        keeps_is = g.keeps_is;
        number = g.number;
        fits = g.fits;
        is_made = omega arith;
        is_left = g.is_left;
        counts = λ z. absurd (other (r.own k id y v f at l alive (z ∙ sym o.zero)));
      }) j x e live

  knows_new : Knows v.job v.keeps r.turn (r.made + 1) r.joined (new_seat v)
  knows_new =
      let m : v.made ≡ r.made = made_is in
      let some : v.number < r.made = root.is_made in
      let gone : r.joined ≡ [] = sym joined_is ∙ o.none_joined in record {
        job_is = refl;
        keeps_is = refl;
        number = o.room;
        fits = r.unmade v.made (omega arith);
        is_made = omega arith;
        is_left = subst (Absent v.made) (sym gone) tt;
        counts = λ z. let first : v.made ≡ 0 = z in absurd (omega arith);
      }

  apart_more : AreApart (left ++ new_seat v ∷ [])
  apart_more j k x y e f live_x live_y same = let q : x.number ≡ y.number = same in ⊎_elim
      (λ (h : get_elem? left j ≡ some x). ⊎_elim
      (λ (i : get_elem? left k ≡ some y). own_stays s.views id v (one_more v) at refl refl r.own j k x y h i live_x live_y same)
      (λ (i : (k ≡ length left) × (new_seat v ≡ y)).
      let b : x.number < r.made = below j x h live_x in let n : v.made ≡ y.number = ap (λ (z : View). z.number) i.1 in let m = made_is in absurd (omega arith))
      (at_end left (new_seat v) y k f))
      (λ (h : (j ≡ length left) × (new_seat v ≡ x)). ⊎_elim
      (λ (i : get_elem? left k ≡ some y).
      let b : y.number < r.made = below k y i live_y in let n : v.made ≡ x.number = ap (λ (z : View). z.number) h.1 in let m = made_is in absurd (omega arith))
      (λ (i : (k ≡ length left) × (new_seat v ≡ y)). h.0 ∙ sym i.0)
      (at_end left (new_seat v) y k f))
      (at_end left (new_seat v) x j e)

  splits_at : Kept v.job v.keeps record { words = s.words; homes = s.homes; views = left ++ new_seat v ∷ [] }
  splits_at = record {
    turn = r.turn;
    made = r.made + 1;
    joined = r.joined;
    held = r.held;
    holder = r.holder;
    within = r.within;
    one_word = r.one_word;
    one_slot = r.one_slot;
    turn_within = r.turn_within;
    word = r.word;
    free = r.free;
    out = r.out;
    each = λ j x e live. ⊎_elim
        (λ (h : get_elem? left j ≡ some x). knows_old j x h live)
        (λ (h : (j ≡ length left) × (new_seat v ≡ x)). subst (Knows v.job v.keeps r.turn (r.made + 1) r.joined) h.1 knows_new)
        (at_end left (new_seat v) x j e);
    unmade = λ c from. r.unmade c (omega arith);
    own = apart_more;
    holds_one = λ j x e h. ⊎_elim
        (λ (i : get_elem? left j ≡ some x). views_stay (λ j x. x.holding ≡ true → (r.held ≡ true) × (j ≡ r.holder) × (x.at ≡ r.turn)) s.views id (one_more v)
        (λ q. r.holds_one id v at q) (λ k y _ f. r.holds_one k y f) j x i h)
        (λ (i : (j ≡ length left) × (new_seat v ≡ x)). let bad : false ≡ true = ap (λ (z : View). z.holding) i.1 ∙ h in cc)
        (at_end left (new_seat v) x j e);
    held_by = λ h. let b = r.held_by h in (
      b.0,
      at_longer left (new_seat v ∷ []) r.holder b.0 (set_else s.views id r.holder (one_more v) (apart s.views id r.holder v b.0 at b.1 calm b.2) ∙ b.1),
      b.2,
      b.3,
    );
  }

pub splits : (about : About) (id : ℕ) (v : View) → v.spent ≡ false → v.holding ≡ false → Opening v → Splits (holds about) id v (one_more v) (new_seat v)
splits about id v alive calm o s r at =
    there about s r id v at alive (λ j k. Kept j k record { words = s.words; homes = s.homes; views = set s.views id (one_more v) ++ new_seat v ∷ [] })
    (splits_at id v alive calm o s (here about s r id v at alive (λ j k. Kept j k s) r) at)

-- ---- a seat is joined into that of core 0, and neither holds the lock

pub record Closing (v w : View) : Type 0 where
  pub live : v.spent ≡ false
  pub idle : v.holding ≡ false
  pub zero : v.number ≡ 0
  pub other_live : w.spent ≡ false
  pub other_idle : w.holding ≡ false

module _ (id : ℕ) (v : View) (other : ℕ) (w : View) (c : Closing v w) (s : Table) (r : Kept v.job v.keeps s) (at : get_elem? s.views id ≡ some v) (far : other ≢ id) (there_is : get_elem? s.views other ≡ some w) where
  abbrev both : List View
  both = set s.views id (with_joined v w)

  unspent : (x : View) → spent_view ≡ x → x.spent ≡ false → ⊥
  unspent x e live = let bad : true ≡ false = ap (λ (z : View). z.spent) e ∙ live in cc

  knows_both : (j : ℕ) (x : View) → j ≢ other → get_elem? both j ≡ some x → x.spent ≡ false → Knows v.job v.keeps r.turn r.made (w.number ∷ r.joined) x
  knows_both j x differs e live = views_stay (λ j x. j ≢ other → x.spent ≡ false → Knows v.job v.keeps r.turn r.made (w.number ∷ r.joined) x) s.views id (with_joined v w)
      (λ _ _. let k = r.each id v at c.live in let n = k.counts c.zero in record {
        job_is = refl;
        keeps_is = refl;
        number = k.number;
        fits = k.fits;
        is_made = k.is_made;
        is_left = (λ same. far (sym (r.own id other v w at there_is c.live c.other_live same)), k.is_left);
        counts = λ z. (n.0, ap (λ l. w.number ∷ l) n.1);
      })
      (λ k y apart_id f not_other l. let g = r.each k y f l in record {
        job_is = g.job_is;
        keeps_is = g.keeps_is;
        number = g.number;
        fits = g.fits;
        is_made = g.is_made;
        is_left = (λ same. not_other (r.own k other y w f there_is l c.other_live same), g.is_left);
        counts = λ z. absurd (apart_id (r.own k id y v f at l c.live (z ∙ sym c.zero)));
      }) j x e differs live

  joins_at : Kept v.job v.keeps record { words = s.words; homes = s.homes; views = set both other spent_view }
  joins_at = record {
    turn = r.turn;
    made = r.made;
    joined = w.number ∷ r.joined;
    held = r.held;
    holder = r.holder;
    within = r.within;
    one_word = r.one_word;
    one_slot = r.one_slot;
    turn_within = r.turn_within;
    word = r.word;
    free = r.free;
    out = r.out;
    each = λ j x e live. ⊎_elim
        (λ (h : (j ≡ other) × (spent_view ≡ x)). absurd (unspent x h.1 live))
        (λ (h : (j ≢ other) × (get_elem? both j ≡ some x)). knows_both j x h.0 h.1 live)
        (at_set both other j spent_view x e);
    unmade = r.unmade;
    own = λ j k x y e f live_x live_y same. ⊎_elim
        (λ (h : (j ≡ other) × (spent_view ≡ x)). absurd (unspent x h.1 live_x))
        (λ (h : (j ≢ other) × (get_elem? both j ≡ some x)). ⊎_elim
        (λ (i : (k ≡ other) × (spent_view ≡ y)). absurd (unspent y i.1 live_y))
        (λ (i : (k ≢ other) × (get_elem? both k ≡ some y)). own_stays s.views id v (with_joined v w) at refl refl r.own j k x y h.1 i.1 live_x live_y same)
        (at_set both other k spent_view y f))
        (at_set both other j spent_view x e);
    holds_one = λ j x e h. ⊎_elim
        (λ (i : (j ≡ other) × (spent_view ≡ x)). let bad : false ≡ true = ap (λ (z : View). z.holding) i.1 ∙ h in cc)
        (λ (i : (j ≢ other) × (get_elem? both j ≡ some x)). views_stay (λ j x. x.holding ≡ true → (r.held ≡ true) × (j ≡ r.holder) × (x.at ≡ r.turn)) s.views id (with_joined v w)
        (λ q. r.holds_one id v at q) (λ k y _ f. r.holds_one k y f) j x i.1 h)
        (at_set both other j spent_view x e);
    held_by = λ h. let b = r.held_by h in (
      b.0,
      set_else both other r.holder spent_view (apart s.views other r.holder w b.0 there_is b.1 c.other_idle b.2)
          ∙ (set_else s.views id r.holder (with_joined v w) (apart s.views id r.holder v b.0 at b.1 c.idle b.2) ∙ b.1),
      b.2,
      b.3,
    );
  }

pub joins : (about : About) (id : ℕ) (v : View) (other : ℕ) (w : View) → Closing v w → Joins (holds about) id v other w (with_joined v w) spent_view
joins about id v other w c s r at far is =
    there about s r id v at c.live (λ j k. Kept j k record { words = s.words; homes = s.homes; views = set (set s.views id (with_joined v w)) other spent_view })
    (joins_at id v other w c s (here about s r id v at c.live (λ j k. Kept j k s) r) at far (sym (set_else s.views id other (with_joined v w) far) ∙ is))

-- ---- the end

abbrev IsHome : Table → View → Type 0
IsHome s v = (b : BusSide) × (get_elem? s.homes 0 ≡ some (some (Some b))) × IsBusAt v.job v.keeps v.job.shape.slots b

closes_at : (id : ℕ) (v : View) → v.spent ≡ false → v.holding ≡ false → Ending v → (s : Table) → (r : Kept v.job v.keeps s) → get_elem? s.views id ≡ some v →
    (b : Bool) → r.held ≡ b → IsHome s v
closes_at id v alive calm end s r at false e =
    let past : v.count ≤ r.turn = (r.each id v at alive).fits.past in
    let over : v.count ≡ v.job.shape.slots = end.over in
    let within : r.turn ≤ v.job.shape.slots = r.turn_within in
    let t : r.turn ≡ v.job.shape.slots = omega arith in
    let home = r.free e in
    (home.0, home.1, subst (λ n. IsBusAt v.job v.keeps n home.0) t home.2)
closes_at id v alive calm end s r at true e =
    let b = r.held_by e in
    let n = (r.each id v at alive).counts end.zero in
    let f = r.each r.holder b.0 b.1 b.3 in
    absurd (dite (ℕ_discrete b.0.number 0)
    (λ z. apart s.views id r.holder v b.0 at b.1 calm b.2 (r.own r.holder id b.0 v b.1 at b.3 alive (z ∙ sym end.zero)))
    (λ more. end.all_joined b.0.number (omega arith) (subst (λ (n : ℕ). b.0.number < n) (sym n.0) f.is_made) (subst (Absent b.0.number) (sym n.1) f.is_left)))

pub closes : (about : About) (id : ℕ) (v : View) (ws : List ℕ) (xs : List Slot) → v.spent ≡ false → v.holding ≡ false → Ending v → Final (Seen (holds about) id v) ws xs →
    (b : BusSide) × (get_elem? xs 0 ≡ some (Some b)) × IsBusAt v.job v.keeps v.job.shape.slots b
closes about id v ws xs alive calm end (s, seen, words, len, values) =
    let r : Kept v.job v.keeps s = here about s seen.0 id v seen.1 alive (λ j k. Kept j k s) seen.0 in
    let home = closes_at id v alive calm end s r seen.1 r.held refl in
    (home.0, values 0 _ home.1, home.2)

-- ---- the start

only : (a : View) (j : ℕ) (v : View) → get_elem? (a ∷ []) j ≡ some v → (j ≡ 0) × (a ≡ v)
only a zero v e = (refl, some-injective a v e)
only a (suc j) v e = absurd (some-ne-none v (sym e))

pub opens : (job : JobValue) (keep : Bool) (b : BusSide) → IsJob job → IsBusAt job keep 0 b → Kept job keep (opening (0 ∷ []) (Some b ∷ []) (fresh_view job keep 0 1))
opens job keep b ok bus = record {
  turn = 0;
  made = 1;
  joined = [];
  held = false;
  holder = 0;
  within = ok;
  one_word = refl;
  one_slot = refl;
  turn_within = omega arith;
  word = refl;
  free = λ _. (b, refl, bus);
  out = λ bad. let e : false ≡ true = bad in cc;
  each = λ j v e live. subst (λ (x : View). Knows job keep 0 1 [] x) (only (fresh_view job keep 0 1) j v e).1 record {
    job_is = refl;
    keeps_is = refl;
    number = ok.shape.some_cores;
    fits = start_fits job 0;
    is_made = omega arith;
    is_left = tt;
    counts = λ _. (refl, refl);
  };
  unmade = λ c _. start_fits job c;
  own = λ j k v w e f _ _ _. (only (fresh_view job keep 0 1) j v e).0 ∙ sym ((only (fresh_view job keep 0 1) k w f).0);
  holds_one = λ j v e h. let bad : false ≡ true = ap (λ (x : View). x.holding) (only (fresh_view job keep 0 1) j v e).1 ∙ h in cc;
  held_by = λ bad. let e : false ≡ true = bad in cc;
}
