-- The owner of a slot stores its record and lets the turn go on, and the rule is kept.
use Rattle.std.proofs.Common.{◌≡◌, ◌≢◌, ℕ, ◌+◌, ◌%◌, ◌^◌, ◌<◌, ◌≤◌, List, [], ◌∷◌, Bool, true, false, length, set, slice_index, Some, None, if◌then◌else◌, refl, sym, ap, ◌∙◌, subst, arith, length-set, get_or-set_same, get_or-set_other}
use Rattle.std.proofs.lemmas.Nat.{mod_below}
use mathlib.Core.Option.{some, none}
use mathlib.Core.Logic.{dite}
use native.Mathlib.Decide.{ℕ_discrete}
use lib.ListN.{get_elem?}
use Rattle.atomic_table.specs.Table.{step, keeps, gives, Allows, rest, put_back}
use Rattle.atomic_table.proofs.Lists.{set_here, one_turn}
use Rattle.pmsi_model.specs.declared.limits.TheConstants.{MAX_SLOTS}
use Rattle.pmsi_model.specs.Job.{JobValue}
use Rattle.pmsi_model.specs.Slots.{plan_of, owner_of_slot, gap_of}
use Rattle.pmsi_model.specs.Run.{record_at}
use Rattle.pmsi_model.specs.Spreads.{Fits, IsMeet, is_own, turn_after}
use Rattle.pmsi_model.proofs.Spreads.{meets_fit}
use Rattle.turn_bus.specs.declared.about.About.{About}
use Rattle.turn_bus.specs.declared.view.View.{View}
use Rattle.turn_bus.specs.ActionNumbers.{IsNumberOf}
use Rattle.turn_bus.specs.Rule.{BusBox, Slot, Table, Hand, IsStored, Holds, Kept, holds, word_of_slot, has_stored, has_acted, stores, acted, IsHolding}
use Rattle.turn_bus.specs.Sharing.{IsBusAt}
use Rattle.turn_bus.proofs.Views.{views_stay, set_at}
use Rattle.turn_bus.proofs.TurnMoves.{Next, Same, soon, here, there, each_moved, own_moved}

-- the record of a slot less than a gap before the turn is in another word than that of the turn's slot
other_word : (job : JobValue) (j turn : ℕ) → 0 < gap_of (plan_of job) → j < turn → turn < j + gap_of (plan_of job) →
    word_of_slot (plan_of job) j ≢ word_of_slot (plan_of job) turn
other_word job j turn wide less near same =
    let gap : ℕ = gap_of (plan_of job) in
    let e : 1 + j % gap ≡ 1 + turn % gap = same in
    let one : j ≡ turn = one_turn j turn gap (omega arith) near (omega arith) in
    omega arith

-- the owner's Meet at its own slot
pub own_meet : (job : JobValue) (c count : ℕ) → count < job.shape.slots → owner_of_slot (plan_of job) count ≡ c →
    IsMeet job c count count (count + 1) (turn_after job c count count) × (turn_after job c count count ≡ count + 1)
own_meet job c count more own =
    let yes : is_own job c count ≡ true = grind arith in
    (record { more = more; free = rw yes refl; core = refl; bus = refl }, ap (λ (o : Bool). if o then count + 1 else count) yes)

module _ (s : Table) (id : ℕ) (me : Hand) (r : Kept me.0.job me.0.keeps s) (holding : me.0.holding ≡ true) (live : me.0.spent ≡ false) (at : get_elem? s.views id ≡ some me.0) where
  held : Holds me.0.job r.turn s.words me.0
  held = (r.holds_one id me.0 at holding).2

  some_gap : 0 < gap_of (plan_of me.0.job)
  some_gap =
      let k = r.each id me.0 at live in
      let past : me.0.count ≤ r.turn = k.fits.past in
      let near = soon me.0.job me.0.number me.0.count r.turn k.number k.fits in
      omega arith

  stores_at : (new : ℕ) → IsNumberOf new (record_at me.0.job me.0.count) →
      Next me.0.job me.0.keeps s (word_of_slot (plan_of me.0.job) me.0.count) new id me (λ _ m'. m' ≡ (has_stored me.0, me.1))
  stores_at new is =
      let job : JobValue = me.0.job in
      let k = r.each id me.0 at live in
      let w : View = has_stored me.0 in
      let one = r.holds_one id me.0 at holding in
      let now : me.0.count ≡ r.turn = held.here in
      let i : ℕ = word_of_slot (plan_of job) me.0.count in
      let there_is : i ≡ word_of_slot (plan_of job) r.turn = ap (word_of_slot (plan_of job)) now in
      let gap : ℕ = gap_of (plan_of job) in
      let ring : length s.words ≡ gap + 1 = r.ring in
      let wide : 0 < gap = some_gap in
      let below : me.0.count % gap < gap = mod_below me.0.count gap wide in
      let inside : i < length s.words = omega arith in
      let same : Same me.0 w = record { job = refl; keeps = refl; number = refl; spent = refl; made = refl; joined = refl } in (
        w,
        keeps,
        tt,
        record {
          turn = r.turn;
          made = r.made;
          joined = r.joined;
          held = r.held;
          holder = r.holder;
          within = r.within;
          ring = length-set s.words i new ∙ ring;
          one_slot = r.one_slot;
          turn_within = r.turn_within;
          word = get_or-set_other s.words i 0 new 0 (omega arith) ∙ r.word;
          records = λ j less near. subst (λ (n : ℕ). IsNumberOf n (record_at job j))
              (sym (get_or-set_other s.words i (word_of_slot (plan_of job) j) new 0 (λ e. other_word job j r.turn wide less near (e ∙ there_is))))
              (r.records j less near);
          free = r.free;
          each = each_moved job me.0.keeps s r id me.0 w at live same r.turn (omega arith) k.fits k.seen (λ _ _ _ f. f);
          unmade = r.unmade;
          own = own_moved job me.0.keeps s r id me.0 w at live same;
          holds_one = views_stay (λ j x. x.holding ≡ true → (r.held ≡ true) × (j ≡ r.holder) × Holds job r.turn (set s.words i new) x) s.views id w
              (λ _. (
                one.0,
                one.1,
                record {
                  here = held.here;
                  own = held.own;
                  more = held.more;
                  record_is = λ _. subst (λ (n : ℕ). IsStored job n (set s.words i new)) now
                      (subst (λ (n : ℕ). IsNumberOf n (record_at job me.0.count)) (sym (get_or-set_same s.words i new 0 inside)) is);
                },
              ))
              (λ j x other e h. let t = r.holds_one j x e h in absurd (other (t.1 ∙ sym one.1)));
          held_by = λ _. (w, subst (λ (k : ℕ). get_elem? (set s.views id w) k ≡ some w) one.1 (set_at s.views id me.0 w at), holding, live);
        },
        refl,
      )

  acts_at : (b : BusBox) → me.0.stored ≡ true → me.1 ≡ (0, Some b) ∷ [] → IsBusAt me.0.job me.0.keeps (me.0.count + 1) b.value →
      Next me.0.job me.0.keeps s 0 ((slice_index s.words 0 + 1) % 2 ^ 64) id me (λ _ m'. m' ≡ (has_acted me.0, rest me.1))
  acts_at b has carries bus =
      let job : JobValue = me.0.job in
      let k = r.each id me.0 at live in
      let w : View = has_acted me.0 in
      let one = r.holds_one id me.0 at holding in
      let now : me.0.count ≡ r.turn = held.here in
      let own : owner_of_slot (plan_of job) me.0.count ≡ me.0.number = ap (owner_of_slot (plan_of job)) now ∙ held.own in
      let less : r.turn < job.shape.slots = held.more in
      let few : job.shape.slots ≤ MAX_SLOTS = r.within.shape.slots in
      let word : slice_index s.words 0 ≡ r.turn = r.word in
      let new : ℕ = (slice_index s.words 0 + 1) % 2 ^ 64 in
      let new_is : new ≡ r.turn + 1 = omega arith in
      let ring : length s.words ≡ gap_of (plan_of job) + 1 = r.ring in
      let one_slot : length s.homes ≡ 1 = r.one_slot in
      let seen : me.0.seen ≤ r.turn = k.seen in
      let slot : Slot = Some b in
      let back : put_back s.homes me.1 ≡ set s.homes 0 (some slot) = ap (put_back s.homes) carries in
      let same_words : (j : ℕ) → slice_index (set s.words 0 new) (word_of_slot (plan_of job) j) ≡ slice_index s.words (word_of_slot (plan_of job) j) =
      (λ j. get_or-set_other s.words 0 (word_of_slot (plan_of job) j) new 0 (omega arith)) in
      let meet = own_meet job me.0.number me.0.count (subst (λ (n : ℕ). n < job.shape.slots) (sym now) less) own in
      let after : turn_after job me.0.number me.0.count me.0.count ≡ r.turn + 1 = meet.1 ∙ ap (λ (n : ℕ). n + 1) now in
      let fit = meets_fit job me.0.number me.0.count me.0.count (me.0.count + 1) (turn_after job me.0.number me.0.count me.0.count)
      (subst (Fits job me.0.number me.0.count) (sym now) k.fits) meet.0 in
      let others : (d other : ℕ) → d ≢ me.0.number → Fits job d other r.turn → Fits job d other (r.turn + 1) =
      (λ d other differs f. subst (Fits job d other) after (fit.1 d other differs (subst (Fits job d other) (sym now) f))) in
      let same : Same me.0 w = record { job = refl; keeps = refl; number = refl; spent = refl; made = refl; joined = refl } in (
        w,
        gives,
        tt,
        record {
          turn = r.turn + 1;
          made = r.made;
          joined = r.joined;
          held = false;
          holder = 0;
          within = r.within;
          ring = length-set s.words 0 new ∙ ring;
          one_slot = ap length back ∙ (length-set s.homes 0 (some slot) ∙ one_slot);
          turn_within = omega arith;
          word = get_or-set_same s.words 0 new 0 (omega arith) ∙ new_is;
          records = λ j below near. subst (λ (n : ℕ). IsNumberOf n (record_at job j)) (sym (same_words j)) (dite (ℕ_discrete j r.turn)
              (λ last. subst (λ (n : ℕ). IsStored job n s.words) (sym last) (held.record_is has))
              (λ earlier. r.records j (omega arith) (omega arith)));
          free = λ _. (b, ap (λ l. get_elem? l 0) back ∙ set_here s.homes 0 (some slot) (omega arith), subst (λ (n : ℕ). IsBusAt job me.0.keeps (n + 1) b.value) now bus);
          each = each_moved job me.0.keeps s r id me.0 w at live same (r.turn + 1) (omega arith) (subst (Fits job me.0.number (me.0.count + 1)) after fit.0) (omega arith) others;
          unmade = λ c from. let made : me.0.number < r.made = k.is_made in others c 0 (λ same. absurd (omega arith)) (r.unmade c from);
          own = own_moved job me.0.keeps s r id me.0 w at live same;
          holds_one = views_stay (λ j x. x.holding ≡ true → (false ≡ true) × (j ≡ 0) × Holds job (r.turn + 1) (set s.words 0 new) x) s.views id w
              (λ h. let bad : false ≡ true = h in cc)
              (λ j x other e h. let t = r.holds_one j x e h in absurd (other (t.1 ∙ sym one.1)));
          held_by = λ bad. let e : false ≡ true = bad in cc;
        },
        refl,
      )

-- ---- and at the table's job

pub stores_record : (about : About) (slots id : ℕ) (me : Hand) (i new : ℕ) → i ≡ word_of_slot (plan_of me.0.job) me.0.count → me.0.holding ≡ true → me.0.spent ≡ false →
    IsNumberOf new (record_at me.0.job me.0.count) → Allows (holds about) slots id me i (λ _. new) (λ _. stores (step slots i new 0 none) me new)
stores_record about slots id me i new place holding live is =
    subst (λ (k : ℕ). Allows (holds about) slots id me k (λ _. new) (λ _. stores (step slots k new 0 none) me new)) (sym place)
    (λ s r _ at _. there about s r id me.0 at live (λ j k. Next j k s (word_of_slot (plan_of me.0.job) me.0.count) new id me (λ _ m'. m' ≡ (has_stored me.0, me.1)))
    (stores_at s id me (here about s r id me.0 at live (λ j k. Kept j k s) r) holding live at new is))

pub acts : (about : About) (slots id : ℕ) (me : Hand) (b : BusBox) → me.0.holding ≡ true → me.0.spent ≡ false → me.0.stored ≡ true → me.1 ≡ (0, Some b) ∷ [] →
    IsBusAt me.0.job me.0.keeps (me.0.count + 1) b.value → Allows (holds about) slots id me 0 (λ n. (n + 1) % 2 ^ 64) (acted (step slots 0 1 0 none) me)
acts about slots id me b holding live has carries bus s r _ at _ =
    there about s r id me.0 at live (λ j k. Next j k s 0 ((slice_index s.words 0 + 1) % 2 ^ 64) id me (λ _ m'. m' ≡ (has_acted me.0, rest me.1)))
    (acts_at s id me (here about s r id me.0 at live (λ j k. Kept j k s) r) holding live at b has carries bus)

-- ---- the seat, from one step to the next

-- with the bus in its hand, to be put back
put_in : (m m' : Hand) (bus : BusBox) → m' ≡ (m.0, (0, Some bus) ∷ rest m.1) → m.1 ≡ (0, None) ∷ [] → m' ≡ (m.0, (0, Some bus) ∷ [])
put_in m m' bus e carries = e ∙ ap (λ (l : List (ℕ × Slot)). let h : Hand = (m.0, (0, Some bus) ∷ rest l) in h) carries

pub can_store : (m m' : Hand) (bus : BusBox) (word new : ℕ) → m' ≡ (m.0, (0, Some bus) ∷ rest m.1) → IsHolding m → word ≡ word_of_slot (plan_of m.0.job) m.0.count →
    IsNumberOf new (record_at m.0.job m.0.count) →
    (word ≡ word_of_slot (plan_of m'.0.job) m'.0.count) × (m'.0.holding ≡ true) × (m'.0.spent ≡ false) × IsNumberOf new (record_at m'.0.job m'.0.count)
can_store m m' bus word new e has place is =
    subst (λ (h : Hand). (word ≡ word_of_slot (plan_of h.0.job) h.0.count) × (h.0.holding ≡ true) × (h.0.spent ≡ false) × IsNumberOf new (record_at h.0.job h.0.count)) (sym e)
    (place, has.holding, has.live, is)

pub stored_is : (m m' m'' : Hand) (bus : BusBox) → m' ≡ (m.0, (0, Some bus) ∷ rest m.1) → m'' ≡ (has_stored m'.0, m'.1) → IsHolding m → m'' ≡ (has_stored m.0, (0, Some bus) ∷ [])
stored_is m m' m'' bus e after has = after ∙ ap (λ (h : Hand). let x : Hand = (has_stored h.0, h.1) in x) (put_in m m' bus e has.carries)

pub can_act : (m m'' : Hand) (bus : BusBox) → m'' ≡ (has_stored m.0, (0, Some bus) ∷ []) → IsHolding m → IsBusAt m.0.job m.0.keeps (m.0.count + 1) bus.value →
    (m''.0.holding ≡ true) × (m''.0.spent ≡ false) × (m''.0.stored ≡ true) × (m''.1 ≡ (0, Some bus) ∷ []) × IsBusAt m''.0.job m''.0.keeps (m''.0.count + 1) bus.value
can_act m m'' bus is has at =
    subst (λ (h : Hand). (h.0.holding ≡ true) × (h.0.spent ≡ false) × (h.0.stored ≡ true) × (h.1 ≡ (0, Some bus) ∷ []) × IsBusAt h.0.job h.0.keeps (h.0.count + 1) bus.value) (sym is)
    (has.holding, has.live, refl, refl, at)
