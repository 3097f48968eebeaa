-- Loads keep the rule, and tell what they are to tell: a look at the turn, a note of a record, and the owner's taking of the bus.
use Rattle.std.proofs.Common.{◌≡◌, ℕ, ◌+◌, ◌<◌, ◌≤◌, List, ◌∷◌, Bool, true, false, length, set, slice_index, Some, refl, sym, ap, ◌∙◌, subst, arith, length-set}
use mathlib.Core.Option.{some, none}
use lib.ListN.{get_elem?}
use lib.Seq.{set-get_or}
use Rattle.atomic_table.specs.Table.{step, keeps, takes, Allows, rest}
use Rattle.pmsi_model.specs.Job.{JobValue}
use Rattle.pmsi_model.specs.Slots.{plan_of, owner_of_slot}
use Rattle.pmsi_model.specs.Spreads.{Fits}
use Rattle.pmsi_model.proofs.Spreads.{own_turn}
use Rattle.turn_bus.specs.declared.about.About.{About}
use Rattle.turn_bus.specs.declared.view.View.{View}
use Rattle.turn_bus.specs.Rule.{BusBox, Slot, Table, Hand, Holds, Kept, holds, word_of_slot, has_loaded, has_noted, has_bus, looked, noted, taken, Rests}
use Rattle.turn_bus.specs.Sharing.{IsBusAt}
use Rattle.turn_bus.proofs.Views.{views_stay, set_at, apart}
use Rattle.turn_bus.proofs.TurnMoves.{Next, Same, soon, here, there, each_moved, own_moved, only_looks}

-- ---- at the job of the seat's view

module _ (s : Table) (id : ℕ) (me : Hand) (r : Kept me.0.job me.0.keeps s) (rests : Rests me) (at : get_elem? s.views id ≡ some me.0) where
  looks_at : Next me.0.job me.0.keeps s 0 (slice_index s.words 0) id me (looked (step 1 0 0 0 none) me)
  looks_at =
      let k = r.each id me.0 at rests.live in
      let n : ℕ = slice_index s.words 0 in
      let w : View = has_loaded me.0 n in
      let word : n ≡ r.turn = r.word in
      let same : Same me.0 w = record { job = refl; keeps = refl; number = refl; spent = refl; made = refl; joined = refl } in (
        w,
        keeps,
        tt,
        only_looks me.0.job me.0.keeps s r id me.0 w at rests.live same rests.idle rests.idle k.fits (omega arith) 0,
        (refl, subst (λ (t : ℕ). t ≤ me.0.job.shape.slots) (sym word) r.turn_within, subst (Fits me.0.job me.0.number me.0.count) (sym word) k.fits),
      )

  notes_at : me.0.count < me.0.seen → Next me.0.job me.0.keeps s (word_of_slot (plan_of me.0.job) me.0.count)
      (slice_index s.words (word_of_slot (plan_of me.0.job) me.0.count)) id me (noted (step 1 0 0 0 none) me)
  notes_at passed =
      let k = r.each id me.0 at rests.live in
      let w : View = has_noted me.0 in
      let seen : me.0.seen ≤ r.turn = k.seen in
      let fits : Fits me.0.job me.0.number (me.0.count + 1) r.turn = record { past = omega arith; before = λ slot from own. k.fits.before slot (omega arith) own } in
      let same : Same me.0 w = record { job = refl; keeps = refl; number = refl; spent = refl; made = refl; joined = refl } in (
        w,
        keeps,
        tt,
        only_looks me.0.job me.0.keeps s r id me.0 w at rests.live same rests.idle rests.idle fits seen (word_of_slot (plan_of me.0.job) me.0.count),
        (refl, r.records me.0.count (omega arith) (soon me.0.job me.0.number me.0.count r.turn k.number k.fits)),
      )

  module _ (more : me.0.count < me.0.job.shape.slots) (own : owner_of_slot (plan_of me.0.job) me.0.count ≡ me.0.number) where
    -- the bus stands at the seat's own slot, so no other seat has it
    now : r.turn ≡ me.0.count
    now = own_turn me.0.job me.0.number me.0.count r.turn (r.each id me.0 at rests.live).fits own

    not_held : (b : Bool) → r.held ≡ b → r.held ≡ false
    not_held false e = e
    not_held true e =
        let b = r.held_by e in
        let h = (r.holds_one r.holder b.0 b.1 b.2).2 in
        let mine : b.0.number ≡ me.0.number = sym h.own ∙ (ap (owner_of_slot (plan_of me.0.job)) now ∙ own) in
        absurd (apart s.views id r.holder me.0 b.0 at b.1 rests.idle b.2 (r.own r.holder id b.0 me.0 b.1 at b.3 rests.live mine))

    takes_at : Next me.0.job me.0.keeps s 0 (slice_index s.words 0) id me (taken (step 1 0 0 0 none) me)
    takes_at =
        let job : JobValue = me.0.job in
        let k = r.each id me.0 at rests.live in
        let w : View = has_bus me.0 in
        let past : me.0.count ≤ r.turn = k.fits.past in
        let calm : r.held ≡ false = not_held r.held refl in
        let home = r.free calm in
        let one_slot : length s.homes ≡ 1 = r.one_slot in
        let same : Same me.0 w = record { job = refl; keeps = refl; number = refl; spent = refl; made = refl; joined = refl } in (
          w,
          takes 0 (Some home.0),
          home.1,
          subst (λ (ws : List ℕ). Kept job me.0.keeps record { words = ws; homes = set s.homes 0 none; views = set s.views id w }) (sym (set-get_or s.words 0 0)) record {
            turn = r.turn;
            made = r.made;
            joined = r.joined;
            held = true;
            holder = id;
            within = r.within;
            ring = r.ring;
            one_slot = length-set s.homes 0 none ∙ one_slot;
            turn_within = r.turn_within;
            word = r.word;
            records = r.records;
            free = λ bad. let e : true ≡ false = bad in cc;
            each = each_moved job me.0.keeps s r id me.0 w at rests.live same r.turn (omega arith) k.fits past (λ _ _ _ f. f);
            unmade = r.unmade;
            own = own_moved job me.0.keeps s r id me.0 w at rests.live same;
            holds_one = views_stay (λ j x. x.holding ≡ true → (true ≡ true) × (j ≡ id) × Holds job r.turn s.words x) s.views id w
                (λ _. (
                  refl,
                  refl,
                  record {
                    here = sym now;
                    own = ap (owner_of_slot (plan_of job)) now ∙ own;
                    more = subst (λ (n : ℕ). n < job.shape.slots) (sym now) more;
                    record_is = λ yes. let bad : false ≡ true = sym rests.unstored ∙ yes in cc;
                  },
                ))
                (λ j x _ e h. let t = r.holds_one j x e h in let bad : false ≡ true = sym calm ∙ t.0 in cc);
            held_by = λ _. (w, set_at s.views id me.0 w at, refl, rests.live);
          },
          (home.0, refl, subst (λ (n : ℕ). IsBusAt job me.0.keeps n home.0.value) now home.2),
        )

-- ---- and at the table's

pub looks : (about : About) (slots id : ℕ) (me : Hand) → Rests me → Allows (holds about) slots id me 0 (λ n. n) (looked (step slots 0 0 0 none) me)
looks about slots id me rests s r _ at _ = there about s r id me.0 at rests.live (λ j k. Next j k s 0 (slice_index s.words 0) id me (looked (step slots 0 0 0 none) me))
    (looks_at s id me (here about s r id me.0 at rests.live (λ j k. Kept j k s) r) rests at)

pub notes : (about : About) (slots id : ℕ) (me : Hand) (i : ℕ) → i ≡ word_of_slot (plan_of me.0.job) me.0.count → Rests me → me.0.count < me.0.seen →
    Allows (holds about) slots id me i (λ n. n) (noted (step slots i 0 0 none) me)
notes about slots id me i is rests passed = subst (λ (k : ℕ). Allows (holds about) slots id me k (λ n. n) (noted (step slots k 0 0 none) me)) (sym is)
    (λ s r _ at _. let i : ℕ = word_of_slot (plan_of me.0.job) me.0.count in
    there about s r id me.0 at rests.live (λ j k. Next j k s i (slice_index s.words i) id me (noted (step slots i 0 0 none) me))
    (notes_at s id me (here about s r id me.0 at rests.live (λ j k. Kept j k s) r) rests at passed))

pub takes_bus : (about : About) (slots id : ℕ) (me : Hand) → Rests me → me.0.count < me.0.job.shape.slots → owner_of_slot (plan_of me.0.job) me.0.count ≡ me.0.number →
    Allows (holds about) slots id me 0 (λ n. n) (taken (step slots 0 0 0 none) me)
takes_bus about slots id me rests more own s r _ at _ = there about s r id me.0 at rests.live (λ j k. Next j k s 0 (slice_index s.words 0) id me (taken (step slots 0 0 0 none) me))
    (takes_at s id me (here about s r id me.0 at rests.live (λ j k. Kept j k s) r) rests at more own)

-- ---- the seat, from one step to the next

-- after a look that found the bus past the slot
pub passed_on : (m m' : Hand) (turn word : ℕ) → m' ≡ (has_loaded m.0 turn, m.1) → Rests m → word ≡ word_of_slot (plan_of m.0.job) m.0.count → m.0.count < turn →
    (word ≡ word_of_slot (plan_of m'.0.job) m'.0.count) × Rests m' × (m'.0.count < m'.0.seen)
passed_on m m' turn word is rests place past = subst (λ (h : Hand). (word ≡ word_of_slot (plan_of h.0.job) h.0.count) × Rests h × (h.0.count < h.0.seen)) (sym is)
    (place, record { idle = rests.idle; unstored = rests.unstored; live = rests.live; empty = rests.empty }, past)

-- the slot with the bus, as the seat took it
abbrev pub HasTaken : Hand → Hand → Type 0
HasTaken m m' = (b : BusBox) × (m' ≡ (has_bus m.0, (0, Some b) ∷ m.1)) × IsBusAt m.0.job m.0.keeps m.0.count b.value

pub slot_of : (m m' : Hand) → HasTaken m m' → (x : Slot) × (m'.1 ≡ (0, x) ∷ rest m'.1)
slot_of m m' t = (Some t.0, subst (λ (h : Hand). h.1 ≡ (0, Some t.0) ∷ rest h.1) (sym t.1) refl)
