-- A try to take the lock keeps the rule, and tells what it is to tell.
use Rattle.std.proofs.Common.{◌≡◌, ℕ, ◌+◌, ◌*◌, ◌%◌, ◌^◌, ◌≤◌, List, [], ◌∷◌, Bool, true, false, length, set, slice_index, bit_or, Some, None, refl, sym, ap, ◌∙◌, subst, inl, inr, ⊎_elim, arith, length-set, get_or-set_same}
use Rattle.std.proofs.lemmas.Nat.{or_block}
use Rattle.std.specs.Int.Bits.{or_shifted, or_zero_r}
use mathlib.Core.Option.{some, none}
use lib.ListN.{get_elem?}
use lib.Seq.{set-get_or}
use Rattle.atomic_table.specs.Table.{Step, step, keeps, takes, stepped, Allows, rest, Act, Valid, carried_after}
use Rattle.atomic_table.proofs.Lists.{set_here, set_else}
use Rattle.pmsi_model.specs.declared.limits.TheConstants.{MAX_SLOTS}
use Rattle.pmsi_model.specs.Job.{JobValue}
use Rattle.pmsi_model.specs.Shared.{BusSide}
use Rattle.pmsi_model.specs.Spreads.{Fits}
use Rattle.bus_lock.specs.declared.about.About.{About}
use Rattle.bus_lock.specs.declared.view.View.{View}
use Rattle.bus_lock.specs.Rule.{Slot, Table, Hand, Knows, bit, Kept, holds, missed, took, HasTaken, tried, Rests, Takes}
use Rattle.turn_bus.specs.Sharing.{IsBusAt}
use Rattle.bus_lock.proofs.Views.{views_stay, set_at, own_stays, apart}

or_even : (t : ℕ) → bit_or (2 * t) 1 ≡ 2 * t + 1
or_even t = let a : 2 * t ≡ t * 2 ^ 1 = omega arith in rw a (or_shifted t 1 1 (omega arith))

or_odd : (t : ℕ) → bit_or (2 * t + 1) 1 ≡ 2 * t + 1
or_odd t =
    let a : 2 * t ≡ t * 2 ^ 1 = omega arith in
    let e : bit_or (t * 2 ^ 1 + 1) (0 * 2 ^ 1 + 1) ≡ bit_or t 0 * 2 ^ 1 + bit_or 1 1 = or_block 1 t 0 1 1 (omega arith) (omega arith) in
    let z : bit_or t 0 ≡ t = or_zero_r t in
    rw a (e ∙ ap (λ (n : ℕ). n * 2 ^ 1 + 1) z)

module _ (job : JobValue) (keep : Bool) where
  -- a step of the seat `id` that writes this word is allowed, and tells this
  abbrev pub Next : Table → ℕ → ℕ → Hand → (ℕ → Hand → Type 0) → Type 0
  Next s n id me then =
      (w : View) × (a : Act Slot) × Valid s.homes me.1 a × Kept job keep (stepped s 0 n id me.1 w a) × then (slice_index s.words 0) (w, carried_after me.1 a)

  -- what is true of the rule's job is true of the view's
  in_view : (s : Table) (r : Kept job keep s) (id : ℕ) (v : View) → get_elem? s.views id ≡ some v → v.spent ≡ false → (P : JobValue → Bool → Type 0) →
      P job keep → P v.job v.keeps
  in_view s r id v at live P p = let k = r.each id v at live in subst (λ j. P j v.keeps) (sym k.job_is) (subst (P job) (sym k.keeps_is) p)

  module _ (s : Table) (r : Kept job keep s) (id : ℕ) (me : Hand) (rests : Rests me) (at : get_elem? s.views id ≡ some me.0) where
    mine : Knows job keep r.turn r.made r.joined me.0
    mine = r.each id me.0 at rests.1

    few : r.turn ≤ MAX_SLOTS
    few = let ok : job.shape.slots ≤ MAX_SLOTS = r.within.shape.slots in let in_range : r.turn ≤ job.shape.slots = r.turn_within in omega arith

    tries_odd : r.held ≡ true → Next s (bit_or (slice_index s.words 0) 1) id me (tried (step 1 0 1 0 none) me)
    tries_odd odd =
        let n : ℕ = slice_index s.words 0 in
        let found : n ≡ 2 * r.turn + 1 = r.word ∙ ap (λ b. 2 * r.turn + bit b) odd in
        let w : View = missed me.0 n in
        let same : bit_or n 1 ≡ n = ap (λ (x : ℕ). bit_or x 1) found ∙ (or_odd r.turn ∙ sym found) in
        let k = mine in (
          w,
          keeps,
          tt,
          subst (λ (ws : List ℕ). Kept job keep record { words = ws; homes = s.homes; views = set s.views id w })
              (sym (ap (set s.words 0) same ∙ set-get_or s.words 0 0)) record {
                turn = r.turn;
                made = r.made;
                joined = r.joined;
                held = r.held;
                holder = r.holder;
                within = r.within;
                one_word = r.one_word;
                one_slot = r.one_slot;
                turn_within = r.turn_within;
                word = r.word;
                free = r.free;
                out = r.out;
                each = views_stay (λ j v. v.spent ≡ false → Knows job keep r.turn r.made r.joined v) s.views id w
                    (λ _. record { job_is = k.job_is; keeps_is = k.keeps_is; number = k.number; fits = k.fits; is_made = k.is_made; is_left = k.is_left; counts = k.counts })
                    (λ j v _ e. r.each j v e);
                unmade = r.unmade;
                own = own_stays s.views id me.0 w at refl refl r.own;
                holds_one = views_stay (λ j v. v.holding ≡ true → (r.held ≡ true) × (j ≡ r.holder) × (v.at ≡ r.turn)) s.views id w
                    (λ h. r.holds_one id me.0 at h) (λ j v _ e. r.holds_one j v e);
                held_by = λ h. let b = r.held_by h in
                    (b.0, set_else s.views id r.holder w (apart s.views id r.holder me.0 b.0 at b.1 rests.0 b.2) ∙ b.1, b.2, b.3);
              },
          (r.turn, few, inl (found, refl)),
        )

    tries_even : r.held ≡ false → Next s (bit_or (slice_index s.words 0) 1) id me (tried (step 1 0 1 0 none) me)
    tries_even even =
        let n : ℕ = slice_index s.words 0 in
        let found : n ≡ 2 * r.turn + 0 = r.word ∙ ap (λ b. 2 * r.turn + bit b) even in
        let twice : n ≡ 2 * r.turn = omega arith in
        let w : View = took me.0 r.turn in
        let next : bit_or n 1 ≡ 2 * r.turn + 1 = ap (λ (x : ℕ). bit_or x 1) twice ∙ or_even r.turn in
        let k = mine in
        let one : length s.words ≡ 1 = r.one_word in
        let home = r.free even in (
          w,
          takes 0 (Some home.0),
          home.1,
          record {
            turn = r.turn;
            made = r.made;
            joined = r.joined;
            held = true;
            holder = id;
            within = r.within;
            one_word = length-set s.words 0 (bit_or n 1) ∙ one;
            one_slot = length-set s.homes 0 none ∙ r.one_slot;
            turn_within = r.turn_within;
            word = get_or-set_same s.words 0 (bit_or n 1) 0 (omega arith) ∙ next;
            free = λ bad. let e : true ≡ false = bad in cc;
            out = λ _. (let h : length s.homes ≡ 1 = r.one_slot in set_here s.homes 0 none (omega arith));
            each = views_stay (λ j v. v.spent ≡ false → Knows job keep r.turn r.made r.joined v) s.views id w
                (λ _. record { job_is = k.job_is; keeps_is = k.keeps_is; number = k.number; fits = k.fits; is_made = k.is_made; is_left = k.is_left; counts = k.counts })
                (λ j v _ e. r.each j v e);
            unmade = r.unmade;
            own = own_stays s.views id me.0 w at refl refl r.own;
            holds_one = views_stay (λ j v. v.holding ≡ true → (true ≡ true) × (j ≡ id) × (v.at ≡ r.turn)) s.views id w (λ _. (refl, refl, refl))
                (λ j v _ e h. let t = r.holds_one j v e h in let bad : false ≡ true = sym even ∙ t.0 in cc);
            held_by = λ _. (w, set_at s.views id me.0 w at, refl, rests.1);
          },
          (
            r.turn,
            few,
            inr (
              home.0,
              record {
                word = twice;
                hand = refl;
                bus = in_view s r id me.0 at rests.1 (λ j k. IsBusAt j k r.turn home.0) home.2;
                fits = in_view s r id me.0 at rests.1 (λ j _. Fits j me.0.number me.0.count r.turn) k.fits;
              },
            ),
          ),
        )

    pub tries_at : (b : Bool) → r.held ≡ b → Next s (bit_or (slice_index s.words 0) 1) id me (tried (step 1 0 1 0 none) me)
    tries_at true e = tries_odd e
    tries_at false e = tries_even e

pub tries : (about : About) (slots id : ℕ) (me : Hand) → Rests me → Allows (holds about) slots id me 0 (λ n. bit_or n 1) (tried (step slots 0 1 0 none) me)
tries about slots id me rests s r _ at _ = tries_at about.job about.keeps s r id me rests at r.held refl

-- ---- what the word tells

abbrev Free : Hand → ℕ → Hand → Type 0
Free m n m' = (turn : ℕ) × (b : BusSide) × HasTaken m n m' turn b

pub free_of : (st : Step Slot) (m m' : Hand) (n : ℕ) → tried st m n m' → (n % 2 ≡ 1 → ⊥) → Free m n m'
free_of st m m' n t even = ⊎_elim (λ h. let e : n ≡ 2 * t.0 + 1 = h.0 in absurd (even (omega arith))) (λ h. (t.0, h.0, h.1)) t.2

pub slot_of : (m m' : Hand) (n : ℕ) → Free m n m' → (x : Slot) × (m'.1 ≡ (0, x) ∷ rest m'.1)
slot_of m m' n f = (Some f.1, subst (λ (h : Hand). h.1 ≡ (0, Some f.1) ∷ rest h.1) (sym f.2.hand) refl)

abbrev in_hand : List (ℕ × Slot) → Slot
in_hand [] = None
in_hand (x ∷ xs) = x.1

-- what came out of the slot is the bus that the seat took
pub out_of_slot : (m m' : Hand) (n : ℕ) (f : Free m n m') (x : Slot) → m'.1 ≡ (0, x) ∷ rest m'.1 → x ≡ Some f.1
out_of_slot m m' n f x out =
    let same : (0, Some f.1) ∷ m.1 ≡ (0, x) ∷ m.1 = subst (λ (h : Hand). h.1 ≡ (0, x) ∷ rest h.1) f.2.hand out in
    sym (ap in_hand same)

pub taken : (m m' m'' : Hand) (n : ℕ) (b : BusSide) → Free m n m' → m'.1 ≡ (0, Some b) ∷ rest m'.1 → m'' ≡ (m'.0, (0, None) ∷ rest m'.1) → m.1 ≡ [] → Takes m m'' b
taken m m' m'' n b f out after empty =
    let slot : Some b ≡ Some f.1 = out_of_slot m m' n f (Some b) out in
    let bus : f.1 ≡ b = cc in
    let now : f.0 ≡ f.1.slot = sym f.2.bus.0.now in
    let left : m'' ≡ (took m.0 f.0, (0, None) ∷ m.1) = subst (λ (h : Hand). m'' ≡ (h.0, (0, None) ∷ rest h.1)) f.2.hand after in
    let alone : m'' ≡ (took m.0 f.0, (0, None) ∷ []) = subst (λ (l : List (ℕ × Slot)). m'' ≡ (took m.0 f.0, (0, None) ∷ l)) empty left in
    subst (Takes m m'') bus record {
      hand = subst (λ (t : ℕ). m'' ≡ (took m.0 t, (0, None) ∷ [])) now alone;
      bus = subst (λ (t : ℕ). IsBusAt m.0.job m.0.keeps t f.1) now f.2.bus;
      fits = subst (λ (t : ℕ). Fits m.0.job m.0.number m.0.count t) now f.2.fits;
    }
