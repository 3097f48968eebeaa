-- What a line has that was read.
use Rattle.std.proofs.Common.{◌≡◌, ℕ, ◌<◌, List, [], ◌∷◌, Option, Some, None, Result, Ok, Err, Bool, true, false, refl, sym, arith, codes, decimal}
use Rattle.std.specs.Prelude.{nat_le, ◌&&◌, if◌then◌else◌}
use Rattle.std.specs.Str.{bytes_eq}
use Rattle.std.proofs.lemmas.Bool.Decides.{nat_tests}
use Rattle.std.proofs.lemmas.Slice.Eq.{bytes_eq-Decides}
use Rattle.pmsi_model.specs.declared.Action.{Action}
use Rattle.pmsi_model.specs.declared.limits.TheConstants.{MAX_SLOTS}
use Rattle.pmsi_model.specs.Slots.{SlotPlan, owner_of_slot}
use Rattle.trace_text.specs.declared.fault.TraceFault.{TraceFault}
use Rattle.trace_text.specs.declared.fault.TraceFault.TheVariants.{Line, Order, End}
use Rattle.trace_text.specs.declared.row.Row.TheVariants as row
use Rattle.trace_text.specs.Reading.{action_in, end_row, is_numeral, line_of_slot, row_in, slot_row}

-- ---- tests

pub same_text : (a b : List ℕ) → bytes_eq a b ≡ true → a ≡ b
same_text a b is = (bytes_eq-Decides a b).0 is

pub both_true : (a b : Bool) → (a && b) ≡ true → (a ≡ true) × (b ≡ true)
both_true true b is = (refl, is)
both_true false b is = absurd cc

pub passed : {A : Type 0} (test : Bool) (so : Result A TraceFault) (fault : TraceFault) (a : A) → (if test then so else Err fault) ≡ Ok a → (test ≡ true) × (so ≡ Ok a)
passed true so fault a is = (refl, is)
passed false so fault a is = absurd cc

pub not_stopped : {A : Type 0} (test : Bool) (so : Result A TraceFault) (fault : TraceFault) (a : A) → (if test then Err fault else so) ≡ Ok a → (test ≡ false) × (so ≡ Ok a)
not_stopped true so fault a is = absurd cc
not_stopped false so fault a is = (refl, is)

-- ---- a line that tells an action

pub record TellsAction (plan : SlotPlan) (slot : ℕ) (fields : List (List ℕ)) (action : Action) : Type 0 where
  pub told : List (List ℕ)
  pub is : fields ≡ codes "slot" ∷ decimal slot ∷ codes "core" ∷ decimal (owner_of_slot plan slot) ∷ told
  pub reads : action_in told ≡ Some action
  pub below : slot < MAX_SLOTS

record InOrder (plan : SlotPlan) (slot : ℕ) (number core : List ℕ) (read : Option Action) (action : Action) : Type 0 where
  number_is : number ≡ decimal slot
  core_is : core ≡ decimal (owner_of_slot plan slot)
  reads : read ≡ Some action
  below : slot < MAX_SLOTS

in_order : (plan : SlotPlan) (slot : ℕ) (number core : List ℕ) (read : Option Action) (action : Action) → slot_row plan slot number core read ≡ Ok (row.Slot action) → InOrder plan slot number core read action
unfolding slot_row
in_order plan slot number core None action is = absurd cc
in_order plan slot number core (Some a) action is =
    let few = not_stopped (nat_le MAX_SLOTS slot) _ (Line (line_of_slot slot)) (row.Slot action) is in
    let order = passed (bytes_eq number (decimal slot) && bytes_eq core (decimal (owner_of_slot plan slot))) (Ok (row.Slot a)) (Order (line_of_slot slot)) (row.Slot action) few.1 in
    let both = both_true (bytes_eq number (decimal slot)) (bytes_eq core (decimal (owner_of_slot plan slot))) order.0 in
    let low : nat_le MAX_SLOTS slot ≡ false = few.0 in
    let same : Ok (row.Slot a) ≡ Ok (row.Slot action) = order.1 in
    record {
      number_is = same_text number (decimal slot) both.0;
      core_is = same_text core (decimal (owner_of_slot plan slot)) both.1;
      reads = cc;
      below = grind (arith, nat_tests, low);
    }

not_an_action : (slot : ℕ) (number : List ℕ) (action : Action) → end_row slot number ≡ Ok (row.Slot action) → ⊥
unfolding end_row
not_an_action slot number action is = let same : Ok row.End ≡ Ok (row.Slot action) = (passed (bytes_eq number (decimal slot)) (Ok row.End) End (row.Slot action) is).1 in cc

pub tells_action : (plan : SlotPlan) (slot : ℕ) (fields : List (List ℕ)) (action : Action) → row_in plan slot fields ≡ Ok (row.Slot action) → TellsAction plan slot fields action
unfolding row_in
tells_action plan slot [] action is = absurd cc
tells_action plan slot (word ∷ []) action is = absurd cc
tells_action plan slot (word ∷ number ∷ []) action is =
    absurd (not_an_action slot number action (passed (bytes_eq word (codes "end") && is_numeral number) (end_row slot number) (Line (line_of_slot slot)) (row.Slot action) is).1)
tells_action plan slot (word ∷ number ∷ name ∷ []) action is = absurd cc
tells_action plan slot (word ∷ number ∷ name ∷ core ∷ told) action is =
    let form = passed (bytes_eq word (codes "slot") && is_numeral number && bytes_eq name (codes "core") && is_numeral core) (slot_row plan slot number core (action_in told)) (Line (line_of_slot slot)) (row.Slot action) is in
    let core_is = both_true (bytes_eq word (codes "slot") && is_numeral number && bytes_eq name (codes "core")) (is_numeral core) form.0 in
    let name_is = both_true (bytes_eq word (codes "slot") && is_numeral number) (bytes_eq name (codes "core")) core_is.0 in
    let word_is = both_true (bytes_eq word (codes "slot")) (is_numeral number) name_is.0 in
    let order = in_order plan slot number core (action_in told) action form.1 in
    record {
      told = told;
      is = rw (same_text word (codes "slot") word_is.0, same_text name (codes "core") name_is.1, order.number_is, order.core_is) refl;
      reads = order.reads;
      below = order.below;
    }

pub below : (plan : SlotPlan) (slot : ℕ) (fields : List (List ℕ)) (action : Action) → Ok (row.Slot action) ≡ row_in plan slot fields → slot < MAX_SLOTS
below plan slot fields action is = (tells_action plan slot fields action (sym is)).below

-- ---- the line that tells the number of slots

not_an_end : (plan : SlotPlan) (slot : ℕ) (number core : List ℕ) (read : Option Action) → slot_row plan slot number core read ≡ Ok row.End → ⊥
unfolding slot_row
not_an_end plan slot number core None is = cc
not_an_end plan slot number core (Some a) is =
    let few = not_stopped (nat_le MAX_SLOTS slot) _ (Line (line_of_slot slot)) row.End is in
    let same : Ok (row.Slot a) ≡ Ok row.End = (passed (bytes_eq number (decimal slot) && bytes_eq core (decimal (owner_of_slot plan slot))) (Ok (row.Slot a)) (Order (line_of_slot slot)) row.End few.1).1 in cc

right_end : (slot : ℕ) (number : List ℕ) → end_row slot number ≡ Ok row.End → number ≡ decimal slot
unfolding end_row
right_end slot number is = same_text number (decimal slot) (passed (bytes_eq number (decimal slot)) (Ok row.End) End row.End is).0

pub tells_end : (plan : SlotPlan) (slot : ℕ) (fields : List (List ℕ)) → row_in plan slot fields ≡ Ok row.End → fields ≡ codes "end" ∷ decimal slot ∷ []
unfolding row_in
tells_end plan slot [] is = absurd cc
tells_end plan slot (word ∷ []) is = absurd cc
tells_end plan slot (word ∷ number ∷ []) is =
    let form = passed (bytes_eq word (codes "end") && is_numeral number) (end_row slot number) (Line (line_of_slot slot)) row.End is in
    let word_is = both_true (bytes_eq word (codes "end")) (is_numeral number) form.0 in
    rw (same_text word (codes "end") word_is.0, right_end slot number form.1) refl
tells_end plan slot (word ∷ number ∷ name ∷ []) is = absurd cc
tells_end plan slot (word ∷ number ∷ name ∷ core ∷ told) is =
    absurd (not_an_end plan slot number core (action_in told) (passed (bytes_eq word (codes "slot") && is_numeral number && bytes_eq name (codes "core") && is_numeral core) (slot_row plan slot number core (action_in told)) (Line (line_of_slot slot)) row.End is).1)
