-- Each completed request was issued, posted and filled in this order.
use Rattle.std.proofs.Common.{◌≡◌, ℕ, zero, suc, ◌+◌, ◌<◌, ◌≤◌, [], Option, Some, None, refl, subst, arith}
use Rattle.std.specs.List.{All}
use Rattle.std.specs.Option.{unwrap_or}
use Rattle.std.proofs.lemmas.List.Elements.{All-nil, All-cons, All-append, All-weaker}
use Rattle.pmsi_model.specs.declared.Action.{Action}
use Rattle.pmsi_model.specs.declared.Action.TheVariants.{Idle, Post, Fill, PostFill, Back}
use Rattle.pmsi_model.specs.declared.Row.{Row}
use Rattle.pmsi_model.specs.declared.Want.{Want}
use Rattle.pmsi_model.specs.Job.{JobValue, IsJob}
use Rattle.pmsi_model.specs.Machine.{Machine}
use Rattle.pmsi_model.specs.Run.{machine_at, slot_owner, record_at}
use Rattle.pmsi_model.specs.Rows.{row_of, action_row, slot_rows, rows_of, IsInOrder}
use Rattle.pmsi_model.specs.Coherent.{IsPostedBy}
use Rattle.waiting_laws.specs.Laws.{RowsAreInOrder}
use Rattle.waiting_laws.proofs.Phases.{phased, phased-slot, phased_whole}

-- a want at the end of a slot's phases: issued in the slot or before, and posted before the slot if at all
abbrev IsDue : ℕ → Option Want → Type 0
IsDue slot o = (want : Want) → o ≡ Some want → (want.issue < slot + 1) × IsPostedBy (slot + 1) want.issue want.post

served_in_order : (slot issue : ℕ) (post : Option ℕ) → issue < slot + 1 → IsPostedBy (slot + 1) issue post
    → (issue ≤ unwrap_or post slot) × (unwrap_or post slot ≤ slot)
served_in_order slot issue None issued by = (omega arith, omega arith)
served_in_order slot issue (Some post) issued by = (by.0, let p = by.1 in omega arith)

row_in_order : (slot c : ℕ) (o : Option Want) → IsDue slot o → All (IsInOrder (slot + 1)) (row_of slot c o)
row_in_order slot c None due = All-nil (IsInOrder (slot + 1))
row_in_order slot c (Some want) due =
    let row : Row = record { core = c; line = want.line; kind = want.kind; issue = want.issue; post = unwrap_or want.post slot; fill = slot } in
    let wants = due want refl in
    let served = served_in_order slot want.issue want.post wants.0 wants.1 in
    let here : IsInOrder (slot + 1) row = record { issued = served.0; posted = served.1; filled = omega arith } in
    All-cons (IsInOrder (slot + 1)) row [] here (All-nil (IsInOrder (slot + 1)))

action_in_order : (x : Machine) (w : ℕ) (action : Action) → IsDue x.slot (x.cores w).want → All (IsInOrder (x.slot + 1)) (action_row x w action)
action_in_order x w Idle due = All-nil (IsInOrder (x.slot + 1))
action_in_order x w (Post name line) due = All-nil (IsInOrder (x.slot + 1))
action_in_order x w (Fill line) due = row_in_order x.slot w (x.cores w).want due
action_in_order x w (PostFill name line) due = row_in_order x.slot w (x.cores w).want due
action_in_order x w (Back line kept) due = All-nil (IsInOrder (x.slot + 1))

slot_in_order : (job : JobValue) → IsJob job → (slot : ℕ) → All (IsInOrder (slot + 1)) (slot_rows job (machine_at job slot) (record_at job slot))
slot_in_order job is slot = let y : Machine = phased job slot in let c : ℕ = slot_owner job (machine_at job slot) in
    let due : IsDue slot (y.cores c).want = λ want wants. let w = ((phased_whole job is slot).fine c).want_fine want wants in (w.issued, w.posted) in
    subst (λ (s : ℕ). IsDue s (y.cores c).want → All (IsInOrder (s + 1)) (action_row y c (record_at job slot))) (phased-slot job slot)
    (action_in_order y c (record_at job slot)) due

pub rows_are_in_order : RowsAreInOrder
unfolding rows_of
rows_are_in_order job is zero = All-nil (IsInOrder zero)
rows_are_in_order job is (suc slot) =
    let now : All (IsInOrder (suc slot)) (slot_rows job (machine_at job slot) (record_at job slot)) =
    subst (λ (s : ℕ). All (IsInOrder s) (slot_rows job (machine_at job slot) (record_at job slot))) (omega arith) (slot_in_order job is slot) in
    All-append (IsInOrder (suc slot)) (rows_of job slot) (slot_rows job (machine_at job slot) (record_at job slot))
    (All-weaker (IsInOrder slot) (IsInOrder (suc slot)) (λ row before. record { issued = before.issued; posted = before.posted; filled = (let f = before.filled in omega arith) })
    (rows_of job slot) (rows_are_in_order job is slot)) now
