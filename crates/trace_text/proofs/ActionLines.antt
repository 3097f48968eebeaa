-- The lines of actions, one more at the end.
use Rattle.std.proofs.Common.{◌≡◌, ℕ, ◌+◌, ◌<◌, List, [], ◌∷◌, ◌++◌, length, take, get_or, sym, ap, ◌∙◌, append_assoc, append-nil, arith, add-zero, zero-add}
use Rattle.std.proofs.lemmas.List.{take_more, length-take-le}
use Rattle.pmsi_model.specs.declared.Action.{Action}
use Rattle.pmsi_model.specs.Slots.{SlotPlan, owner_of_slot}
use Rattle.pmsi_model.specs.Lines.{action_line, action_lines}
use Rattle.text_out.proofs.Exports.{grown}

action_last : (plan : SlotPlan) (slot : ℕ) (actions : List Action) (action : Action)
    → action_lines plan slot (actions ++ action ∷ []) ≡ action_lines plan slot actions ++ action_line (slot + length actions) (owner_of_slot plan (slot + length actions)) action
unfolding action_lines
action_last plan slot [] action = rw add-zero (append-nil _)
action_last plan slot (a ∷ actions) action =
    let first : List ℕ = action_line slot (owner_of_slot plan slot) a in
    let same : slot + 1 + length actions ≡ slot + length (a ∷ actions) = omega arith in
    ap (λ (text : List ℕ). first ++ text) (action_last plan (slot + 1) actions action)
    ∙ ap (λ (n : ℕ). first ++ (action_lines plan (slot + 1) actions ++ action_line n (owner_of_slot plan n) action)) same
    ∙ sym (append_assoc first (action_lines plan (slot + 1) actions) _)

pub no_actions : (plan : SlotPlan) (start : List ℕ) → start ≡ start ++ action_lines plan 0 []
unfolding action_lines
no_actions plan start = sym (append-nil start)

-- the lines of the actions before a slot, and then that of this one
pub actions_further : (plan : SlotPlan) (actions : List Action) (slot owner : ℕ) (action other : Action) (start before after : List ℕ) → slot < length actions
    → owner ≡ owner_of_slot plan slot → action ≡ get_or actions slot other → before ≡ start ++ action_lines plan 0 (take slot actions) → after ≡ before ++ action_line slot owner action
    → after ≡ start ++ action_lines plan 0 (take (slot + 1) actions)
actions_further plan actions slot owner action other start before after within by is h g =
    let size : 0 + length (take slot actions) ≡ slot = zero-add _ ∙ length-take-le slot actions (omega arith) in
    grown start (action_lines plan 0 (take slot actions)) before after (action_line slot (owner_of_slot plan slot) (get_or actions slot other)) h
    (g ∙ ap (λ (n : ℕ). before ++ action_line slot n action) by ∙ ap (λ (a : Action). before ++ action_line slot (owner_of_slot plan slot) a) is)
    ∙ ap (λ (n : ℕ). start ++ (action_lines plan 0 (take slot actions) ++ action_line n (owner_of_slot plan n) (get_or actions slot other))) (sym size)
    ∙ ap (λ (text : List ℕ). start ++ text) (sym (action_last plan 0 (take slot actions) (get_or actions slot other)))
    ∙ ap (λ (acts : List Action). start ++ action_lines plan 0 acts) (sym (take_more actions slot other within))
