-- The first round from line to line.
use Rattle.std.proofs.Common.{◌≡◌, ℕ, ◌+◌, List, [], ◌∷◌, ◌++◌, length, Option, Some, None, refl, ap, sym, subst, ◌∙◌, length-append, append_assoc, append-nil}
use Rattle.std.specs.List.{All}
use Rattle.std.proofs.lemmas.List.Elements.{All-head, All-tail}
use Rattle.asm_parse.specs.declared.fault.AsmCause.{AsmCause}
use Rattle.asm_parse.specs.declared.fault.AsmFault.{AsmFault}
use Rattle.asm_parse.specs.Lines.{lines_of}
use Rattle.asm_parse.specs.Assembly.{Before, Step, at_start, at_line, after_step, step_of, steps_from, steps_of, first_of, first_fault}
use Rattle.asm_link.specs.declared.layout.Layout.{Layout}
use Rattle.asm_link.specs.Rounds.{IsLayout, before_of, next_step, AddsLine, RefusesLine}
use Rattle.asm_link.proofs.Laying.{so_far, before_append}

-- the lines of a source up to a rest are laid out
pub record IsReadTo (source : List ℕ) (layout : Layout) (rest : List ℕ) : Type 0 where
  pub steps : List Step
  pub laid : IsLayout layout steps
  pub cut : steps_of source ≡ steps ++ steps_from (length steps + 1) (so_far steps) (lines_of rest)

pub begins : (source : List ℕ) (layout : Layout) → IsLayout layout [] → IsReadTo source layout source
unfolding steps_of before_of
begins source layout h = record { steps = []; laid = h; cut = refl }

from_line : (n : ℕ) (b : Before) (line : List ℕ) (lines : List (List ℕ)) → steps_from n b (line ∷ lines) ≡ step_of n b line ∷ steps_from (n + 1) (after_step b (step_of n b line)) lines
unfolding steps_from
from_line n b line lines = refl

pub goes_on : (source : List ℕ) (old new : Layout) (rest line after : List ℕ) → lines_of rest ≡ line ∷ lines_of after → IsReadTo source old rest → AddsLine line old new → IsReadTo source new after
goes_on source old new rest line after cut h adds =
    let steps = h.steps in
    let step = next_step steps line in
    let more : so_far (steps ++ step ∷ []) ≡ after_step (so_far steps) step = before_append at_start steps step in
    let count : length (steps ++ step ∷ []) ≡ length steps + 1 = length-append steps (step ∷ []) in
    record {
      steps = steps ++ step ∷ [];
      laid = adds steps h.laid;
      cut = h.cut ∙ ap (λ (lines : List (List ℕ)). steps ++ steps_from (length steps + 1) (so_far steps) lines) cut
          ∙ ap (λ (k : List Step). steps ++ k) (from_line (length steps + 1) (so_far steps) line (lines_of after))
          ∙ sym (append_assoc steps (step ∷ []) (steps_from (length steps + 1 + 1) (after_step (so_far steps) step) (lines_of after)))
          ∙ rw (count, more) refl;
    }

pub ends : (source : List ℕ) (layout : Layout) (rest : List ℕ) → lines_of rest ≡ [] → IsReadTo source layout rest → IsLayout layout (steps_of source)
unfolding steps_from
ends source layout rest cut h =
    let all : steps_of source ≡ h.steps = h.cut ∙ ap (λ (lines : List (List ℕ)). h.steps ++ steps_from (length h.steps + 1) (so_far h.steps) lines) cut ∙ append-nil h.steps in
    rw all h.laid

-- faults behind steps that have none
pub fault_behind : (fault : Step → Option AsmCause) (xs ys : List Step) → All (λ step. fault step ≡ None) xs → first_fault fault (xs ++ ys) ≡ first_fault fault ys
unfolding first_of
fault_behind fault [] ys none = refl
fault_behind fault (x ∷ xs) ys none = rw (All-head (λ step. fault step ≡ None) x xs none) (fault_behind fault xs ys (All-tail (λ step. fault step ≡ None) x xs none))

pub fault_here : (fault : Step → Option AsmCause) (step : Step) (steps : List Step) (f : AsmFault) → at_line step.number (fault step) ≡ Some f → first_fault fault (step ∷ steps) ≡ Some f
unfolding first_of
fault_here fault step steps f e = rw e refl

number_of_next : (steps : List Step) (line : List ℕ) → (next_step steps line).number ≡ length steps + 1
unfolding step_of
number_of_next steps line = refl

pub stops : (source : List ℕ) (layout : Layout) (rest line after : List ℕ) (fault : AsmFault) → lines_of rest ≡ line ∷ lines_of after → IsReadTo source layout rest → RefusesLine line layout fault
    → first_fault (λ step. step.fault) (steps_of source) ≡ Some fault
stops source layout rest line after fault cut h refuses =
    let steps = h.steps in
    let step = next_step steps line in
    let later = steps_from (length steps + 1 + 1) (after_step (so_far steps) step) (lines_of after) in
    let e : steps_of source ≡ steps ++ step ∷ later = h.cut ∙ ap (λ (lines : List (List ℕ)). steps ++ steps_from (length steps + 1) (so_far steps) lines) cut
    ∙ ap (λ (k : List Step). steps ++ k) (from_line (length steps + 1) (so_far steps) line (lines_of after)) in
    let number : layout.number ≡ step.number = h.laid.number ∙ sym (number_of_next steps line) in
    rw e (fault_behind (λ step. step.fault) steps (step ∷ later) h.laid.faultless ∙ fault_here (λ step. step.fault) step later fault (subst (λ (n : ℕ). at_line n step.fault ≡ Some fault) number (refuses steps h.laid)))
