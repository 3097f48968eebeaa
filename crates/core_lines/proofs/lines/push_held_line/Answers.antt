use Rattle.std.proofs.Common.{◌≡◌, ◌≤◌, ◌∙◌, ℕ, List, length, OnOk, subst}
use Rattle.pmsi_model.specs.declared.Mode.{Mode}
use Rattle.cache_array.specs.Cache.{held_of}
use Rattle.core_lines.proofs.Parts.{held_further, held_whole}
use Rattle.core_lines.proofs.lines.push_held_line.Goals as goal

pub loop-held-preserved : goal.loop-held-preserved
loop-held-preserved c = held_further _ _ _ c.deref-held-items.result.now c.loop-held.held-index _ c.loop-held-test.true c.loop-held.invariant c.in_ok-push_held.ensures

pub returns : goal.returns
returns c =
    let P : List ℕ → Type 0 = λ x. OnOk c.push_newline.result (c.push_newline.new.out.items ≡ x) in
    let held : List (ℕ × Mode) = held_of c.args.cache.now.lines in
    let same : c.deref-held-items.result.now ≡ held = c.deref-held-items.ensures.value ∙ c.in_ok-held_lines.ensures in
    let all : length held ≤ c.loop-held.held-index = rw same at c.loop-held-test.false in
    subst P (held_whole _ _ _ held c.loop-held.held-index all c.in_ok-push_text.ensures (rw same at c.loop-held.invariant)) c.push_newline.ensures
