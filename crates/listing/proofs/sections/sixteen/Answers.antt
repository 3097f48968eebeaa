use Rattle.std.proofs.Common.{◌+◌, ◌≤◌, ℕ, List, length, ◌∙◌, sym, subst, arith}
use Rattle.pmsi_model.specs.declared.job.Geometry.{Geometry}
use Rattle.pmsi_model.specs.Run.{machine_at}
use Rattle.latest_laws.proofs.Exports.{run_ready}
use Rattle.listing.proofs.Sixteens.{word_bytes, sixteen_bytes}
use Rattle.listing.proofs.sections.sixteen.Goals as goal

pub returns : goal.returns
returns c = λ job slot at.
    let memory : List ℕ = (machine_at job slot).memory in
    let bytes = (run_ready job at.parts.within slot).bytes in
    let fits : c.args.address + 16 ≤ length memory = subst (λ (n : ℕ). c.args.address + 16 ≤ n) (sym (run_ready job at.parts.within slot).extent) (subst (λ (g : Geometry). c.args.address + 16 ≤ g.memory) at.side.memory.shape c.requires.within) in
    sixteen_bytes memory c.args.address c.to_le_bytes-a.result c.to_le_bytes-b.result c.to_le_bytes-c.result c.to_le_bytes-d.result fits
    (c.to_le_bytes-a.ensures ∙ word_bytes memory c.args.address c.word.result bytes (omega arith) (c.word.ensures job slot at))
    (c.to_le_bytes-b.ensures ∙ word_bytes memory (c.args.address + 4) c.word-2.result bytes (omega arith) (c.word-2.ensures job slot at))
    (c.to_le_bytes-c.ensures ∙ word_bytes memory (c.args.address + 8) c.word-3.result bytes (omega arith) (c.word-3.ensures job slot at))
    (c.to_le_bytes-d.ensures ∙ word_bytes memory (c.args.address + 12) c.word-4.result bytes (omega arith) (c.word-4.ensures job slot at))
