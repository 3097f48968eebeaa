-- The word at an address, from the copy of its line's owner or from shared memory.
use Rattle.std.proofs.Common.{◌≡◌, ℕ, ◌*◌, ◌/◌, ◌%◌, ◌<◌, List, get_or, Some, None, sym, ap, ◌∙◌, subst, arith}
use Rattle.pmsi_model.specs.declared.job.Geometry.{Geometry}
use Rattle.pmsi_model.specs.declared.Mode.TheVariants.{Modified}
use Rattle.pmsi_model.specs.Words.{number_of}
use Rattle.pmsi_model.specs.Geometry.{line_of}
use Rattle.pmsi_model.specs.Job.{JobValue}
use Rattle.pmsi_model.specs.Machine.{CoreState, mode_of}
use Rattle.pmsi_model.specs.Phase.{bytes_from}
use Rattle.pmsi_model.specs.Run.{machine_at}
use Rattle.pmsi_model.specs.Shared.{owner_in}
use Rattle.pmsi_model.specs.Parts.{word_at}
use Rattle.pmsi_model.proofs.Owners.{owner_below, owner_mode}
use Rattle.cache_array.specs.Cache.{held_of, words_of, word_place}
use Rattle.core_unit.specs.declared.state.State.{State}
use Rattle.core_unit.specs.Parts.{IsPart}
use Rattle.core_unit.proofs.Exports.{place_of_word, place_below, some_words, line_of_word}
use Rattle.sim_serial.specs.Sims.{SimValue, IsSimOf}

-- a word of memory by its address
word_there : (memory : List ℕ) (address : ℕ) → address % 4 ≡ 0 → word_at memory (address / 4) ≡ number_of (bytes_from address 4 memory)
word_there memory address aligned = let e : 4 * (address / 4) ≡ address = omega arith in ap (λ (a : ℕ). number_of (bytes_from a 4 memory)) e

div_twice : (a count : ℕ) → 0 < count → a / (4 * count) ≡ a / 4 / count
div_twice a count some = let p = place_of_word a count some in let b = place_below a count some in sym (ap (λ (n : ℕ). n / count) (sym p) ∙ line_of_word (a / (4 * count)) (a % (4 * count) / 4) count b)

module _ (job : JobValue) (slot : ℕ) (sim : SimValue) (at : IsSimOf job slot sim) where
  -- an owner is one of the cores, and holds the line
  pub owner_within : (line owner : ℕ) → owner_in sim.bus.memory line ≡ Some owner → owner < sim.bus.memory.shape.cores
  owner_within line owner is = subst (λ (g : Geometry). owner < g.cores) (sym at.side.memory.shape)
      (owner_below (machine_at job slot) job.shape.cores line owner (sym (at.side.memory.owners line) ∙ is))

  pub owner_holds : (line owner : ℕ) (k : State) → owner_in sim.bus.memory line ≡ Some owner → IsPart job slot owner k → mode_of line (held_of k.cache.lines) ≡ Some Modified
  owner_holds line owner k is part = ap (λ (j : CoreState). mode_of line j.held) (sym part.in_slot.stands.core)
      ∙ owner_mode (machine_at job slot) job.shape.cores line owner (sym (at.side.memory.owners line) ∙ is)

  -- its copy has the word
  pub copy_word : (address owner : ℕ) (k : State) (g : Geometry) → address % 4 ≡ 0 → g ≡ job.shape → owner_in sim.bus.memory (line_of job.shape address) ≡ Some owner → IsPart job slot owner k →
      get_or (words_of (line_of g address) k.cache.lines) (word_place g address) 0 ≡ number_of (bytes_from address 4 (machine_at job slot).memory)
  copy_word address owner k g aligned same is part = let some = some_words job.shape at.parts.within.shape in let line : ℕ = line_of job.shape address in
      ap (λ (h : Geometry). get_or (words_of (line_of h address) k.cache.lines) (word_place h address) 0) same
      ∙ part.in_slot.stands.carries.agree.words line (word_place job.shape address) (place_below address job.shape.line_words some) (λ none. let held = owner_holds line owner k is part in absurd cc)
      ∙ ap (word_at (machine_at job slot).memory) (place_of_word address job.shape.line_words some) ∙ word_there (machine_at job slot).memory address aligned

  -- where nobody owns the line shared memory has it
  pub shared_word : (address : ℕ) → address % 4 ≡ 0 → address < job.shape.memory → owner_in sim.bus.memory (line_of job.shape address) ≡ None →
      get_or sim.bus.memory.words (address / 4) 0 ≡ number_of (bytes_from address 4 (machine_at job slot).memory)
  shared_word address aligned below is = let some = some_words job.shape at.parts.within.shape in let m = at.side.memory in let size = m.size in
      m.words (address / 4) (omega arith)
      (sym (m.owners (address / 4 / job.shape.line_words)) ∙ ap (owner_in sim.bus.memory) (sym (div_twice address job.shape.line_words some)) ∙ is)
      ∙ word_there (machine_at job slot).memory address aligned
