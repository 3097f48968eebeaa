-- What two buses have alike.
use Rattle.std.specs.Prelude.{◌≡◌, ℕ, ◌/◌, ◌<◌, length, slice_index, None}
use Rattle.pmsi_model.specs.Job.{JobValue}
use Rattle.pmsi_model.specs.Shared.{BusSide, owner_in}
use Rattle.pmsi_model.specs.Parts.{IsBusPart}

-- two buses agree in all that can be read of them, but in the words of owned lines, which may be stale
pub record BusesAgree (a b : BusSide) : Type 0 where
  pub shape : a.memory.shape ≡ b.memory.shape
  pub posted : a.memory.posted ≡ b.memory.posted
  pub owners : (line : ℕ) → owner_in a.memory line ≡ owner_in b.memory line
  pub size : length a.memory.words ≡ length b.memory.words
  pub words : (i : ℕ) → i < length a.memory.words → owner_in a.memory (i / a.memory.shape.line_words) ≡ None →
      slice_index a.memory.words i ≡ slice_index b.memory.words i
  pub plan : a.plan ≡ b.plan
  pub slot : a.slot ≡ b.slot
  pub recent : a.recent ≡ b.recent
  pub keeps : a.keeps ≡ b.keeps
  pub trace : a.trace ≡ b.trace

-- buses of one job at one slot that keep the same agree
abbrev pub BusPartsAgree : Type 0
BusPartsAgree = (job : JobValue) (slot : ℕ) (a b : BusSide) → IsBusPart job slot a → IsBusPart job slot b → a.keeps ≡ b.keeps → BusesAgree a b
