-- Where `go` ends.
use Rattle.std.proofs.Common.{◌≡◌, ◌∙◌, ℕ, suc, ◌+◌, ◌-◌, ◌<◌, ◌≤◌, min, Bool, true, false, List, refl, ap, sym, arith}
use Rattle.pmsi_model.specs.Job.{JobValue}
use Rattle.pmsi_model.specs.Run.{machine_at}
use Rattle.script_text.specs.declared.command.Breakpoint.{Breakpoint}
use Rattle.script_text.specs.Output.{go_end, holds_any}

module _ (job : JobValue) (breaks : List Breakpoint) (slot : ℕ) where
  holds : ℕ → Bool
  holds boundary = holds_any (machine_at job boundary) breaks

  above : slot < job.shape.slots → job.shape.slots - slot ≡ suc (job.shape.slots - (slot + 1))
  above more = omega arith

  pub go_stops : slot < job.shape.slots → holds_any (machine_at job (slot + 1)) breaks ≡ true → go_end job breaks slot ≡ slot + 1
  unfolding go_end
  go_stops more here = rw (above more, here) refl

  pub go_passes : slot < job.shape.slots → holds_any (machine_at job (slot + 1)) breaks ≡ false → go_end job breaks slot ≡ go_end job breaks (slot + 1)
  unfolding go_end
  go_passes more other = rw (above more, other) refl

pub go_ends : (job : JobValue) (breaks : List Breakpoint) → go_end job breaks job.shape.slots ≡ job.shape.slots
unfolding go_end
go_ends job breaks = let none : job.shape.slots - job.shape.slots ≡ 0 = omega arith in rw none refl

-- ---- the lesser of two numbers

pub least_of : (n a b : ℕ) → n ≤ a → n ≤ b → n ≤ min a b
least_of n a b below_a below_b = grind (arith)

-- ---- the end of `go` at a slot that is the last

pub go_from : (job : JobValue) (breaks : List Breakpoint) (slot : ℕ) → slot ≡ job.shape.slots → go_end job breaks slot ≡ slot
go_from job breaks slot last = ap (go_end job breaks) last ∙ go_ends job breaks ∙ sym last
