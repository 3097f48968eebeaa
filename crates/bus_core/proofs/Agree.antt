-- Buses of one job at one slot agree.
use Rattle.std.proofs.Common.{◌≡◌, ℕ, ◌/◌, ◌<◌, length, None, Bool, [], if◌then◌else◌, sym, ap, ◌∙◌, subst, arith}
use Rattle.pmsi_model.specs.declared.job.Geometry.{Geometry}
use Rattle.pmsi_model.specs.Job.{JobValue}
use Rattle.pmsi_model.specs.Machine.{owner_of}
use Rattle.pmsi_model.specs.Run.{machine_at, records}
use Rattle.pmsi_model.specs.Shared.{BusSide, owner_in}
use Rattle.pmsi_model.specs.Parts.{IsBusPart}
use Rattle.bus_core.specs.Agree.{BusesAgree, BusPartsAgree}

module _ (job : JobValue) (slot : ℕ) (a b : BusSide) (p : IsBusPart job slot a) (q : IsBusPart job slot b) where
  same_size : length a.memory.words ≡ length b.memory.words
  same_size = let m = p.memory.size in let n = q.memory.size in omega arith

  -- nobody owns the line in the machine either
  unowned : (i : ℕ) → owner_in a.memory (i / a.memory.shape.line_words) ≡ None → owner_of (machine_at job slot) job.shape.cores (i / job.shape.line_words) ≡ None
  unowned i free = sym (p.memory.owners (i / job.shape.line_words))
      ∙ ap (λ (g : Geometry). owner_in a.memory (i / g.line_words)) (sym p.memory.shape) ∙ free

  agree : a.keeps ≡ b.keeps → BusesAgree a b
  agree keeps = record {
    shape = p.memory.shape ∙ sym q.memory.shape;
    posted = p.memory.posted ∙ sym q.memory.posted;
    owners = λ line. p.memory.owners line ∙ sym (q.memory.owners line);
    size = same_size;
    words = λ i below free. p.memory.words i below (unowned i free) ∙ sym (q.memory.words i (subst (λ (n : ℕ). i < n) same_size below) (unowned i free));
    plan = p.plan ∙ sym q.plan;
    slot = p.now ∙ sym q.now;
    recent = p.recent ∙ sym q.recent;
    keeps = keeps;
    trace = p.trace ∙ ap (λ (k : Bool). if k then records job slot else []) keeps ∙ sym q.trace;
  }

pub parts_agree : BusPartsAgree
parts_agree job slot a b p q keeps = agree job slot a b p q keeps
