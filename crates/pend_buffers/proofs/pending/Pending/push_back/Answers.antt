-- The queue is within its length, and lists the line once.
use Rattle.std.proofs.Common.{◌≡◌, ℕ, ◌+◌, ◌<◌, List, [], ◌∷◌, ◌++◌, length, false, length-append, sym, ap, ◌∙◌, subst, arith}
use Rattle.pmsi_model.specs.Machine.{has_line}
use Rattle.pmsi_model.specs.Coherent.{ListsEachOnce}
use Rattle.pmsi_model.proofs.WriteBacks.{once_more}
use Rattle.pend_buffers.specs.Pending.{PendingValue, IsPending}
use Rattle.pend_buffers.proofs.pending.Pending.push_back.Goals as goal

longer : (line : ℕ) (p q : PendingValue) (lines : List ℕ) → p ≡ q → IsPending p → length q.write_backs < q.cores → has_line line q.write_backs ≡ false → lines ≡ p.write_backs ++ line ∷ [] → IsPending (record p { write_backs = lines })
longer line p q lines same is room lacks more =
    let room' : length p.write_backs < p.cores = subst (λ (v : PendingValue). length v.write_backs < v.cores) (sym same) room in
    let lacks' : has_line line p.write_backs ≡ false = ap (λ (v : PendingValue). has_line line v.write_backs) same ∙ lacks in
    let count : length lines ≡ length p.write_backs + 1 = ap (λ (ls : List ℕ). length ls) more ∙ length-append p.write_backs (line ∷ []) in
    record {
      some = is.some;
      within = is.within;
      few = omega arith;
      once = subst ListsEachOnce (sym more) (once_more line p.write_backs is.once lacks');
    }

pub invariant_of-self : goal.invariant_of-self
invariant_of-self c = longer c.args.line _ _ c.push.new.self c.self.view_is c.self.invariant c.requires.room c.requires.lacks c.push.ensures
