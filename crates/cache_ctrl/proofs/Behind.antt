-- The requests behind a core's own.
use Rattle.std.proofs.Common.{◌≡◌, ◌≢◌, ℕ, List, [], ◌∷◌, ◌++◌, true, Some, None, ◌==◌, ◌&&◌, refl, arith}
use Rattle.pmsi_model.specs.Machine.{Request, is_write, first_of, has_request, has_write, request_of, removed}
use Rattle.pmsi_model.specs.Coherent.{RequestsOnce}
use Rattle.pmsi_model.specs.declared.Kind.TheVariants.{Write}
use Rattle.pmsi_model.proofs.Requests.{removed_none, has_request_else, has_write_else}
use Rattle.pmsi_model.proofs.Cases.{by_test}
use Rattle.pmsi_model.specs.Named.{behind_of}

pub behind_more : (c : ℕ) (rs : List Request) (r q : Request) → request_of c rs ≡ Some q → behind_of c (rs ++ r ∷ []) ≡ behind_of c rs ++ r ∷ []
unfolding behind_of
behind_more c [] r q is = absurd (grind arith)
behind_more c (x ∷ rs) r q is = grind (arith, behind_more c rs r q)

pub behind_new : (rs : List Request) (r : Request) → request_of r.core rs ≡ None → behind_of r.core (rs ++ r ∷ []) ≡ []
unfolding behind_of
behind_new [] r none = grind arith
behind_new (x ∷ rs) r none = grind (arith, behind_new rs r)

-- what is left behind the first of a queue is what is behind it
pub has_behind_first : (c line : ℕ) (rs : List Request) → RequestsOnce rs → first_of line rs ≡ Some c
    → has_request line (removed c rs) ≡ has_request line (behind_of c rs)
unfolding behind_of
has_behind_first c line [] once first = grind arith
has_behind_first c line (x ∷ rs) once first = grind (arith, has_behind_first c line rs once.1, removed_none c rs, once.0)

pub write_behind_first : (c line : ℕ) (rs : List Request) → RequestsOnce rs → first_of line rs ≡ Some c
    → has_write line (removed c rs) ≡ has_write line (behind_of c rs)
unfolding behind_of
write_behind_first c line [] once first = grind arith
write_behind_first c line (x ∷ rs) once first = grind (arith, write_behind_first c line rs once.1, removed_none c rs, once.0)

-- what is behind a core's request stays when the first of its queue, which is another's, is removed
pub has_behind_other : (c d line : ℕ) (rs : List Request) (r : Request) → RequestsOnce rs → first_of line rs ≡ Some d → d ≢ c
    → request_of c rs ≡ Some r → r.line ≡ line → has_request line (behind_of c (removed d rs)) ≡ has_request line (behind_of c rs)
unfolding behind_of
has_behind_other c d line [] r once first other is at = grind arith
has_behind_other c d line (x ∷ rs) r once first other is at = grind (arith, has_behind_other c d line rs r once.1, removed_none d rs, once.0)

pub write_behind_other : (c d line : ℕ) (rs : List Request) (r : Request) → RequestsOnce rs → first_of line rs ≡ Some d → d ≢ c
    → request_of c rs ≡ Some r → r.line ≡ line → has_write line (behind_of c (removed d rs)) ≡ has_write line (behind_of c rs)
unfolding behind_of
write_behind_other c d line [] r once first other is at = grind arith
write_behind_other c d line (x ∷ rs) r once first other is at = grind (arith, write_behind_other c d line rs r once.1, removed_none d rs, once.0)

-- and so does what is behind in the queue of a line that the removed request isn't for
pub has_behind_else : (c d line : ℕ) (rs : List Request) (r : Request) → RequestsOnce rs → request_of d rs ≡ Some r → r.line ≢ line → d ≢ c
    → has_request line (behind_of c (removed d rs)) ≡ has_request line (behind_of c rs)
unfolding behind_of
has_behind_else c d line [] r once is away other = grind arith
has_behind_else c d line (x ∷ rs) r once is away other = grind (arith, has_behind_else c d line rs r once.1, removed_none d rs, has_request_else line d rs r once.1, once.0)

pub write_behind_else : (c d line : ℕ) (rs : List Request) (r : Request) → RequestsOnce rs → request_of d rs ≡ Some r → r.line ≢ line → d ≢ c
    → has_write line (behind_of c (removed d rs)) ≡ has_write line (behind_of c rs)
unfolding behind_of
write_behind_else c d line [] r once is away other = grind arith
write_behind_else c d line (x ∷ rs) r once is away other = grind (arith, write_behind_else c d line rs r once.1, removed_none d rs, has_write_else line d rs r once.1, once.0)

-- a write behind is another core's request
pub writer_of : (line : ℕ) (rs : List Request) → RequestsOnce rs → has_write line rs ≡ true
    → (r : Request) × (request_of r.core rs ≡ Some r) × (r.line ≡ line) × (r.kind ≡ Write)
writer_of line [] once has = absurd (grind arith)
writer_of line (x ∷ rs) once has =
    by_test (λ b. b ≡ true → (r : Request) × (request_of r.core (x ∷ rs) ≡ Some r) × (r.line ≡ line) × (r.kind ≡ Write)) ((x.line == line) && is_write x.kind) true (has_write line rs)
    (λ here yes. (x, grind arith, grind arith, grind arith))
    (λ other later. let w = writer_of line rs once.1 later in (w.0, grind (arith, w.1, once.0), w.2, w.3))
    (grind arith)

pub behind_once : (c : ℕ) (rs : List Request) → RequestsOnce rs → RequestsOnce (behind_of c rs) × (request_of c (behind_of c rs) ≡ None)
unfolding behind_of
behind_once c [] once = (once, refl)
behind_once c (x ∷ rs) once = grind (arith, behind_once c rs once.1, once.0, once.1)

pub behind_request : (c d : ℕ) (rs : List Request) (r : Request) → RequestsOnce rs → request_of d (behind_of c rs) ≡ Some r → request_of d rs ≡ Some r
unfolding behind_of
behind_request c d [] r once is = grind arith
behind_request c d (x ∷ rs) r once is = grind (arith, behind_request c d rs r once.1, once.0)
