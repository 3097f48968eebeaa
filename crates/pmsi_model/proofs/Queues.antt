-- The readers of the posted requests, by the queue of a line.
use Rattle.std.proofs.Common.{◌≡◌, ℕ, List, [], ◌∷◌, Some, refl, arith}
use Rattle.std.specs.List.{list_any}
use Rattle.pmsi_model.specs.Machine.{Request, queue_of, first_of, first_core, has_request, has_any, has_write, is_write, ahead, before, request_of, QueueIsRead, PlaceIsRead}

pub first_of-queue : (line : ℕ) (posted : List Request) → first_of line posted ≡ first_core (queue_of line posted)
first_of-queue line [] = refl
first_of-queue line (r ∷ rs) = grind (arith, first_of-queue line rs)

pub has_request-queue : (line : ℕ) (posted : List Request) → has_request line posted ≡ has_any (queue_of line posted)
has_request-queue line [] = refl
has_request-queue line (r ∷ rs) = grind (arith, has_request-queue line rs)

pub has_write-queue : (line : ℕ) (posted : List Request) → has_write line posted ≡ list_any (λ r. is_write r.kind) (queue_of line posted)
has_write-queue line [] = refl
has_write-queue line (r ∷ rs) = grind (arith, has_write-queue line rs)

pub ahead-queue : (c line : ℕ) (posted : List Request) (r : Request) → request_of c posted ≡ Some r → r.line ≡ line → ahead c line posted ≡ before c (queue_of line posted)
ahead-queue c line [] r there at = grind arith
ahead-queue c line (x ∷ xs) r there at = grind (arith, ahead-queue c line xs r)

pub queue_is_read : QueueIsRead
queue_is_read line posted = (first_of-queue line posted, has_request-queue line posted, has_write-queue line posted)

pub place_is_read : PlaceIsRead
place_is_read c line posted r there at = ahead-queue c line posted r there at
