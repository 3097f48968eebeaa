-- What of the queues a wait is reckoned by.
use Rattle.std.proofs.Common.{◌≡◌, ℕ, ◌<◌, List, [], ◌∷◌, Option, Some, None, true, refl, subst, arith}
use Rattle.std.specs.Option.{IfSome, option_map, unwrap_or}
use Rattle.pmsi_model.specs.Machine.{Machine, Request, first_of, has_line, has_request, owner_of, request_of}
use Rattle.pmsi_model.specs.Coherent.{IsCoherent}
use Rattle.pmsi_model.specs.declared.job.Geometry.{Geometry}
use Rattle.pmsi_model.specs.Shared.{IsShared, SharedValue}
use Rattle.pmsi_model.specs.Waiting.{place_of}
use Rattle.pmsi_model.proofs.Owners.{owner_mode}
use Rattle.pmsi_model.proofs.Requests.{first_request, request_core, request_queued}
use Rattle.pend_buffers.specs.Pending.{place_in}
use Rattle.memory_lut.proofs.Exports.{all_request}

-- the place of a line that waits
pub place_is : (line : ℕ) (lines : List ℕ) → has_line line lines ≡ true → place_in line lines ≡ Some (place_of line lines)
place_is line [] listed = absurd (grind arith)
place_is line (l ∷ ls) listed = grind (arith, place_is line ls)

asked_line : (c line : ℕ) (rs : List Request) (asked : Option Request) → request_of c rs ≡ asked → option_map (λ r. r.line) asked ≡ Some line → has_request line rs ≡ true
asked_line c line rs None is maps = absurd (cc)
asked_line c line rs (Some r) is maps = let here : r.line ≡ line = cc in subst (λ n. has_request n rs ≡ true) here (request_queued c rs r is)

-- the owner of a line that a core has asked for has it to write back
pub owner_waits : (shape : Geometry) (x : Machine) (count c line owner : ℕ) → IsCoherent shape x → owner_of x count line ≡ Some owner
    → option_map (λ r. r.line) (request_of c x.posted) ≡ Some line → has_line line (x.cores owner).write_backs ≡ true
owner_waits shape x count c line owner fine owned posted =
    fine.demanded_waits owner line (owner_mode x count line owner owned) (asked_line c line x.posted (request_of c x.posted) refl posted)

below_first : (m : SharedValue) (line c : ℕ) (first : Option ℕ) → IsShared m → c < m.shape.cores → first_of line m.posted ≡ first → unwrap_or first c < m.shape.cores
below_first m line c None shared below is = below
below_first m line c (Some d) shared below is = let found = first_request d line m.posted shared.once is in
    subst (λ n. n < m.shape.cores) (request_core d m.posted found.0 found.1) (all_request (λ (r : Request). r.core < m.shape.cores) d m.posted found.0 shared.cores found.1)

-- the first of a queue is one of the cores
pub first_below : (m : SharedValue) (line c : ℕ) → IsShared m → c < m.shape.cores → unwrap_or (first_of line m.posted) c < m.shape.cores
first_below m line c shared below = below_first m line c (first_of line m.posted) shared below refl

-- what holds of whatever is there
pub if_some : (o : Option ℕ) (P : ℕ → Type 0) → ((n : ℕ) → o ≡ Some n → P n) → IfSome o P
if_some None P each = tt
if_some (Some n) P each = each n refl
