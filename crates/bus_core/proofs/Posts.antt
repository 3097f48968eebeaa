-- The words of a request that is filled in the slot of its post.
use Rattle.std.proofs.Common.{◌≡◌, ℕ, List, Some, None, true, if◌then◌else◌, subst, arith}
use Rattle.pmsi_model.specs.declared.Kind.{Kind}
use Rattle.pmsi_model.specs.declared.Name.{Name}
use Rattle.pmsi_model.specs.Machine.{Request, request_of}
use Rattle.pmsi_model.specs.Bus.{kind_of_name}
use Rattle.pmsi_model.specs.Shared.{SharedValue, is_ready, line_in, with_request, posted_in}
use Rattle.pmsi_model.proofs.Requests.{request_more}

-- the request that is posted is the core's
pub posted_request : (c line : ℕ) (kind : Kind) (m : SharedValue) → request_of c m.posted ≡ None
    → request_of c (with_request c line kind m).posted ≡ Some (record { core = c; line = line; kind = kind })
posted_request c line kind m none = grind (arith, request_more c m.posted (record { core = c; line = line; kind = kind }))

pub posted_words : (m p : SharedValue) (c line : ℕ) (name : Name) (words old : List ℕ) → request_of c m.posted ≡ None → p ≡ posted_in c line name m
    → is_ready p c ≡ true → ((r : Request) → request_of c p.posted ≡ Some r → words ≡ line_in p r.line)
    → words ≡ (if is_ready (posted_in c line name m) c then line_in m line else old)
posted_words m p c line name words old none posted ready filled =
    let is_so = rw posted at ready in
    rw is_so (subst (λ (q : SharedValue). ((r : Request) → request_of c q.posted ≡ Some r → words ≡ line_in q r.line)) posted filled (record { core = c; line = line; kind = kind_of_name name }) (posted_request c line (kind_of_name name) m none))
