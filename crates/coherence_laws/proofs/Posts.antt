-- What the post of a request does to the facts of each core, and what the fill of another core's does.
use Rattle.std.proofs.Common.{◌≡◌, ◌≢◌, ◌⊎◌, ℕ, ◌+◌, ◌<◌, ◌≤◌, List, [], ◌∷◌, ◌++◌, length, Option, Some, None, refl, arith}
use Rattle.pmsi_model.specs.declared.job.Geometry.{Geometry}
use Rattle.pmsi_model.specs.declared.Kind.{Kind}
use Rattle.pmsi_model.specs.declared.Kind.TheVariants.{Read, Write}
use Rattle.pmsi_model.specs.declared.Mode.{Mode}
use Rattle.pmsi_model.specs.declared.Mode.TheVariants.{Shared, Modified}
use Rattle.pmsi_model.specs.declared.Status.{Status}
use Rattle.pmsi_model.specs.declared.Want.{Want}
use Rattle.pmsi_model.specs.Machine.{Request, CoreState, mode_of, without, append_once, request_of, removed}
use Rattle.pmsi_model.specs.Phase.{set_lines}
use Rattle.pmsi_model.specs.Bus.{post_at, noted_post_in}
use Rattle.pmsi_model.specs.Coherent.{RequestsOnce}
use Rattle.pmsi_model.proofs.Held.{mode_without, once_without, fewer_without, room_without}
use Rattle.pmsi_model.proofs.WriteBacks.{line_append_once}
use Rattle.pmsi_model.proofs.Requests.{request_more, has_request_more, request_less, has_request_less, has_request_else}
use Rattle.coherence_laws.proofs.Fine.{IsWantFine, IsFine, FineCore, at_some, unmoved, relined, requeued}

-- ---- another core posts

-- who doesn't own the line
fine_posted_else : (shape : Geometry) (slot : ℕ) (posted : List Request) (d : ℕ) (held : List (ℕ × Mode)) (want : Option Want)
    (backs : List ℕ) (status : Status) (r : Request)
    → IsFine shape slot posted d held want backs status → r.core ≢ d → mode_of r.line held ≢ Some Modified
    → IsFine shape slot (posted ++ r ∷ []) d held want backs status
fine_posted_else shape slot posted d held want backs status r f other unowned =
    unmoved f (grind (arith, request_more d posted r, f.posted_wants))
    (λ l owned asked. grind (arith, has_request_more l posted r, f.demanded_waits l owned))
    (λ l has. grind (arith, has_request_more l posted r, f.back_due l has)) f.want_fine

room_left : (shape : Geometry) (line other : ℕ) (held : List (ℕ × Mode)) (victim : Option ℕ)
    → length (set_lines shape other held) ≤ shape.ways → mode_of line held ≢ None
    → ((mode_of other held ≢ None) ⊎ ((length (set_lines shape other held) < shape.ways) ⊎ (victim ≢ None)))
    → ((mode_of other (without line held) ≢ None) ⊎ ((length (set_lines shape other (without line held)) < shape.ways) ⊎ (victim ≢ None)))
room_left shape line other held victim within here room =
    grind (arith, mode_without other line held, fewer_without shape other line held, room_without shape other line held)

want_without : (shape : Geometry) (slot line : ℕ) (held : List (ℕ × Mode)) (backs : List ℕ) (status : Status) (want : Want)
    → IsWantFine shape slot held backs status want → mode_of line held ≡ Some Shared
    → length (set_lines shape want.line held) ≤ shape.ways → IsWantFine shape slot (without line held) backs status want
want_without shape slot line held backs status want w shared within = record {
  read_unheld = λ read. grind (arith, mode_without want.line line held, w.read_unheld read);
  write_unowned = λ write owned. grind (arith, mode_without want.line line held, w.write_unowned write);
  victim_owned = λ victim is. grind (arith, mode_without victim line held, w.victim_owned victim is);
  victim_waits = w.victim_waits;
  victim_of_set = w.victim_of_set;
  victim_other = w.victim_other;
  victim_unposted = w.victim_unposted;
  has_room = room_left shape line want.line held want.victim within (grind arith) w.has_room;
  issued = w.issued;
  posted = w.posted;
  runs = w.runs;
}

-- a shared copy is lost
fine_without : (shape : Geometry) (slot : ℕ) (posted : List Request) (d : ℕ) (held : List (ℕ × Mode)) (want : Option Want) (backs : List ℕ)
    (status : Status) (line : ℕ)
    → IsFine shape slot posted d held want backs status → mode_of line held ≡ Some Shared
    → IsFine shape slot posted d (without line held) want backs status
fine_without shape slot posted d held want backs status line f shared =
    relined f (once_without line held f.held_once) (λ l. grind (arith, fewer_without shape l line held, f.held_within l))
    (λ l owned. grind (arith, mode_without l line held)) (λ l has. grind (arith, mode_without l line held, f.back_owned l has))
    (λ w is. want_without shape slot line held backs status w (f.want_fine w is) shared (f.held_within w.line))

want_longer : (shape : Geometry) (slot line : ℕ) (held : List (ℕ × Mode)) (backs : List ℕ) (status : Status) (want : Want)
    → IsWantFine shape slot held backs status want
    → IsWantFine shape slot held (append_once line backs) status want
want_longer shape slot line held backs status want w = record {
  read_unheld = w.read_unheld;
  write_unowned = w.write_unowned;
  victim_owned = w.victim_owned;
  victim_waits = λ victim is. grind (arith, line_append_once victim line backs, w.victim_waits victim is);
  victim_of_set = w.victim_of_set;
  victim_other = w.victim_other;
  victim_unposted = w.victim_unposted;
  has_room = w.has_room;
  issued = w.issued;
  posted = w.posted;
  runs = w.runs;
}

-- who owns the line has to write it back
fine_posted_owner : (shape : Geometry) (slot : ℕ) (posted : List Request) (d : ℕ) (held : List (ℕ × Mode)) (want : Option Want)
    (backs : List ℕ) (status : Status) (r : Request)
    → IsFine shape slot posted d held want backs status → r.core ≢ d → mode_of r.line held ≡ Some Modified
    → IsFine shape slot (posted ++ r ∷ []) d held want (append_once r.line backs) status
fine_posted_owner shape slot posted d held want backs status r f other owner =
    requeued r.line f owner (grind (arith, request_more d posted r, f.posted_wants))
    (λ l owned asked. grind (arith, has_request_more l posted r, line_append_once l r.line backs, f.demanded_waits l owned))
    (λ l has. grind (arith, has_request_more l posted r, line_append_once l r.line backs, f.back_due l))
    (λ w is. want_longer shape slot r.line held backs status w (f.want_fine w is))

pub fine_noted : (shape : Geometry) (slot : ℕ) (posted : List Request) (d : ℕ) (k : CoreState) (r : Request) (kind : Kind) (mode : Option Mode)
    → FineCore shape slot posted d k → r.core ≢ d → mode_of r.line k.held ≡ mode
    → FineCore shape slot (posted ++ r ∷ []) d (noted_post_in kind r.line mode k)
fine_noted shape slot posted d k r kind None f other is = fine_posted_else shape slot posted d k.held k.want k.write_backs k.status r f other (λ owned. grind arith)
fine_noted shape slot posted d k r Read (Some Shared) f other is =
    fine_posted_else shape slot posted d k.held k.want k.write_backs k.status r f other (λ owned. grind arith)
fine_noted shape slot posted d k r Write (Some Shared) f other is =
    fine_posted_else shape slot posted d (without r.line k.held) k.want k.write_backs k.status r (fine_without shape slot posted d k.held k.want k.write_backs k.status r.line f is) other
    (λ owned. grind (arith, mode_without r.line r.line k.held))
fine_noted shape slot posted d k r kind (Some Modified) f other is = fine_posted_owner shape slot posted d k.held k.want k.write_backs k.status r f other is

-- ---- the core itself posts

want_post : (shape : Geometry) (slot : ℕ) (held : List (ℕ × Mode)) (backs : List ℕ) (status : Status) (want : Want)
    → IsWantFine shape (slot + 1) held backs status want → want.victim ≡ None
    → IsWantFine shape (slot + 1) held backs status (post_at slot want)
want_post shape slot held backs status want w free = record {
  read_unheld = w.read_unheld;
  write_unowned = w.write_unowned;
  victim_owned = w.victim_owned;
  victim_waits = w.victim_waits;
  victim_of_set = w.victim_of_set;
  victim_other = w.victim_other;
  victim_unposted = λ victim is. absurd (grind arith);
  has_room = w.has_room;
  issued = w.issued;
  posted = (let i = w.issued in omega arith, omega arith);
  runs = w.runs;
}

pub fine_post : (shape : Geometry) (slot : ℕ) (posted : List Request) (c : ℕ) (held : List (ℕ × Mode)) (want : Want) (backs : List ℕ) (status : Status) (r : Request)
    → IsFine shape (slot + 1) posted c held (Some want) backs status → want.post ≡ None → want.victim ≡ None
    → r ≡ record { core = c; line = want.line; kind = want.kind }
    → IsFine shape (slot + 1) (posted ++ r ∷ []) c held (Some (post_at slot want)) backs status
fine_post shape slot posted c held want backs status r f unposted free mine = let w = f.want_fine want refl in
    unmoved f (grind (arith, request_more c posted r, f.posted_wants))
    (λ l owned asked. grind (arith, has_request_more l posted r, f.demanded_waits l owned, w.read_unheld, w.write_unowned))
    (λ l has. grind (arith, has_request_more l posted r, f.back_due l has))
    (λ v is. at_some (IsWantFine shape (slot + 1) held backs status) (post_at slot want) v (want_post shape slot held backs status want w free) is)

-- ---- another core's request is filled

pub fine_rest : (shape : Geometry) (slot : ℕ) (posted : List Request) (c d : ℕ) (held : List (ℕ × Mode)) (want : Option Want)
    (backs : List ℕ) (status : Status) (r : Request)
    → IsFine shape slot posted d held want backs status → d ≢ c → RequestsOnce posted → request_of c posted ≡ Some r
    → mode_of r.line held ≢ Some Modified
    → IsFine shape slot (removed c posted) d held want backs status
fine_rest shape slot posted c d held want backs status r f other once is unowned =
    unmoved f (grind (arith, request_less d c posted, f.posted_wants)) (λ l owned asked. f.demanded_waits l owned (has_request_less l c posted asked))
    (λ l has. grind (arith, has_request_else l c posted r once is, f.back_due l has, f.back_owned l has)) f.want_fine
