-- What the fill of its request does to the facts of a core.
use Rattle.std.proofs.Common.{◌≡◌, ◌≢◌, ◌⊎◌, ℕ, ◌+◌, ◌<◌, ◌≤◌, List, length, Some, None, is_some, Bool, true, false, ◌==◌, ◌&&◌, ◌||◌, if◌then◌else◌, refl, ap, arith}
use Rattle.std.specs.List.{filter}
use Rattle.pmsi_model.specs.declared.job.Geometry.{Geometry}
use Rattle.pmsi_model.specs.declared.Kind.{Kind}
use Rattle.pmsi_model.specs.declared.Kind.TheVariants.{Read, Write}
use Rattle.pmsi_model.specs.declared.Mode.{Mode}
use Rattle.pmsi_model.specs.declared.Mode.TheVariants.{Shared, Modified}
use Rattle.pmsi_model.specs.declared.Status.{Status}
use Rattle.pmsi_model.specs.declared.Want.{Want}
use Rattle.pmsi_model.specs.Geometry.{set_of}
use Rattle.pmsi_model.specs.Machine.{Request, mode_of, without, to_front, has_line, has_request, has_write, request_of, removed}
use Rattle.pmsi_model.specs.Phase.{set_lines}
use Rattle.pmsi_model.specs.Bus.{filled_line, append_demanded}
use Rattle.pmsi_model.specs.Coherent.{ListsEachOnce, RequestsOnce}
use Rattle.pmsi_model.proofs.Held.{mode_to_front, once_to_front, fewer_without, room_without, count_to_front}
use Rattle.pmsi_model.proofs.WriteBacks.{line_more, once_more}
use Rattle.pmsi_model.proofs.Requests.{request_less, has_request_less, has_request_else}
use Rattle.pmsi_model.proofs.Cases.{by_test}
use Rattle.coherence_laws.proofs.Fine.{IsFine, no_victim, unmoved, relined}

line_demanded : (l line : ℕ) (backs : List ℕ) (behind : Bool)
    → has_line l (append_demanded Write behind line backs) ≡ (has_line l backs || (behind && line == l))
line_demanded l line backs true = grind (arith, line_more l line backs)
line_demanded l line backs false = grind arith

once_demanded : (line : ℕ) (backs : List ℕ) (behind : Bool) → ListsEachOnce backs → has_line line backs ≡ false
    → ListsEachOnce (append_demanded Write behind line backs)
once_demanded line backs true once new = once_more line backs once new
once_demanded line backs false once new = once

-- the filled line finds room in its set
filled_within : (shape : Geometry) (l line : ℕ) (mode : Mode) (held : List (ℕ × Mode)) → length (set_lines shape l held) ≤ shape.ways
    → (mode_of line held ≢ None) ⊎ (length (set_lines shape line held) < shape.ways)
    → length (set_lines shape l (to_front line mode held)) ≤ shape.ways
filled_within shape l line mode held within room =
    let h : (if set_of shape line == set_of shape l then 1 else 0) + length (set_lines shape l (without line held)) ≤ shape.ways =
    by_test (λ (n : ℕ). n + length (set_lines shape l (without line held)) ≤ shape.ways) (set_of shape line == set_of shape l) 1 0
    (λ same. let e : set_of shape line ≡ set_of shape l = grind arith in
    let n : length (set_lines shape line held) ≡ length (set_lines shape l held) = ap (λ (s : ℕ). length (filter (λ h. set_of shape h.0 == s) held)) e in
    grind (arith, fewer_without shape l line held, room_without shape l line held))
    (λ other. grind (arith, fewer_without shape l line held)) in
    grind (arith, count_to_front shape l line mode held, h)

-- other lines are held as before
pub filled_else : (kind : Kind) (behind : Bool) (line l : ℕ) (held : List (ℕ × Mode)) → l ≢ line → mode_of l (filled_line kind behind line held) ≡ mode_of l held
filled_else Read true line l held other = refl
filled_else Read false line l held other = grind (arith, mode_to_front l line Shared held)
filled_else Write behind line l held other = grind (arith, mode_to_front l line Modified held)

fine_fill_write : (shape : Geometry) (slot : ℕ) (posted : List Request) (c : ℕ) (held : List (ℕ × Mode)) (want : Want) (backs : List ℕ)
    (status : Status) (behind : Bool)
    → IsFine shape slot posted c held (Some want) backs status → RequestsOnce posted → is_some want.post ≡ true → want.kind ≡ Write
    → has_request want.line (removed c posted) ≡ behind
    → IsFine shape slot (removed c posted) c (to_front want.line Modified held) None (append_demanded Write behind want.line backs) status
fine_fill_write shape slot posted c held want backs status behind f once post write is =
    let w = f.want_fine want refl in let free = no_victim shape slot held backs status want w post in
    let mine : request_of c posted ≡ Some (record { core = c; line = want.line; kind = want.kind }) = grind (arith, f.posted_wants) in
    let unowned : mode_of want.line held ≢ Some Modified = w.write_unowned write in
    let new : has_line want.line backs ≡ false = grind (arith, f.back_owned want.line) in record {
      held_once = once_to_front want.line Modified held f.held_once;
      held_within = λ l. filled_within shape l want.line Modified held (f.held_within l) (grind (arith, w.has_room));
      posted_wants = grind (arith, request_less c c posted);
      demanded_waits = λ l owned asked. grind (arith, mode_to_front l want.line Modified held, has_request_less l c posted, f.demanded_waits l, line_demanded l want.line backs behind);
      back_once = once_demanded want.line backs behind f.back_once new;
      back_owned = λ l has. grind (arith, mode_to_front l want.line Modified held, f.back_owned l, line_demanded l want.line backs behind);
      back_due = λ l has. grind (arith, line_demanded l want.line backs behind, has_request_else l c posted (record { core = c; line = want.line; kind = want.kind }) once mine, f.back_due l);
      want_fine = λ v none. absurd (grind arith);
    }

-- a read leaves none
fine_fill_none : (shape : Geometry) (slot : ℕ) (posted : List Request) (c : ℕ) (held : List (ℕ × Mode)) (want : Want) (backs : List ℕ) (status : Status)
    → IsFine shape slot posted c held (Some want) backs status → RequestsOnce posted → is_some want.post ≡ true → want.kind ≡ Read
    → IsFine shape slot (removed c posted) c held None backs status
fine_fill_none shape slot posted c held want backs status f once post read =
    let w = f.want_fine want refl in let free = no_victim shape slot held backs status want w post in
    let mine : request_of c posted ≡ Some (record { core = c; line = want.line; kind = want.kind }) = grind (arith, f.posted_wants) in
    let unheld : mode_of want.line held ≡ None = w.read_unheld read in
    unmoved f (grind (arith, request_less c c posted)) (λ l owned asked. f.demanded_waits l owned (has_request_less l c posted asked))
    (λ l has. grind (arith, has_request_else l c posted (record { core = c; line = want.line; kind = want.kind }) once mine, f.back_due l has, f.back_owned l has))
    (λ v none. absurd (grind arith))

-- a read leaves a copy
fine_fill_shared : (shape : Geometry) (slot : ℕ) (posted : List Request) (c : ℕ) (held : List (ℕ × Mode)) (want : Want) (backs : List ℕ) (status : Status)
    → IsFine shape slot posted c held (Some want) backs status → RequestsOnce posted → is_some want.post ≡ true → want.kind ≡ Read
    → IsFine shape slot (removed c posted) c (to_front want.line Shared held) None backs status
fine_fill_shared shape slot posted c held want backs status f once post read =
    let w = f.want_fine want refl in
    let unheld : mode_of want.line held ≡ None = w.read_unheld read in
    relined (fine_fill_none shape slot posted c held want backs status f once post read) (once_to_front want.line Shared held f.held_once)
    (λ l. filled_within shape l want.line Shared held (f.held_within l) (grind (arith, w.has_room)))
    (λ l owned. grind (arith, mode_to_front l want.line Shared held)) (λ l has. grind (arith, mode_to_front l want.line Shared held, f.back_owned l has))
    (λ v none. absurd (grind arith))

pub fine_fill : (shape : Geometry) (slot : ℕ) (posted : List Request) (c : ℕ) (held : List (ℕ × Mode)) (want : Want) (backs : List ℕ) (status : Status) (kind : Kind)
    → IsFine shape slot posted c held (Some want) backs status → RequestsOnce posted → is_some want.post ≡ true → want.kind ≡ kind
    → IsFine shape slot (removed c posted) c (filled_line kind (has_write want.line (removed c posted)) want.line held) None (append_demanded kind (has_request want.line (removed c posted)) want.line backs) status
fine_fill shape slot posted c held want backs status Read f once post is =
    by_test (λ (h : List (ℕ × Mode)). IsFine shape slot (removed c posted) c h None backs status) (has_write want.line (removed c posted)) held (to_front want.line Shared held)
    (λ behind. fine_fill_none shape slot posted c held want backs status f once post is)
    (λ alone. fine_fill_shared shape slot posted c held want backs status f once post is)
fine_fill shape slot posted c held want backs status Write f once post is =
    fine_fill_write shape slot posted c held want backs status (has_request want.line (removed c posted)) f once post is refl
