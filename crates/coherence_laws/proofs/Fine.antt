-- What holds of one core beside the posted requests, and that each change of the core keeps it.
use Rattle.std.proofs.Common.{◌≡◌, ◌≢◌, ◌⊎◌, ℕ, ◌+◌, ◌<◌, ◌≤◌, List, length, Option, Some, None, is_some, true, false, refl, subst, inl, inr, arith}
use Rattle.pmsi_model.specs.declared.job.Geometry.{Geometry}
use Rattle.pmsi_model.specs.declared.Access.{Access}
use Rattle.pmsi_model.specs.declared.Kind.{Kind}
use Rattle.pmsi_model.specs.declared.Kind.TheVariants.{Read, Write}
use Rattle.pmsi_model.specs.declared.Mode.{Mode}
use Rattle.pmsi_model.specs.declared.Mode.TheVariants.{Shared, Modified}
use Rattle.pmsi_model.specs.declared.Status.{Status}
use Rattle.pmsi_model.specs.declared.Status.TheVariants.{Running}
use Rattle.pmsi_model.specs.declared.Want.{Want}
use Rattle.pmsi_model.specs.Geometry.{set_of}
use Rattle.pmsi_model.specs.Machine.{CoreState, Request, mode_of, without, to_front, has_line, append_once, has_request, request_of}
use Rattle.pmsi_model.specs.Phase.{set_lines, evicted, drop_shared, victim_of, append_victim, touched_line, permits}
use Rattle.pmsi_model.specs.Coherent.{HoldsEachOnce, ListsEachOnce, posted_request, victim_in, IsPostedBy}
use Rattle.pmsi_model.proofs.Held.{mode_without, mode_to_front, once_without, once_to_front, fewer_without, room_without, count_to_front, evicted_held, evicted_none}
use Rattle.pmsi_model.proofs.WriteBacks.{line_append_once, once_append_once}
use Rattle.pmsi_model.proofs.Cases.{none_by}

-- what holds of a core's want
pub record IsWantFine (shape : Geometry) (slot : ℕ) (held : List (ℕ × Mode)) (backs : List ℕ) (status : Status) (want : Want) : Type 0 where
  pub read_unheld : want.kind ≡ Read → mode_of want.line held ≡ None
  pub write_unowned : want.kind ≡ Write → mode_of want.line held ≢ Some Modified
  pub victim_owned : (victim : ℕ) → want.victim ≡ Some victim → mode_of victim held ≡ Some Modified
  pub victim_waits : (victim : ℕ) → want.victim ≡ Some victim → has_line victim backs ≡ true
  pub victim_of_set : (victim : ℕ) → want.victim ≡ Some victim → set_of shape victim ≡ set_of shape want.line
  pub victim_other : (victim : ℕ) → want.victim ≡ Some victim → victim ≢ want.line
  pub victim_unposted : (victim : ℕ) → want.victim ≡ Some victim → want.post ≡ None
  pub has_room : (mode_of want.line held ≢ None) ⊎ ((length (set_lines shape want.line held) < shape.ways) ⊎ (want.victim ≢ None))
  pub issued : want.issue < slot
  pub posted : IsPostedBy slot want.issue want.post
  pub runs : status ≡ Running

-- what holds of a core
pub record IsFine (shape : Geometry) (slot : ℕ) (posted : List Request) (c : ℕ) (held : List (ℕ × Mode)) (want : Option Want)
    (backs : List ℕ) (status : Status) : Type 0 where
  pub held_once : HoldsEachOnce held
  pub held_within : (line : ℕ) → length (set_lines shape line held) ≤ shape.ways
  pub posted_wants : request_of c posted ≡ posted_request c want
  pub demanded_waits : (line : ℕ) → mode_of line held ≡ Some Modified → has_request line posted ≡ true → has_line line backs ≡ true
  pub back_once : ListsEachOnce backs
  pub back_owned : (line : ℕ) → has_line line backs ≡ true → mode_of line held ≡ Some Modified
  pub back_due : (line : ℕ) → has_line line backs ≡ true → (victim_in want ≡ Some line) ⊎ (has_request line posted ≡ true)
  pub want_fine : (w : Want) → want ≡ Some w → IsWantFine shape slot held backs status w

abbrev pub FineCore : Geometry → ℕ → List Request → ℕ → CoreState → Type 0
FineCore shape slot posted c k = IsFine shape slot posted c k.held k.want k.write_backs k.status

-- a want that is the core's
pub at_some : (P : Want → Type 0) (w v : Want) → P w → Some w ≡ Some v → P v
at_some P w v p is = let e : w ≡ v = grind arith in subst P e p

-- a posted want has no victim
pub no_victim : (shape : Geometry) (slot : ℕ) (held : List (ℕ × Mode)) (backs : List ℕ) (status : Status) (want : Want)
    → IsWantFine shape slot held backs status want → is_some want.post ≡ true → want.victim ≡ None
no_victim shape slot held backs status want w posted = none_by want.victim (λ n is. grind (arith, w.victim_unposted n is))

-- ---- kinds of change

-- the held lines and the queue stay; the requests, the want, the status or the slot are others
pub unmoved : {shape : Geometry} {slot later : ℕ} {posted asked : List Request} {c : ℕ} {held : List (ℕ × Mode)} {want next : Option Want} {backs : List ℕ}
    {status after : Status}
    → IsFine shape slot posted c held want backs status → request_of c asked ≡ posted_request c next
    → ((line : ℕ) → mode_of line held ≡ Some Modified → has_request line asked ≡ true → has_line line backs ≡ true)
    → ((line : ℕ) → has_line line backs ≡ true → (victim_in next ≡ Some line) ⊎ (has_request line asked ≡ true))
    → ((w : Want) → next ≡ Some w → IsWantFine shape later held backs after w)
    → IsFine shape later asked c held next backs after
unmoved f wants waits due fine = record {
  held_once = f.held_once;
  held_within = f.held_within;
  posted_wants = wants;
  demanded_waits = waits;
  back_once = f.back_once;
  back_owned = f.back_owned;
  back_due = due;
  want_fine = fine;
}

-- the queue and the requests stay; the held lines are others, and each line of the queue is Modified yet
pub relined : {shape : Geometry} {slot : ℕ} {posted : List Request} {c : ℕ} {held after : List (ℕ × Mode)} {want : Option Want} {backs : List ℕ} {status : Status}
    → IsFine shape slot posted c held want backs status → HoldsEachOnce after
    → ((line : ℕ) → length (set_lines shape line after) ≤ shape.ways)
    → ((line : ℕ) → mode_of line after ≡ Some Modified → mode_of line held ≡ Some Modified)
    → ((line : ℕ) → has_line line backs ≡ true → mode_of line after ≡ Some Modified)
    → ((w : Want) → want ≡ Some w → IsWantFine shape slot after backs status w)
    → IsFine shape slot posted c after want backs status
relined f once within fewer owned fine = record {
  held_once = once;
  held_within = within;
  posted_wants = f.posted_wants;
  demanded_waits = λ l modified. f.demanded_waits l (fewer l modified);
  back_once = f.back_once;
  back_owned = owned;
  back_due = f.back_due;
  want_fine = fine;
}

-- the held lines stay, and this one, which is Modified, goes into the queue
pub requeued : {shape : Geometry} {slot : ℕ} {posted asked : List Request} {c : ℕ} {held : List (ℕ × Mode)} {want next : Option Want} {backs : List ℕ}
    {status : Status} (line : ℕ)
    → IsFine shape slot posted c held want backs status → mode_of line held ≡ Some Modified → request_of c asked ≡ posted_request c next
    → ((l : ℕ) → mode_of l held ≡ Some Modified → has_request l asked ≡ true → has_line l (append_once line backs) ≡ true)
    → ((l : ℕ) → has_line l (append_once line backs) ≡ true → (victim_in next ≡ Some l) ⊎ (has_request l asked ≡ true))
    → ((w : Want) → next ≡ Some w → IsWantFine shape slot held (append_once line backs) status w)
    → IsFine shape slot asked c held next (append_once line backs) status
requeued {backs = backs} line f owner wants waits due fine = record {
  held_once = f.held_once;
  held_within = f.held_within;
  posted_wants = wants;
  demanded_waits = waits;
  back_once = once_append_once line backs f.back_once;
  back_owned = λ l has. grind (arith, line_append_once l line backs, f.back_owned l, owner);
  back_due = due;
  want_fine = fine;
}

-- ---- a later slot

posted_later : (slot issue : ℕ) (post : Option ℕ) → IsPostedBy slot issue post → IsPostedBy (slot + 1) issue post
posted_later slot issue None by = by
posted_later slot issue (Some post) by = (by.0, grind (arith, by.1))

want_later : (shape : Geometry) (slot : ℕ) (held : List (ℕ × Mode)) (backs : List ℕ) (status : Status) (want : Want)
    → IsWantFine shape slot held backs status want → IsWantFine shape (slot + 1) held backs status want
want_later shape slot held backs status want w = record {
  read_unheld = w.read_unheld;
  write_unowned = w.write_unowned;
  victim_owned = w.victim_owned;
  victim_waits = w.victim_waits;
  victim_of_set = w.victim_of_set;
  victim_other = w.victim_other;
  victim_unposted = w.victim_unposted;
  has_room = w.has_room;
  issued = (let i = w.issued in omega arith);
  posted = posted_later slot want.issue want.post w.posted;
  runs = w.runs;
}

pub fine_later : (shape : Geometry) (slot : ℕ) (posted : List Request) (c : ℕ) (held : List (ℕ × Mode)) (want : Option Want) (backs : List ℕ) (status : Status)
    → IsFine shape slot posted c held want backs status → IsFine shape (slot + 1) posted c held want backs status
fine_later shape slot posted c held want backs status f =
    unmoved f f.posted_wants f.demanded_waits f.back_due (λ w is. want_later shape slot held backs status w (f.want_fine w is))

-- ---- a core with no want takes an instruction

-- no instruction that asks memory: without a want, the status is free
pub fine_status : (shape : Geometry) (slot : ℕ) (posted : List Request) (c : ℕ) (held : List (ℕ × Mode)) (backs : List ℕ) (status other : Status)
    → IsFine shape slot posted c held None backs status → IsFine shape slot posted c held None backs other
fine_status shape slot posted c held backs status other f =
    unmoved f f.posted_wants f.demanded_waits f.back_due (λ w is. absurd (grind arith))

-- a held line goes to the front
pub fine_front : (shape : Geometry) (slot : ℕ) (posted : List Request) (c : ℕ) (held : List (ℕ × Mode)) (backs : List ℕ) (status : Status) (line : ℕ) (mode : Mode)
    → IsFine shape slot posted c held None backs status → mode_of line held ≡ Some mode
    → IsFine shape slot posted c (to_front line mode held) None backs status
fine_front shape slot posted c held backs status line mode f is =
    relined f (once_to_front line mode held f.held_once)
    (λ l. grind (arith, count_to_front shape l line mode held, fewer_without shape l line held, room_without shape l line held, f.held_within l))
    (λ l owned. grind (arith, mode_to_front l line mode held)) (λ l has. grind (arith, mode_to_front l line mode held, f.back_owned l has))
    (λ w none. absurd (grind arith))

pub fine_touched : (shape : Geometry) (slot : ℕ) (posted : List Request) (c : ℕ) (held : List (ℕ × Mode)) (backs : List ℕ) (status : Status)
    (line : ℕ) (mode : Option Mode)
    → IsFine shape slot posted c held None backs status → mode_of line held ≡ mode
    → IsFine shape slot posted c (touched_line mode line held) None backs status
fine_touched shape slot posted c held backs status line None f is = f
fine_touched shape slot posted c held backs status line (Some mode) f is = fine_front shape slot posted c held backs status line mode f is

-- ---- a miss

-- a new want
want_new : (shape : Geometry) (slot : ℕ) (line : ℕ) (kind : Kind) (access : Access) (victim : Option ℕ) (held : List (ℕ × Mode)) (backs : List ℕ) (status : Status)
    → permits kind (mode_of line held) ≡ false → status ≡ Running
    → ((v : ℕ) → victim ≡ Some v → (mode_of v held ≡ Some Modified) × (has_line v backs ≡ true) × (set_of shape v ≡ set_of shape line) × (v ≢ line))
    → ((mode_of line held ≢ None) ⊎ ((length (set_lines shape line held) < shape.ways) ⊎ (victim ≢ None)))
    → IsWantFine shape (slot + 1) held backs status (record { line = line; kind = kind; issue = slot; post = None; victim = victim; access = access })
want_new shape slot line kind access victim held backs status denied runs v room = record {
  read_unheld = λ read. grind arith;
  write_unowned = λ write owned. grind arith;
  victim_owned = λ n is. (v n is).0;
  victim_waits = λ n is. (v n is).1;
  victim_of_set = λ n is. (v n is).2;
  victim_other = λ n is. (v n is).3;
  victim_unposted = λ n is. refl;
  has_room = room;
  issued = omega arith;
  posted = tt;
  runs = runs;
}

abbrev new_want : ℕ → Kind → ℕ → Option ℕ → Access → Want
new_want line kind slot victim access = record { line = line; kind = kind; issue = slot; post = None; victim = victim; access = access }

-- no line is evicted
missed_none : (shape : Geometry) (slot : ℕ) (posted : List Request) (c : ℕ) (held : List (ℕ × Mode)) (backs : List ℕ) (status : Status)
    (line : ℕ) (kind : Kind) (access : Access)
    → IsFine shape (slot + 1) posted c held None backs status → status ≡ Running → permits kind (mode_of line held) ≡ false → 1 ≤ shape.ways
    → evicted shape line held ≡ None
    → IsFine shape (slot + 1) posted c held (Some (new_want line kind slot None access)) backs status
missed_none shape slot posted c held backs status line kind access f runs denied some gone =
    unmoved f f.posted_wants f.demanded_waits (λ l has. grind (arith, f.back_due l has))
    (λ w is. subst (IsWantFine shape (slot + 1) held backs status) (grind arith)
    (want_new shape slot line kind access None held backs status denied runs (λ v none. absurd (grind arith))
    (grind (arith, evicted_none shape line held some (f.held_within line) gone))))

-- a shared line is dropped
missed_shared : (shape : Geometry) (slot : ℕ) (posted : List Request) (c : ℕ) (held : List (ℕ × Mode)) (backs : List ℕ) (status : Status)
    (line : ℕ) (kind : Kind) (access : Access) (gone : ℕ)
    → IsFine shape (slot + 1) posted c held None backs status → status ≡ Running → permits kind (mode_of line held) ≡ false
    → evicted shape line held ≡ Some (gone, Shared)
    → IsFine shape (slot + 1) posted c (without gone held) (Some (new_want line kind slot None access)) backs status
missed_shared shape slot posted c held backs status line kind access gone f runs denied is =
    let e = evicted_held shape line held (gone, Shared) f.held_once is in
    let dropped : IsFine shape (slot + 1) posted c (without gone held) None backs status =
    relined f (once_without gone held f.held_once) (λ l. grind (arith, fewer_without shape l gone held, f.held_within l))
    (λ l owned. grind (arith, mode_without l gone held)) (λ l has. grind (arith, mode_without l gone held, f.back_owned l has, e.0)) (λ w none. absurd (grind arith)) in
    unmoved dropped f.posted_wants dropped.demanded_waits (λ l has. grind (arith, f.back_due l has))
    (λ w same. subst (IsWantFine shape (slot + 1) (without gone held) backs status) (grind arith)
    (want_new shape slot line kind access None (without gone held) backs status (grind (arith, mode_without line gone held, e.2)) runs (λ v none. absurd (grind arith))
    (inr (inl (grind (arith, room_without shape line gone held, f.held_within line, e.0, e.1))))))

-- a modified line becomes the victim
missed_modified : (shape : Geometry) (slot : ℕ) (posted : List Request) (c : ℕ) (held : List (ℕ × Mode)) (backs : List ℕ) (status : Status)
    (line : ℕ) (kind : Kind) (access : Access) (gone : ℕ)
    → IsFine shape (slot + 1) posted c held None backs status → status ≡ Running → permits kind (mode_of line held) ≡ false
    → evicted shape line held ≡ Some (gone, Modified)
    → IsFine shape (slot + 1) posted c held (Some (new_want line kind slot (Some gone) access)) (append_once gone backs) status
missed_modified shape slot posted c held backs status line kind access gone f runs denied is =
    let e = evicted_held shape line held (gone, Modified) f.held_once is in
    requeued gone f e.0 f.posted_wants (λ l owned asked. grind (arith, line_append_once l gone backs, f.demanded_waits l owned asked))
    (λ l has. grind (arith, line_append_once l gone backs, f.back_due l))
    (λ w same. subst (IsWantFine shape (slot + 1) held (append_once gone backs) status) (grind arith)
    (want_new shape slot line kind access (Some gone) held (append_once gone backs) status denied runs
    (λ v which. (grind (arith, e.0), grind (arith, line_append_once v gone backs), grind (arith, e.1), grind (arith, e.0, e.2)))
    (inr (inr (grind arith)))))

pub fine_missed : (shape : Geometry) (slot : ℕ) (posted : List Request) (c : ℕ) (held : List (ℕ × Mode)) (backs : List ℕ) (status : Status)
    (line : ℕ) (kind : Kind) (access : Access) (gone : Option (ℕ × Mode))
    → IsFine shape (slot + 1) posted c held None backs status → status ≡ Running → permits kind (mode_of line held) ≡ false → 1 ≤ shape.ways
    → evicted shape line held ≡ gone
    → IsFine shape (slot + 1) posted c (drop_shared gone held) (Some (new_want line kind slot (victim_of gone) access)) (append_victim (victim_of gone) backs) status
fine_missed shape slot posted c held backs status line kind access None f runs denied some is =
    missed_none shape slot posted c held backs status line kind access f runs denied some is
fine_missed shape slot posted c held backs status line kind access (Some (gone, Shared)) f runs denied some is =
    missed_shared shape slot posted c held backs status line kind access gone f runs denied is
fine_missed shape slot posted c held backs status line kind access (Some (gone, Modified)) f runs denied some is =
    missed_modified shape slot posted c held backs status line kind access gone f runs denied is
