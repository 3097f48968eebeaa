-- What a write-back does to the facts of its core.
use Rattle.std.proofs.Common.{◌≡◌, ◌≢◌, ℕ, ◌<◌, ◌≤◌, List, ◌∷◌, length, Option, Some, None, Bool, true, false, if◌then◌else◌, refl, sym, ◌∙◌, inl, inr, arith}
use Rattle.std.specs.Option.{option_map}
use Rattle.pmsi_model.specs.declared.job.Geometry.{Geometry}
use Rattle.pmsi_model.specs.declared.Mode.{Mode}
use Rattle.pmsi_model.specs.declared.Mode.TheVariants.{Shared, Modified}
use Rattle.pmsi_model.specs.declared.Status.{Status}
use Rattle.pmsi_model.specs.declared.Want.{Want}
use Rattle.pmsi_model.specs.Machine.{Request, mode_of, without, with_mode}
use Rattle.pmsi_model.specs.Phase.{set_lines}
use Rattle.pmsi_model.specs.Bus.{clear_victim, has_victim_for, is_core}
use Rattle.pmsi_model.specs.Coherent.{HoldsEachOnce, posted_request, victim_in}
use Rattle.pmsi_model.proofs.Held.{mode_without, mode_with_mode, once_without, once_with_mode, fewer_without, room_without, same_with_mode}
use Rattle.pmsi_model.proofs.Cases.{by_test}
use Rattle.coherence_laws.proofs.Fine.{IsWantFine, IsFine, at_some}

-- the held lines after the write-back of a line
pub record IsWritten (shape : Geometry) (line : ℕ) (held after : List (ℕ × Mode)) : Type 0 where
  pub once : HoldsEachOnce after
  pub within : (l : ℕ) → length (set_lines shape l after) ≤ length (set_lines shape l held)
  pub here : mode_of line after ≢ Some Modified
  pub others : (l : ℕ) → l ≢ line → mode_of l after ≡ mode_of l held

written_kept : (shape : Geometry) (line : ℕ) (held : List (ℕ × Mode)) → HoldsEachOnce held
    → IsWritten shape line held (with_mode line Shared held)
written_kept shape line held once = record {
  once = once_with_mode line Shared held once;
  within = λ l. grind (arith, same_with_mode shape l line Shared held);
  here = λ owned. grind (arith, mode_with_mode line line Shared held);
  others = λ l other. grind (arith, mode_with_mode l line Shared held);
}

written_gone : (shape : Geometry) (line : ℕ) (held : List (ℕ × Mode)) → HoldsEachOnce held → IsWritten shape line held (without line held)
written_gone shape line held once = record {
  once = once_without line held once;
  within = λ l. fewer_without shape l line held;
  here = λ owned. grind (arith, mode_without line line held);
  others = λ l other. grind (arith, mode_without l line held);
}

-- other lines are held as before
pub written_else : (kept : Bool) (line l : ℕ) (held : List (ℕ × Mode)) → l ≢ line
    → mode_of l (if kept then with_mode line Shared held else without line held) ≡ mode_of l held
written_else true line l held other = grind (arith, mode_with_mode l line Shared held)
written_else false line l held other = grind (arith, mode_without l line held)

want_back_clear : (shape : Geometry) (slot line : ℕ) (held after : List (ℕ × Mode)) (lines : List ℕ) (status : Status) (want : Want)
    → IsWantFine shape slot held (line ∷ lines) status want
    → IsWritten shape line held after → want.victim ≡ Some line → length (set_lines shape want.line after) < shape.ways
    → IsWantFine shape slot after lines status (record want { victim = None })
want_back_clear shape slot line held after lines status want w x is room = let other = w.victim_other line is in record {
  read_unheld = λ read. grind (arith, w.read_unheld read, x.others want.line);
  write_unowned = λ write owned. grind (arith, w.write_unowned write, x.others want.line);
  victim_owned = λ v none. absurd (grind arith);
  victim_waits = λ v none. absurd (grind arith);
  victim_of_set = λ v none. absurd (grind arith);
  victim_other = λ v none. absurd (grind arith);
  victim_unposted = λ v none. absurd (grind arith);
  has_room = inr (inl room);
  issued = w.issued;
  posted = w.posted;
  runs = w.runs;
}

want_back_else : (shape : Geometry) (slot line : ℕ) (held after : List (ℕ × Mode)) (lines : List ℕ) (status : Status) (want : Want)
    → IsWantFine shape slot held (line ∷ lines) status want
    → IsWritten shape line held after → want.victim ≢ Some line → mode_of line held ≡ Some Modified
    → IsWantFine shape slot after lines status want
want_back_else shape slot line held after lines status want w x not_it owner =
    let other : want.line ≢ line = (λ same. grind (arith, w.read_unheld, w.write_unowned)) in
    let same : mode_of want.line after ≡ mode_of want.line held = x.others want.line other in record {
      read_unheld = λ read. grind (arith, w.read_unheld read);
      write_unowned = λ write owned. grind (arith, w.write_unowned write);
      victim_owned = λ v is. grind (arith, w.victim_owned v is, x.others v);
      victim_waits = λ v is. grind (arith, w.victim_waits v is);
      victim_of_set = w.victim_of_set;
      victim_other = w.victim_other;
      victim_unposted = w.victim_unposted;
      has_room = grind (arith, w.has_room, x.within want.line);
      issued = w.issued;
      posted = w.posted;
      runs = w.runs;
    }

want_back : (shape : Geometry) (slot line : ℕ) (held after : List (ℕ × Mode)) (lines : List ℕ) (status : Status) (want : Want)
    → IsWantFine shape slot held (line ∷ lines) status want
    → IsWritten shape line held after → mode_of line held ≡ Some Modified
    → (want.victim ≡ Some line → length (set_lines shape want.line after) < shape.ways)
    → IsWantFine shape slot after lines status (clear_victim line want)
want_back shape slot line held after lines status want w x owner room =
    by_test (IsWantFine shape slot after lines status) (is_core line want.victim) (record want { victim = None }) want
    (λ yes. let is : want.victim ≡ Some line = grind arith in want_back_clear shape slot line held after lines status want w x is (room is))
    (λ other. want_back_else shape slot line held after lines status want w x (λ is. grind arith) owner)

victim_cleared : (line : ℕ) (want : Option Want) (l : ℕ) → l ≢ line → victim_in want ≡ Some l
    → victim_in (option_map (clear_victim line) want) ≡ Some l
victim_cleared line None l other is = grind arith
victim_cleared line (Some want) l other is = grind arith

request_cleared : (c line : ℕ) (want : Option Want) → posted_request c (option_map (clear_victim line) want) ≡ posted_request c want
request_cleared c line None = refl
request_cleared c line (Some want) = grind arith

wants_back : (shape : Geometry) (slot line : ℕ) (held after : List (ℕ × Mode)) (lines : List ℕ) (status : Status) (want : Option Want)
    → ((w : Want) → want ≡ Some w → IsWantFine shape slot held (line ∷ lines) status w)
    → IsWritten shape line held after → mode_of line held ≡ Some Modified
    → ((w : Want) → want ≡ Some w → w.victim ≡ Some line → length (set_lines shape w.line after) < shape.ways)
    → (w : Want) → option_map (clear_victim line) want ≡ Some w → IsWantFine shape slot after lines status w
wants_back shape slot line held after lines status None f x owner room w is = absurd (grind arith)
wants_back shape slot line held after lines status (Some want) f x owner room w is =
    at_some (IsWantFine shape slot after lines status) (clear_victim line want) w (want_back shape slot line held after lines status want (f want refl) x owner (room want refl)) is

-- the line of a write-back waits first, and its core owns it
pub fine_back_in : (shape : Geometry) (slot : ℕ) (posted : List Request) (c : ℕ) (held after : List (ℕ × Mode)) (want : Option Want)
    (line : ℕ) (lines : List ℕ) (status : Status)
    → IsFine shape slot posted c held want (line ∷ lines) status → IsWritten shape line held after
    → ((w : Want) → want ≡ Some w → w.victim ≡ Some line → length (set_lines shape w.line after) < shape.ways)
    → IsFine shape slot posted c after (option_map (clear_victim line) want) lines status
fine_back_in shape slot posted c held after want line lines status f x room =
    let owner : mode_of line held ≡ Some Modified = f.back_owned line (grind arith) in record {
      held_once = x.once;
      held_within = λ l. grind (arith, x.within l, f.held_within l);
      posted_wants = f.posted_wants ∙ sym (request_cleared c line want);
      demanded_waits = λ l owned asked. grind (arith, x.here, x.others l, f.demanded_waits l);
      back_once = f.back_once.1;
      back_owned = λ l has. grind (arith, x.others l, f.back_owned l, f.back_once.0);
      back_due = λ l has. grind (arith, f.back_due l, f.back_once.0, victim_cleared line want l);
      want_fine = wants_back shape slot line held after lines status want f.want_fine x owner room;
    }

pub fine_back : (shape : Geometry) (slot : ℕ) (posted : List Request) (c : ℕ) (held : List (ℕ × Mode)) (want : Option Want) (line : ℕ)
    (lines : List ℕ) (status : Status) (kept : Bool)
    → IsFine shape slot posted c held want (line ∷ lines) status → (kept ≡ true → has_victim_for line want ≡ false)
    → IsFine shape slot posted c (if kept then with_mode line Shared held else without line held) (option_map (clear_victim line) want) lines status
fine_back shape slot posted c held want line lines status kept f stays =
    by_test (λ (h : List (ℕ × Mode)). IsFine shape slot posted c h (option_map (clear_victim line) want) lines status) kept (with_mode line Shared held) (without line held)
    (λ keep. fine_back_in shape slot posted c held (with_mode line Shared held) want line lines status f (written_kept shape line held f.held_once) (λ w is victim. absurd (grind (arith, stays keep))))
    (λ gone. fine_back_in shape slot posted c held (without line held) want line lines status f (written_gone shape line held f.held_once)
    (λ w is victim. let v = (f.want_fine w is).victim_of_set line victim in let owner : mode_of line held ≡ Some Modified = f.back_owned line (grind arith) in
    grind (arith, room_without shape w.line line held, f.held_within w.line)))
