-- The facts of a core that its states rest on.
use Rattle.std.proofs.Common.{◌≡◌, ◌≢◌, ◌⊎◌, ℕ, List, true, not, ◌&&◌, Option, Some, None, refl, sym, ap, ◌∙◌, arith}
use Rattle.pmsi_model.specs.declared.job.Geometry.{Geometry}
use Rattle.pmsi_model.specs.declared.Kind.TheVariants.{Read, Write}
use Rattle.pmsi_model.specs.declared.Mode.{Mode}
use Rattle.pmsi_model.specs.declared.Mode.TheVariants.{Shared, Modified}
use Rattle.pmsi_model.specs.declared.Want.{Want}
use Rattle.pmsi_model.specs.Machine.{Machine, CoreState, Request, mode_of, mode_in, has_line, has_request, has_write, request_of}
use Rattle.pmsi_model.specs.Bus.{has_victim_for}
use Rattle.pmsi_model.specs.Coherent.{IsCoherent, RequestsOnce, ListsEachOnce, HoldsEachOnce, posted_request, victim_in}
use Rattle.pmsi_model.specs.Named.{asked_of, behind_of, stays_shared}
use Rattle.pmsi_model.proofs.Cases.{none_by}
use Rattle.pmsi_model.proofs.Requests.{write_waits}
use Rattle.cache_ctrl.proofs.Cells.{AreFit}
use Rattle.cache_ctrl.proofs.Behind.{writer_of, behind_once, behind_request}

pub record IsSettled (posted : List Request) (c : ℕ) (k : CoreState) : Type 0 where
  pub held_once : HoldsEachOnce k.held
  pub once : RequestsOnce posted
  pub posted_wants : request_of c posted ≡ posted_request c k.want
  pub posted_free : request_of c posted ≢ None → victim_in k.want ≡ None
  pub posted_unowned : (r : Request) → request_of c posted ≡ Some r → mode_of r.line k.held ≢ Some Modified
  pub posted_unheld : (r : Request) → request_of c posted ≡ Some r → r.kind ≡ Read → mode_of r.line k.held ≡ None
  pub write_alone : (d : ℕ) (r : Request) → request_of d posted ≡ Some r → r.kind ≡ Write → c ≢ d → mode_of r.line k.held ≢ Some Shared
  pub demanded_waits : (line : ℕ) → mode_of line k.held ≡ Some Modified → has_request line posted ≡ true → has_line line k.write_backs ≡ true
  pub back_once : ListsEachOnce k.write_backs
  pub back_owned : (line : ℕ) → has_line line k.write_backs ≡ true → mode_of line k.held ≡ Some Modified
  pub back_due : (line : ℕ) → has_line line k.write_backs ≡ true → (victim_in k.want ≡ Some line) ⊎ (has_request line posted ≡ true)
  pub victim_waits : (victim : ℕ) → victim_in k.want ≡ Some victim → has_line victim k.write_backs ≡ true

-- they hold of each core of a coherent machine
free_of : (shape : Geometry) (x : Machine) → IsCoherent shape x → (c : ℕ) (o : Option Want) → (x.cores c).want ≡ o → request_of c x.posted ≢ None → victim_in o ≡ None
free_of shape x h c None is some = refl
free_of shape x h c (Some want) is some = none_by want.victim (λ v e. grind (arith, h.victim_unposted c want v is e, h.posted_wants c))

unheld_of : (shape : Geometry) (x : Machine) → IsCoherent shape x → (c : ℕ) (o : Option Want) → (x.cores c).want ≡ o → (r : Request) → request_of c x.posted ≡ Some r → r.kind ≡ Read
    → mode_in x c r.line ≡ None
unheld_of shape x h c None is r some read = absurd (grind (arith, h.posted_wants c))
unheld_of shape x h c (Some want) is r some read =
    let line : r.line ≡ want.line = grind (arith, h.posted_wants c) in
    let kind : want.kind ≡ Read = grind (arith, h.posted_wants c) in
    ap (mode_in x c) line ∙ h.read_unheld c want is kind

waits_of : (shape : Geometry) (x : Machine) → IsCoherent shape x → (c : ℕ) (o : Option Want) → (x.cores c).want ≡ o → (victim : ℕ) → victim_in o ≡ Some victim
    → has_line victim (x.cores c).write_backs ≡ true
waits_of shape x h c None is victim some = absurd (grind arith)
waits_of shape x h c (Some want) is victim some = h.victim_waits c want victim is some

pub settled_of : (shape : Geometry) (x : Machine) → IsCoherent shape x → (c : ℕ) → IsSettled x.posted c (x.cores c)
settled_of shape x h c = record {
  held_once = h.held_once c;
  once = h.posted_once;
  posted_wants = h.posted_wants c;
  posted_free = free_of shape x h c (x.cores c).want refl;
  posted_unowned = h.posted_unowned c;
  posted_unheld = unheld_of shape x h c (x.cores c).want refl;
  write_alone = λ d r is write other. h.write_alone d c r is write other;
  demanded_waits = h.demanded_waits c;
  back_once = h.back_once c;
  back_owned = h.back_owned c;
  back_due = h.back_due c;
  victim_waits = waits_of shape x h c (x.cores c).want refl;
}

-- ---- the values of a line

victim_for : (line : ℕ) (o : Option Want) → has_victim_for line o ≡ true → victim_in o ≡ Some line
victim_for line None is = absurd (grind arith)
victim_for line (Some want) is = grind arith

victim_back : (line : ℕ) (o : Option Want) → victim_in o ≡ Some line → has_victim_for line o ≡ true
victim_back line None is = absurd (grind arith)
victim_back line (Some want) is = grind arith

-- a core that asks for a line has a request for it
pub asks : (c line : ℕ) (posted : List Request) (o : Option Request) → request_of c posted ≡ o → asked_of line o ≢ None
    → (r : Request) × (request_of c posted ≡ Some r) × (r.line ≡ line) × (asked_of line o ≡ Some r.kind)
asks c line posted None is some = absurd (some refl)
asks c line posted (Some r) is some = (r, is, grind arith, grind arith)

ap_not : (line : ℕ) (held : List (ℕ × Mode)) (l : ℕ) → l ≡ line → mode_of l held ≢ Some Modified → mode_of line held ≢ Some Modified
ap_not line held l same un is = un (ap (λ (n : ℕ). mode_of n held) same ∙ is)

pub fit_of : (posted : List Request) (c : ℕ) (k : CoreState) → IsSettled posted c k → (line : ℕ)
    → AreFit (asked_of line (request_of c posted)) (mode_of line k.held) (has_line line k.write_backs) (stays_shared posted k line)
    (not (has_write line posted) && not (has_victim_for line k.want)) (has_write line (behind_of c posted))
fit_of posted c k f line = record {
  fresh = λ owned idle. grind (arith, f.demanded_waits line owned, f.victim_waits line, victim_for line k.want, write_waits line posted);
  steady = λ waits. grind (arith, f.back_due line waits, victim_back line k.want, write_waits line posted);
  unowned = λ some. let a = asks c line posted (request_of c posted) refl some in ap_not line k.held a.0.line a.2 (f.posted_unowned a.0 a.1);
  unheld = λ read. let a = asks c line posted (request_of c posted) refl (λ none. grind arith) in
      ap (λ (l : ℕ). mode_of l k.held) (sym a.2) ∙ f.posted_unheld a.0 a.1 (grind (arith, a.3));
  taken = λ some write. let b = behind_once c posted f.once in let w = writer_of line (behind_of c posted) b.0 write in
      λ shared. f.write_alone w.0.core w.0 (behind_request c w.0.core posted w.0 f.once w.1) w.3 (λ same. grind (arith, b.1, w.1)) (ap (λ (l : ℕ). mode_of l k.held) w.2 ∙ shared);
}

unheld_by : (m : Option Mode) → m ≢ Some Modified → m ≢ Some Shared → m ≡ None
unheld_by None owned shared = refl
unheld_by (Some Shared) owned shared = absurd (shared refl)
unheld_by (Some Modified) owned shared = absurd (owned refl)

-- a core doesn't hold a line for which a write is queued behind its own request
pub behind_unheld : (posted : List Request) (c : ℕ) (k : CoreState) → IsSettled posted c k → (r : Request) → request_of c posted ≡ Some r
    → has_write r.line (behind_of c posted) ≡ true → mode_of r.line k.held ≡ None
behind_unheld posted c k f r mine write =
    let fit = fit_of posted c k f r.line in
    let some : asked_of r.line (request_of c posted) ≢ None = (λ none. grind arith) in
    unheld_by (mode_of r.line k.held) (fit.unowned some) (fit.taken some write)
