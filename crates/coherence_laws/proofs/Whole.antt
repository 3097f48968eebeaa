-- The facts of all cores together, and that each change of the machine keeps them.
use Rattle.std.proofs.Common.{◌≡◌, ◌≢◌, ◌⊎◌, ℕ, ◌+◌, ◌<◌, ◌≤◌, List, [], Option, Some, None, false, ◌==◌, if◌then◌else◌, refl, sym, ap, ◌∙◌, inl, arith}
use Rattle.pmsi_model.specs.declared.job.Geometry.{Geometry}
use Rattle.pmsi_model.specs.declared.Kind.TheVariants.{Read, Write}
use Rattle.pmsi_model.specs.declared.Mode.{Mode}
use Rattle.pmsi_model.specs.declared.Mode.TheVariants.{Shared, Modified}
use Rattle.pmsi_model.specs.declared.Want.{Want}
use Rattle.pmsi_model.specs.Machine.{Machine, Request, CoreState, mode_of, mode_in, has_write, request_of}
use Rattle.pmsi_model.specs.Coherent.{RequestsOnce, IsCoherent}
use Rattle.pmsi_model.proofs.Requests.{write_queued}
use Rattle.pmsi_model.proofs.Cases.{at_core}
use Rattle.coherence_laws.proofs.Fine.{FineCore, fine_later}

abbrev pub OwnedAlone : (ℕ → CoreState) → Type 0
OwnedAlone cores = (c d line : ℕ) → mode_of line (cores c).held ≡ Some Modified → d ≢ c → mode_of line (cores d).held ≡ None

abbrev pub WritesAlone : List Request → (ℕ → CoreState) → Type 0
WritesAlone posted cores = (c d : ℕ) (r : Request) → request_of c posted ≡ Some r → r.kind ≡ Write → d ≢ c → mode_of r.line (cores d).held ≢ Some Shared

pub record IsWhole (shape : Geometry) (slot : ℕ) (posted : List Request) (cores : ℕ → CoreState) : Type 0 where
  pub fine : (c : ℕ) → FineCore shape slot posted c (cores c)
  pub alone : OwnedAlone cores
  pub once : RequestsOnce posted
  pub write_alone : WritesAlone posted cores
  -- past the cores of the job nothing is held or wanted
  pub outside : (c : ℕ) → shape.cores ≤ c → (cores c).held ≡ []
  pub idle : (c : ℕ) → shape.cores ≤ c → (cores c).want ≡ None

-- a want's line isn't owned by its core
pub want_unowned : (want : Want) (mode : Option Mode) → (want.kind ≡ Read → mode ≡ None) → (want.kind ≡ Write → mode ≢ Some Modified)
    → mode ≢ Some Modified
want_unowned want mode read write is = grind (arith, read, write)

posted_unowned : (shape : Geometry) (x : Machine) → IsWhole shape x.slot x.posted x.cores → (c : ℕ) (r : Request) (want : Option Want)
    → (x.cores c).want ≡ want → request_of c x.posted ≡ Some r → mode_in x c r.line ≢ Some Modified
posted_unowned shape x w c r None wants is owned = grind (arith, (w.fine c).posted_wants)
posted_unowned shape x w c r (Some want) wants is owned = let f = (w.fine c).want_fine want wants in
    let line : r.line ≡ want.line = grind (arith, (w.fine c).posted_wants) in
    want_unowned want (mode_in x c want.line) f.read_unheld f.write_unowned (ap (mode_in x c) (sym line) ∙ owned)

pub whole_coherent : (shape : Geometry) (x : Machine) → IsWhole shape x.slot x.posted x.cores → IsCoherent shape x
whole_coherent shape x w = record {
  owned_alone = w.alone;
  held_once = λ c. (w.fine c).held_once;
  held_within = λ c. (w.fine c).held_within;
  posted_once = w.once;
  posted_wants = λ c. (w.fine c).posted_wants;
  write_alone = w.write_alone;
  demanded_waits = λ c. (w.fine c).demanded_waits;
  back_once = λ c. (w.fine c).back_once;
  back_owned = λ c. (w.fine c).back_owned;
  back_due = λ c. (w.fine c).back_due;
  posted_unowned = λ c r is. posted_unowned shape x w c r (x.cores c).want refl is;
  read_unheld = λ c want is. ((w.fine c).want_fine want is).read_unheld;
  write_unowned = λ c want is. ((w.fine c).want_fine want is).write_unowned;
  victim_owned = λ c want victim is. ((w.fine c).want_fine want is).victim_owned victim;
  victim_waits = λ c want victim is. ((w.fine c).want_fine want is).victim_waits victim;
  victim_of_set = λ c want victim is. ((w.fine c).want_fine want is).victim_of_set victim;
  victim_other = λ c want victim is. ((w.fine c).want_fine want is).victim_other victim;
  victim_unposted = λ c want victim is. ((w.fine c).want_fine want is).victim_unposted victim;
  want_has_room = λ c want is. ((w.fine c).want_fine want is).has_room;
  want_issued = λ c want is. ((w.fine c).want_fine want is).issued;
  want_posted = λ c want is. ((w.fine c).want_fine want is).posted;
  want_runs = λ c want is. ((w.fine c).want_fine want is).runs;
}

pub whole_later : (shape : Geometry) (slot : ℕ) (posted : List Request) (cores : ℕ → CoreState) → IsWhole shape slot posted cores
    → IsWhole shape (slot + 1) posted cores
whole_later shape slot posted cores w = record {
  fine = λ c. fine_later shape slot posted c (cores c).held (cores c).want (cores c).write_backs (cores c).status (w.fine c);
  alone = w.alone;
  once = w.once;
  write_alone = w.write_alone;
  outside = w.outside;
  idle = w.idle;
}

-- no line becomes owned, and none that isn't held becomes held
pub alone_from : (old new : ℕ → CoreState) → OwnedAlone old
    → ((d l : ℕ) → mode_of l (new d).held ≡ Some Modified → mode_of l (old d).held ≡ Some Modified)
    → ((d l : ℕ) → mode_of l (old d).held ≡ None → mode_of l (new d).held ≡ None) → OwnedAlone new
alone_from old new alone owned none c d line is other = none d line (alone c d line (owned c line is) other)

-- no request is new, and a line becomes shared only where no write is queued
pub writes_from : (posted rest : List Request) (old new : ℕ → CoreState) → WritesAlone posted old
    → ((c : ℕ) (r : Request) → request_of c rest ≡ Some r → request_of c posted ≡ Some r)
    → ((d l : ℕ) → mode_of l (new d).held ≡ Some Shared → (mode_of l (old d).held ≡ Some Shared) ⊎ (has_write l rest ≡ false))
    → WritesAlone rest new
writes_from posted rest old new alone less shared c d r is write other here =
    grind (arith, shared d r.line here, write_queued c rest r is write, alone c d r (less c r is) write other)

-- each line is held as before or not at all
abbrev pub IsLess : CoreState → CoreState → Type 0
IsLess k j = (line : ℕ) → (mode_of line j.held ≡ mode_of line k.held) ⊎ (mode_of line j.held ≡ None)

less_alone : (old new : ℕ → CoreState) → OwnedAlone old
    → ((d line : ℕ) → (mode_of line (new d).held ≡ mode_of line (old d).held) ⊎ (mode_of line (new d).held ≡ None)) → OwnedAlone new
less_alone old new alone less = alone_from old new alone (λ d l is. grind (arith, less d l)) (λ d l is. grind (arith, less d l))

less_writes : (posted : List Request) (old new : ℕ → CoreState) → WritesAlone posted old
    → ((d line : ℕ) → (mode_of line (new d).held ≡ mode_of line (old d).held) ⊎ (mode_of line (new d).held ≡ None)) → WritesAlone posted new
less_writes posted old new alone less = writes_from posted posted old new alone (λ c r is. is) (λ d l is. grind (arith, less d l))

pub whole_less : (shape : Geometry) (slot : ℕ) (posted : List Request) (cores : ℕ → CoreState) (c : ℕ) (k : CoreState)
    → IsWhole shape slot posted cores → c < shape.cores
    → FineCore shape slot posted c k → IsLess (cores c) k → IsWhole shape slot posted (λ d. if d == c then k else cores d)
whole_less shape slot posted cores c k w below f less =
    let lesser : (d line : ℕ) → (mode_of line (if d == c then k else cores d).held ≡ mode_of line (cores d).held) ⊎ (mode_of line (if d == c then k else cores d).held ≡ None)
    = at_core (λ d j. (line : ℕ) → (mode_of line j.held ≡ mode_of line (cores d).held) ⊎ (mode_of line j.held ≡ None)) c k cores less (λ d other line. inl refl) in record {
      fine = at_core (FineCore shape slot posted) c k cores f (λ d other. w.fine d);
      alone = less_alone cores (λ d. if d == c then k else cores d) w.alone lesser;
      once = w.once;
      write_alone = less_writes posted cores (λ d. if d == c then k else cores d) w.write_alone lesser;
      outside = at_core (λ d j. shape.cores ≤ d → j.held ≡ []) c k cores (λ past. absurd (omega arith)) (λ d other. w.outside d);
      idle = at_core (λ d j. shape.cores ≤ d → j.want ≡ None) c k cores (λ past. absurd (omega arith)) (λ d other. w.idle d);
    }
