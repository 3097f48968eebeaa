-- The meanings of the states tell every line's state.
use Rattle.std.proofs.Common.{◌≡◌, ◌≢◌, ℕ, ◌+◌, Option, Some, None, Bool, true, false, refl, sym, ◌∙◌, subst, arith}
use Rattle.pmsi_model.specs.declared.Kind.{Kind}
use Rattle.pmsi_model.specs.declared.Kind.TheVariants.{Read, Write}
use Rattle.pmsi_model.specs.declared.Mode.{Mode}
use Rattle.pmsi_model.specs.declared.Mode.TheVariants.{Shared, Modified}
use Rattle.pmsi_model.specs.declared.State.{State}
use Rattle.pmsi_model.specs.declared.State.TheVariants.{I, S, M, ISD, ISDI, IMD, IMDS, IMDI, SMW, SMWS, MSWB, MIWB}
use Rattle.pmsi_model.specs.Machine.{Machine, Request, mode_in, has_line, has_request, has_write, request_of}
use Rattle.pmsi_model.specs.Bus.{keeps_line}
use Rattle.pmsi_model.specs.Named.{named, asked_of, behind_of, state_in, state_of}
use Rattle.pmsi_model.specs.Run.{after_phases, machine_at}
use Rattle.pmsi_model.proofs.Requests.{request_core, write_waits}
use Rattle.coherence_laws.proofs.Exports.{stays_coherent, phases_coherent}
use Rattle.cache_ctrl.proofs.Exports.{IsSettled, settled_of, behind_unheld}
use Rattle.state_laws.specs.Cases.{HasPosted, HasNotPosted, IsCase, IsNamed, StatesAreCases}

-- ---- over plain values

abbrev CaseBy : State → Option Kind → Option Mode → Bool → Bool → Bool → Bool → Type 0
CaseBy I a m w s b wb = (m ≡ None) × (a ≡ None)
CaseBy S a m w s b wb = (m ≡ Some Shared) × (a ≡ None)
CaseBy M a m w s b wb = (m ≡ Some Modified) × (w ≡ false)
CaseBy ISD a m w s b wb = (a ≡ Some Read) × (wb ≡ false)
CaseBy ISDI a m w s b wb = (a ≡ Some Read) × (wb ≡ true)
CaseBy IMD a m w s b wb = (a ≡ Some Write) × (m ≡ None) × (b ≡ false)
CaseBy IMDS a m w s b wb = (a ≡ Some Write) × (m ≡ None) × ((b ≡ true) × (wb ≡ false))
CaseBy IMDI a m w s b wb = (a ≡ Some Write) × (wb ≡ true)
CaseBy SMW a m w s b wb = (a ≡ Some Write) × (m ≡ Some Shared) × (b ≡ false)
CaseBy SMWS a m w s b wb = (a ≡ Some Write) × (m ≡ Some Shared) × ((b ≡ true) × (wb ≡ false))
CaseBy MSWB a m w s b wb = (m ≡ Some Modified) × (w ≡ true) × (s ≡ true)
CaseBy MIWB a m w s b wb = (m ≡ Some Modified) × (w ≡ true) × (s ≡ false)

case_by : (a : Option Kind) (m : Option Mode) (w s b wb : Bool) → (a ≢ None → m ≢ Some Modified) → CaseBy (named a m w s b wb) a m w s b wb
case_by None None w s b wb un = (refl, refl)
case_by None (Some Shared) w s b wb un = (refl, refl)
case_by None (Some Modified) false s b wb un = (refl, refl)
case_by None (Some Modified) true true b wb un = (refl, refl, refl)
case_by None (Some Modified) true false b wb un = (refl, refl, refl)
case_by (Some Read) m w s b false un = (refl, refl)
case_by (Some Read) m w s b true un = (refl, refl)
case_by (Some Write) m w s b true un = (refl, refl)
case_by (Some Write) None w s false false un = (refl, refl, refl)
case_by (Some Write) None w s true false un = (refl, refl, (refl, refl))
case_by (Some Write) (Some Shared) w s false false un = (refl, refl, refl)
case_by (Some Write) (Some Shared) w s true false un = (refl, refl, (refl, refl))
case_by (Some Write) (Some Modified) w s b false un = absurd (un (λ none. grind arith) refl)

-- no meaning but that of the state holds
only_by : (t : State) (a : Option Kind) (m : Option Mode) (w s b wb : Bool) → (a ≢ None → m ≢ Some Modified) → (wb ≡ true → b ≡ true)
    → CaseBy t a m w s b wb → t ≡ named a m w s b wb
only_by I a m w s b wb un more is = rw is.0 rw is.1 refl
only_by S a m w s b wb un more is = rw is.0 rw is.1 refl
only_by M None m w s b wb un more is = rw is.0 rw is.1 refl
only_by M (Some kind) m w s b wb un more is = absurd (un (λ none. grind arith) is.0)
only_by ISD a m w s b wb un more is = rw is.0 rw is.1 refl
only_by ISDI a m w s b wb un more is = rw is.0 rw is.1 refl
only_by IMD a m w s b wb un more is = grind (arith, is.0, is.1, is.2, more)
only_by IMDS a m w s b wb un more is = rw is.0 rw is.1 rw is.2.0 rw is.2.1 refl
only_by IMDI a m w s b wb un more is = rw is.0 rw is.1 refl
only_by SMW a m w s b wb un more is = grind (arith, is.0, is.1, is.2, more)
only_by SMWS a m w s b wb un more is = rw is.0 rw is.1 rw is.2.0 rw is.2.1 refl
only_by MSWB None m w s b wb un more is = rw is.0 rw is.1 rw is.2 refl
only_by MSWB (Some kind) m w s b wb un more is = absurd (un (λ none. grind arith) is.0)
only_by MIWB None m w s b wb un more is = rw is.0 rw is.1 rw is.2 refl
only_by MIWB (Some kind) m w s b wb un more is = absurd (un (λ none. grind arith) is.0)

-- ---- over the machine

posted_is : (c line : ℕ) (kind : Kind) (o : Option Request) → ((r : Request) → o ≡ Some r → r.core ≡ c) → asked_of line o ≡ Some kind
    → o ≡ Some (record { core = c; line = line; kind = kind })
posted_is c line kind None core is = absurd (grind arith)
posted_is c line kind (Some r) core is = grind (arith, core r refl)

-- what the core asks of the line
abbrev asked_at : Machine → ℕ → ℕ → Option Kind
asked_at x c line = asked_of line (request_of c x.posted)

asked_posted : (x : Machine) (c line : ℕ) (kind : Kind) → asked_at x c line ≡ Some kind → HasPosted kind x c line
asked_posted x c line kind is = posted_is c line kind (request_of c x.posted) (request_core c x.posted) is

posted_asked : (x : Machine) (c line : ℕ) (kind : Kind) → HasPosted kind x c line → asked_at x c line ≡ Some kind
posted_asked x c line kind is = rw is (grind arith)

unasked_unposted : (x : Machine) (c line : ℕ) → asked_at x c line ≡ None → HasNotPosted x c line
unasked_unposted x c line none kind is = grind (arith, posted_asked x c line kind is)

unposted_by : (x : Machine) (c line : ℕ) (a : Option Kind) → asked_at x c line ≡ a → HasNotPosted x c line → a ≡ None
unposted_by x c line None is not = refl
unposted_by x c line (Some kind) is not = absurd (not kind (asked_posted x c line kind is))

unposted_unasked : (x : Machine) (c line : ℕ) → HasNotPosted x c line → asked_at x c line ≡ None
unposted_unasked x c line not = unposted_by x c line (asked_at x c line) refl not

abbrev CaseAt : State → Machine → ℕ → ℕ → Type 0
CaseAt t x c line = CaseBy t (asked_at x c line) (mode_in x c line) (has_line line (x.cores c).write_backs) (keeps_line x c line)
    (has_request line (behind_of c x.posted)) (has_write line (behind_of c x.posted))

to_case : (t : State) (x : Machine) (c line : ℕ) → CaseAt t x c line → IsCase t x c line
to_case I x c line is = (is.0, unasked_unposted x c line is.1)
to_case S x c line is = (is.0, unasked_unposted x c line is.1)
to_case M x c line is = is
to_case ISD x c line is = (asked_posted x c line Read is.0, is.1)
to_case ISDI x c line is = (asked_posted x c line Read is.0, is.1)
to_case IMD x c line is = (asked_posted x c line Write is.0, is.1, is.2)
to_case IMDS x c line is = (asked_posted x c line Write is.0, is.1, is.2)
to_case IMDI x c line is = (asked_posted x c line Write is.0, is.1)
to_case SMW x c line is = (asked_posted x c line Write is.0, is.1, is.2)
to_case SMWS x c line is = (asked_posted x c line Write is.0, is.1, is.2)
to_case MSWB x c line is = is
to_case MIWB x c line is = is

from_case : (t : State) (x : Machine) (c line : ℕ) → IsCase t x c line → CaseAt t x c line
from_case I x c line is = (is.0, unposted_unasked x c line is.1)
from_case S x c line is = (is.0, unposted_unasked x c line is.1)
from_case M x c line is = is
from_case ISD x c line is = (posted_asked x c line Read is.0, is.1)
from_case ISDI x c line is = (posted_asked x c line Read is.0, is.1)
from_case IMD x c line is = (posted_asked x c line Write is.0, is.1, is.2)
from_case IMDS x c line is = (posted_asked x c line Write is.0, is.1, is.2)
from_case IMDI x c line is = (posted_asked x c line Write is.0, is.1)
from_case SMW x c line is = (posted_asked x c line Write is.0, is.1, is.2)
from_case SMWS x c line is = (posted_asked x c line Write is.0, is.1, is.2)
from_case MSWB x c line is = is
from_case MIWB x c line is = is

-- the core owns no line that it has posted a request for
abbrev OwnsNoneAsked : Machine → ℕ → Type 0
OwnsNoneAsked x c = (r : Request) → request_of c x.posted ≡ Some r → mode_in x c r.line ≢ Some Modified

unowned_by : (x : Machine) (c line : ℕ) (a : Option Kind) → OwnsNoneAsked x c → asked_at x c line ≡ a → a ≢ None → mode_in x c line ≢ Some Modified
unowned_by x c line None owns is some = absurd (some refl)
unowned_by x c line (Some kind) owns is some = owns (record { core = c; line = line; kind = kind }) (asked_posted x c line kind is)

only_at : (x : Machine) (c line : ℕ) → OwnsNoneAsked x c → (t : State) → IsCase t x c line → t ≡ state_of x c line
unfolding state_in
only_at x c line owns t is =
    only_by t (asked_at x c line) (mode_in x c line) (has_line line (x.cores c).write_backs) (keeps_line x c line)
    (has_request line (behind_of c x.posted)) (has_write line (behind_of c x.posted))
    (unowned_by x c line (asked_at x c line) owns refl) (write_waits line (behind_of c x.posted)) (from_case t x c line is)

case_at : (x : Machine) (c line : ℕ) → OwnsNoneAsked x c → IsCase (state_of x c line) x c line
unfolding state_in
case_at x c line owns =
    to_case (state_of x c line) x c line
    (case_by (asked_at x c line) (mode_in x c line) (has_line line (x.cores c).write_backs) (keeps_line x c line)
    (has_request line (behind_of c x.posted)) (has_write line (behind_of c x.posted))
    (unowned_by x c line (asked_at x c line) owns refl))

named_at : (x : Machine) (c line : ℕ) → IsSettled x.posted c (x.cores c) → IsNamed x c line
named_at x c line f = record {
  meant = λ s is. subst (λ (t : State). IsCase t x c line) is (case_at x c line f.posted_unowned);
  some = (state_of x c line, case_at x c line f.posted_unowned);
  alone = λ s t one two. only_at x c line f.posted_unowned s one ∙ sym (only_at x c line f.posted_unowned t two);
  read_unheld = λ read. f.posted_unheld (record { core = c; line = line; kind = Read }) read refl;
  write_unheld = λ write behind. behind_unheld x.posted c (x.cores c) f (record { core = c; line = line; kind = Write }) write behind;
  owned_unposted = λ owned kind is. f.posted_unowned (record { core = c; line = line; kind = kind }) is owned;
}

pub states_are_cases : StatesAreCases
states_are_cases job is slot c line below =
    let x : Machine = machine_at job slot in let y : Machine = after_phases job x in (
      named_at x c line (settled_of job.shape x (stays_coherent job is slot) c),
      named_at y c line (settled_of job.shape (record y { slot = slot + 1 }) (phases_coherent job is slot job.shape.cores (omega arith)) c),
    )
