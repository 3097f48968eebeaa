-- What a core's phase does to the states of its lines.
use Rattle.std.proofs.Common.{◌≡◌, ◌≢◌, ℕ, List, Bool, true, false, Option, Some, None, if◌then◌else◌, refl, sym, ap, ◌∙◌, arith}
use Rattle.pmsi_model.specs.declared.job.Geometry.{Geometry}
use Rattle.pmsi_model.specs.declared.Access.{Access}
use Rattle.pmsi_model.specs.declared.Mode.{Mode}
use Rattle.pmsi_model.specs.declared.Mode.TheVariants.{Shared, Modified}
use Rattle.pmsi_model.specs.Access.{kind_of}
use Rattle.pmsi_model.specs.Geometry.{line_of}
use Rattle.pmsi_model.specs.Machine.{CoreState, Request, mode_of, has_line, has_request, has_write, request_of}
use Rattle.pmsi_model.specs.Bus.{has_victim_for}
use Rattle.pmsi_model.specs.Coherent.{HoldsEachOnce, posted_request}
use Rattle.pmsi_model.specs.Phase.{Context, evicted, drop_shared, victim_of, append_victim, missed, accessed}
use Rattle.pmsi_model.proofs.Held.{mode_without, evicted_held, mode_dropped, mode_touched}
use Rattle.pmsi_model.proofs.WriteBacks.{line_append_once}
use Rattle.cache_ctrl.specs.declared.Event.TheVariants.{Choose}
use Rattle.cache_ctrl.specs.declared.Duty.{Duty}
use Rattle.cache_ctrl.specs.declared.Duty.TheVariants.{Nothing, Append, DropCopy}
use Rattle.cache_ctrl.specs.Table.{next_of}
use Rattle.pmsi_model.specs.Named.{asked_of, behind_of, state_in, stays_shared}
use Rattle.cache_ctrl.specs.Duties.{held_by, backs_by}
use Rattle.cache_ctrl.proofs.Cells.{same_state}

-- the core that misses, with the line that goes
abbrev pub missed_with : Geometry → ℕ → Access → Option (ℕ × Mode) → CoreState → CoreState
missed_with shape slot access gone k = record k {
  held = drop_shared gone k.held;
  want = Some (record { line = line_of shape access.address; kind = kind_of access.op; issue = slot; post = None; victim = victim_of gone; access = access });
  write_backs = append_victim (victim_of gone) k.write_backs;
}

abbrev pub choose_duty : Mode → Bool → Duty
choose_duty Shared waits = DropCopy
choose_duty Modified waits = if waits then Nothing else Append

-- what goes is by the duty
pub chosen_held : (line : ℕ) (mode : Mode) (waits : Bool) (held : List (ℕ × Mode)) → drop_shared (Some (line, mode)) held ≡ held_by (choose_duty mode waits) line held
chosen_held line Shared waits held = refl
chosen_held line Modified true held = refl
chosen_held line Modified false held = refl

pub chosen_backs : (line : ℕ) (mode : Mode) (backs : List ℕ) → append_victim (victim_of (Some (line, mode))) backs ≡ backs_by (choose_duty mode (has_line line backs)) line backs
chosen_backs line Shared backs = refl
chosen_backs line Modified backs = grind arith

unasked : (posted : List Request) (c : ℕ) (k : CoreState) (line : ℕ) → request_of c posted ≡ posted_request c k.want → k.want ≡ None → asked_of line (request_of c posted) ≡ None
unasked posted c k line f idle = ap (asked_of line) (f ∙ ap (posted_request c) idle)

pub chooses_in : (shape : Geometry) (slot : ℕ) (access : Access) (posted : List Request) (c : ℕ) (k : CoreState) (line : ℕ) (mode : Mode) → request_of c posted ≡ posted_request c k.want → k.want ≡ None
    → mode_of line k.held ≡ Some mode
    → next_of (state_in posted c k line) Choose ≡ Some (state_in posted c (missed_with shape slot access (Some (line, mode)) k) line, choose_duty mode (has_line line k.write_backs))
unfolding state_in
chooses_in shape slot access posted c k line Shared f idle is =
    rw (unasked posted c k line f idle) rw is
    rw (let e : mode_of line (drop_shared (Some (line, Shared)) k.held) ≡ None = grind (arith, mode_without line line k.held) in e)
    refl
chooses_in shape slot access posted c k line Modified f idle is =
    let j : CoreState = missed_with shape slot access (Some (line, Modified)) k in
    rw (unasked posted c k line f idle) rw is
    rw (let e : has_line line j.write_backs ≡ true = grind (arith, line_append_once line line k.write_backs) in e)
    rw (let e : has_victim_for line j.want ≡ true = grind arith in e)
    (grind arith)

-- the line that a miss evicts
pub chooses : (shape : Geometry) (slot : ℕ) (access : Access) (posted : List Request) (c : ℕ) (k : CoreState) (h : ℕ × Mode) → HoldsEachOnce k.held → request_of c posted ≡ posted_request c k.want → k.want ≡ None
    → evicted shape (line_of shape access.address) k.held ≡ Some h
    → next_of (state_in posted c k h.0) Choose ≡ Some (state_in posted c (missed shape slot access k) h.0, choose_duty h.1 (has_line h.0 k.write_backs))
chooses shape slot access posted c k h once f idle is =
    let e = evicted_held shape (line_of shape access.address) k.held h once is in
    chooses_in shape slot access posted c k h.0 h.1 f idle e.0
    ∙ ap (λ g. Some (state_in posted c (missed_with shape slot access g k) h.0, choose_duty h.1 (has_line h.0 k.write_backs))) (sym is)

gone_back : (gone : Option (ℕ × Mode)) (l : ℕ) (backs : List ℕ) → ((h : ℕ × Mode) → gone ≡ Some h → l ≢ h.0) → has_line l (append_victim (victim_of gone) backs) ≡ has_line l backs
gone_back None l backs away = refl
gone_back (Some (line, Shared)) l backs away = refl
gone_back (Some (line, Modified)) l backs away = let apart : l ≢ line = away (line, Modified) refl in grind (arith, line_append_once l line backs)

gone_victim : (shape : Geometry) (slot : ℕ) (access : Access) (gone : Option (ℕ × Mode)) (l : ℕ) (k : CoreState) → ((h : ℕ × Mode) → gone ≡ Some h → l ≢ h.0)
    → has_victim_for l (missed_with shape slot access gone k).want ≡ false
gone_victim shape slot access None l k away = refl
gone_victim shape slot access (Some (line, Shared)) l k away = refl
gone_victim shape slot access (Some (line, Modified)) l k away = let apart : l ≢ line = away (line, Modified) refl in grind arith

pub misses_else : (shape : Geometry) (slot : ℕ) (access : Access) (posted : List Request) (c : ℕ) (k : CoreState) (l : ℕ) → k.want ≡ None
    → ((h : ℕ × Mode) → evicted shape (line_of shape access.address) k.held ≡ Some h → l ≢ h.0)
    → state_in posted c (missed shape slot access k) l ≡ state_in posted c k l
unfolding state_in
misses_else shape slot access posted c k l idle away =
    let gone : Option (ℕ × Mode) = evicted shape (line_of shape access.address) k.held in
    let j : CoreState = missed_with shape slot access gone k in
    let before : has_victim_for l k.want ≡ false = ap (has_victim_for l) idle in
    same_state (asked_of l (request_of c posted)) (asked_of l (request_of c posted))
    (mode_of l k.held) (mode_of l j.held) (has_line l k.write_backs) (has_line l j.write_backs)
    (stays_shared posted k l) (stays_shared posted j l)
    (has_request l (behind_of c posted)) (has_request l (behind_of c posted))
    (has_write l (behind_of c posted)) (has_write l (behind_of c posted))
    refl (mode_dropped gone l k.held away) (gone_back gone l k.write_backs away)
    (grind (arith, gone_victim shape slot access gone l k away, before)) (λ some. refl) (λ some. refl)

-- an access with permission leaves the states
pub accesses_same : (shape : Geometry) (access : Access) (x : Context) (posted : List Request) (c l : ℕ) → state_in posted c (accessed shape access x).core l ≡ state_in posted c x.core l
unfolding state_in
accesses_same shape access x posted c l =
    let line : ℕ = line_of shape access.address in
    rw (mode_touched l line (mode_of line x.core.held) x.core.held refl) refl
