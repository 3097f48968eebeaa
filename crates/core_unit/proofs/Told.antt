-- The state of a line tells what is left behind its request when it is served.
use Rattle.std.proofs.Common.{◌≡◌, ℕ, ◌+◌, List, Bool, true, false, Some, None, is_some, if◌then◌else◌, refl, sym, ap, ◌∙◌, arith}
use Rattle.pmsi_model.specs.declared.Behind.TheVariants.{Nobody, Reads, Write as WriteBehind}
use Rattle.pmsi_model.specs.declared.Want.{Want}
use Rattle.pmsi_model.specs.Coherent.{posted_request}
use Rattle.pmsi_model.specs.Job.{IsJob}
use Rattle.pmsi_model.specs.Machine.{Machine, CoreState, Request, first_of, has_request, has_write, is_shared, mode_of, nobody_owns, removed, request_of}
use Rattle.pmsi_model.specs.Named.{posted_state, state_in}
use Rattle.pmsi_model.specs.Parts.{IsSharedOf}
use Rattle.pmsi_model.specs.Run.{after_phases, machine_at}
use Rattle.pmsi_model.specs.Shared.{behind_in}
use Rattle.pmsi_model.proofs.Requests.{write_waits}
use Rattle.coherence_laws.proofs.Exports.{IsWhole, phases_at}
use Rattle.cache_ctrl.proofs.Exports.{filled_state, want_request}
use Rattle.cache_array.specs.Cache.{held_of}
use Rattle.core_unit.specs.State.{core_of}
use Rattle.core_unit.specs.Laws.{BehindIsTold, is_left, is_write_left}
use Rattle.core_unit.proofs.Carried.{carried, knows_carried}
use Rattle.core_unit.proofs.Changed.{first_served, settled_in}
use Rattle.core_unit.proofs.SidesNext as side
use Rattle.core_unit.proofs.SidesReady.{ready_served}

left_by : (write any : Bool) → (write ≡ true → any ≡ true) → is_left (if write then WriteBehind else if any then Reads else Nobody) ≡ any
left_by true any so = sym (so refl)
left_by false true so = refl
left_by false false so = refl

write_by : (write any : Bool) → is_write_left (if write then WriteBehind else if any then Reads else Nobody) ≡ write
write_by true any = refl
write_by false true = refl
write_by false false = refl

left_is : (line : ℕ) (posted : List Request) → is_left (behind_in line posted) ≡ has_request line posted
left_is line posted = left_by (has_write line posted) (has_request line posted) (write_waits line posted)

write_is : (line : ℕ) (posted : List Request) → is_write_left (behind_in line posted) ≡ has_write line posted
write_is line posted = write_by (has_write line posted) (has_request line posted)

posted_by : (c : ℕ) (want : Want) (b : Bool) → b ≡ true → (if b then Some (want_request c want) else None) ≡ Some (want_request c want)
posted_by c want b is = ap (λ (p : Bool). if p then Some (want_request c want) else None) is

pub behind_is_told : BehindIsTold
behind_is_told job slot c v b want p q own wants posted ready =
    let y : Machine = after_phases job (machine_at job slot) in
    let is : IsJob job = p.in_slot.stands.carries.within in
    let core : y.cores c ≡ core_of v = (carried job slot c v p).core in
    let whole : IsWhole job.shape (slot + 1) y.posted y.cores = phases_at job is slot job.shape.cores (omega arith) in
    let shared : IsSharedOf job y b.memory = side.side_now job slot c b is q p.more own in
    let mine : (y.cores c).want ≡ Some want = ap (λ (k : CoreState). k.want) core ∙ wants in
    let request : request_of c y.posted ≡ Some (want_request c want) = (whole.fine c).posted_wants ∙ ap (posted_request c) mine ∙ posted_by c want (is_some want.post) posted in
    let first : first_of want.line y.posted ≡ Some c = first_served c (first_of want.line y.posted) (nobody_owns y job.shape.cores want.line)
    (sym (ready_served job y b.memory c (want_request c want) shared request) ∙ ready) in
    (knows_carried job slot c v p).names want.line
    ∙ ap (λ (k : CoreState). state_in y.posted c k want.line) (sym core)
    ∙ filled_state y c want (settled_in job.shape (slot + 1) y c (y.cores c) whole refl) mine posted first
    ∙ ap (λ (k : CoreState). posted_state want.kind (is_shared (mode_of want.line k.held)) (has_request want.line (removed c y.posted)) (has_write want.line (removed c y.posted))) core
    ∙ ap (λ (rs : List Request). posted_state want.kind (is_shared (mode_of want.line (held_of v.cache.lines))) (has_request want.line (removed c rs)) (has_write want.line (removed c rs)))
    (sym shared.posted)
    ∙ ap (λ (any : Bool). posted_state want.kind (is_shared (mode_of want.line (held_of v.cache.lines))) any (has_write want.line (removed c b.memory.posted)))
    (sym (left_is want.line (removed c b.memory.posted)))
    ∙ ap (λ (write : Bool). posted_state want.kind (is_shared (mode_of want.line (held_of v.cache.lines))) (is_left (behind_in want.line (removed c b.memory.posted))) write)
    (sym (write_is want.line (removed c b.memory.posted)))
