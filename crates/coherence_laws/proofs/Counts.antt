-- How many lines a core has to write back.
use Rattle.std.proofs.Common.{◌≡◌, ◌≢◌, ℕ, ◌+◌, ◌<◌, ◌≤◌, List, [], ◌∷◌, length, Option, Some, None, true, false, refl, ap, ◌∙◌, arith}
use mathlib.Core.Logic.{dite}
use native.Mathlib.Decide.{dec_le}
use Rattle.pmsi_model.specs.declared.job.Geometry.{Geometry}
use Rattle.pmsi_model.specs.declared.Want.{Want}
use Rattle.pmsi_model.specs.Machine.{Request, CoreState, mode_of, has_line, has_request, request_of}
use Rattle.pmsi_model.specs.Run.{machine_at}
use Rattle.pmsi_model.specs.Coherent.{ListsEachOnce, posted_request, victim_in}
use Rattle.coherence_laws.specs.Laws.{WriteBacksFit}
use Rattle.pmsi_model.proofs.Requests.{requests_within, requests_below}
use Rattle.pmsi_model.proofs.WriteBacks.{without_line, line_less, lines_once_less}
use Rattle.coherence_laws.proofs.Fine.{FineCore}
use Rattle.coherence_laws.proofs.Whole.{IsWhole}
use Rattle.coherence_laws.proofs.Slots.{whole_at}

-- ---- lines, each with a request

line_absent : (line : ℕ) (lines : List ℕ) → has_line line lines ≡ false → without_line line lines ≡ lines
line_absent line [] absent = refl
line_absent line (x ∷ lines) absent = grind (arith, line_absent line lines)

line_count : (line : ℕ) (lines : List ℕ) → ListsEachOnce lines → length lines ≤ length (without_line line lines) + 1
line_count line [] once = grind arith
line_count line (x ∷ lines) once = grind (arith, line_count line lines once.1, line_absent line lines, once.0)

-- there are at most as many lines as requests
lines_within : (rs : List Request) (lines : List ℕ) → ListsEachOnce lines → ((l : ℕ) → has_line l lines ≡ true → has_request l rs ≡ true)
    → length lines ≤ length rs
lines_within [] [] once each = omega arith
lines_within [] (l ∷ lines) once each = absurd (grind (arith, each l))
lines_within (r ∷ rs) lines once each =
    let fewer : length (without_line r.line lines) ≤ length rs =
    lines_within rs (without_line r.line lines) (lines_once_less r.line lines once) (λ l has. grind (arith, line_less l r.line lines, each l)) in
    let counts = line_count r.line lines once in grind arith

-- ---- the lines of a core

victim_unposted : (c : ℕ) (want : Option Want) (victim : ℕ) → ((w : Want) → want ≡ Some w → w.victim ≡ Some victim → w.post ≡ None)
    → victim_in want ≡ Some victim → posted_request c want ≡ None
victim_unposted c None victim unposted is = refl
victim_unposted c (Some w) victim unposted is = let none : w.post ≡ None = unposted w refl is in grind arith

no_request : (shape : Geometry) (slot : ℕ) (posted : List Request) (cores : ℕ → CoreState) → IsWhole shape slot posted cores → (d : ℕ)
    → shape.cores ≤ d → request_of d posted ≡ None
no_request shape slot posted cores w d past = (w.fine d).posted_wants ∙ ap (posted_request d) (w.idle d past)

-- at most as many requests are posted as there are cores
pub posted_within : (shape : Geometry) (slot : ℕ) (posted : List Request) (cores : ℕ → CoreState) → IsWhole shape slot posted cores
    → length posted ≤ shape.cores
posted_within shape slot posted cores w = requests_within shape.cores posted w.once (no_request shape slot posted cores w)

backs_within : (shape : Geometry) (slot : ℕ) (posted : List Request) (cores : ℕ → CoreState) (c : ℕ) (victim : Option ℕ)
    → IsWhole shape slot posted cores → c < shape.cores → victim_in (cores c).want ≡ victim
    → length (cores c).write_backs ≤ shape.cores
backs_within shape slot posted cores c None w below is = let f = w.fine c in
    let lines : length (cores c).write_backs ≤ length posted = lines_within posted (cores c).write_backs f.back_once (λ l has. grind (arith, f.back_due l has)) in
    let requests : length posted ≤ shape.cores = posted_within shape slot posted cores w in
    omega arith
backs_within shape slot posted cores c (Some victim) w below is = let f = w.fine c in
    let backs : List ℕ = (cores c).write_backs in
    let lines : length (without_line victim backs) ≤ length posted =
    lines_within posted (without_line victim backs) (lines_once_less victim backs f.back_once) (λ l has. grind (arith, line_less l victim backs, f.back_due l)) in
    let free : request_of c posted ≡ None =
    f.posted_wants ∙ victim_unposted c (cores c).want victim (λ v wants of. (f.want_fine v wants).victim_unposted victim of) is in
    let requests : length posted + 1 ≤ shape.cores =
    requests_below shape.cores posted c w.once (no_request shape slot posted cores w) below free in
    let counts = line_count victim backs f.back_once in omega arith

-- a core that wants nothing has no request, so it has fewer lines to write back than there are cores
pub backs_fewer : (shape : Geometry) (slot : ℕ) (posted : List Request) (cores : ℕ → CoreState) (c : ℕ) (k : CoreState)
    → IsWhole shape slot posted cores → FineCore shape slot posted c k → c < shape.cores → k.want ≡ None
    → length k.write_backs < shape.cores
backs_fewer shape slot posted cores c k w f below none =
    let lines : length k.write_backs ≤ length posted = lines_within posted k.write_backs f.back_once (λ l has. grind (arith, f.back_due l has)) in
    let free : request_of c posted ≡ None = f.posted_wants ∙ ap (posted_request c) none in
    let requests : length posted + 1 ≤ shape.cores =
    requests_below shape.cores posted c w.once (no_request shape slot posted cores w) below free in
    omega arith

none_listed : (lines : List ℕ) → ((l : ℕ) → has_line l lines ≢ true) → length lines ≡ 0
none_listed [] none = refl
none_listed (l ∷ lines) none = absurd (none l (grind arith))

pub backs_fit : (shape : Geometry) (slot : ℕ) (posted : List Request) (cores : ℕ → CoreState) (c : ℕ) → IsWhole shape slot posted cores
    → length (cores c).write_backs ≤ shape.cores
backs_fit shape slot posted cores c w = dite (dec_le shape.cores c)
    (λ past. let empty = none_listed (cores c).write_backs (λ l has. let owned = (w.fine c).back_owned l has in let none = ap (mode_of l) (w.outside c past) in grind arith) in omega arith)
    (λ below. backs_within shape slot posted cores c (victim_in (cores c).want) w (omega arith) refl)

pub write_backs_fit : WriteBacksFit
write_backs_fit job is slot c = backs_fit job.shape (machine_at job slot).slot (machine_at job slot).posted (machine_at job slot).cores c (whole_at job is slot)
