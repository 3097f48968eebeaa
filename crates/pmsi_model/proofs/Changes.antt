-- What each change of the machine leaves in its parts.
use Rattle.std.proofs.Common.{◌≡◌, ◌≢◌, ℕ, [], ◌∷◌, ◌++◌, drop, Option, Some, None, Bool, ◌==◌, ◌&&◌, if◌then◌else◌, refl, ap, ◌∙◌, arith, List, true, false}
use Rattle.std.specs.Option.{option_map}
use Rattle.pmsi_model.specs.declared.Kind.{Kind}
use Rattle.pmsi_model.specs.declared.Kind.TheVariants.{Read, Write}
use Rattle.pmsi_model.specs.declared.Mode.{Mode}
use Rattle.pmsi_model.specs.declared.Mode.TheVariants.{Shared, Modified}
use Rattle.pmsi_model.specs.declared.Turn.TheVariants.{Request as RequestTurn, WriteBack as WriteBackTurn}
use Rattle.pmsi_model.specs.declared.Want.{Want}
use Rattle.pmsi_model.specs.Job.{JobValue, text_of}
use Rattle.pmsi_model.specs.Machine.{Machine, CoreState, mode_of, is_shared, is_modified, is_write, without, with_mode, append_once, has_request, has_write, removed}
use Rattle.pmsi_model.specs.Phase.{Context, met_bytes, memory_after, retired_with, instructions, context_of, phase}
use Rattle.pmsi_model.specs.Bus.{post, post_at, noted_post_in, noted_post, fill, fill_for, filled_line, append_demanded, write_back, clear_victim}
use Rattle.pmsi_model.proofs.Cases.{own_core, other_core}
use Rattle.pmsi_model.proofs.Held.{mode_without, mode_to_front}

-- ---- phase

-- the context that a core's phase ends in
abbrev pub phase_end : JobValue → ℕ → Machine → Context
phase_end job c x = instructions job.shape x.slot (text_of job c) job.shape.quantum (context_of x c)

pub phase-own : (job : JobValue) (c : ℕ) (x : Machine) → (phase job c x).cores c ≡ (phase_end job c x).core
unfolding phase
phase-own job c x = own_core c (phase_end job c x).core x.cores

pub phase-other : (job : JobValue) (c d : ℕ) (x : Machine) → d ≢ c → (phase job c x).cores d ≡ x.cores d
unfolding phase
phase-other job c d x other = other_core c (phase_end job c x).core x.cores d other

pub phase-memory : (job : JobValue) (c : ℕ) (x : Machine) → (phase job c x).memory ≡ (phase_end job c x).memory
unfolding phase
phase-memory job c x = refl

-- ---- post

pub post-memory : (x : Machine) (c : ℕ) (kind : Kind) (line : ℕ) → (post x c kind line).memory ≡ x.memory
unfolding post
post-memory x c kind line = refl

pub post-posted : (x : Machine) (c : ℕ) (kind : Kind) (line : ℕ)
    → (post x c kind line).posted ≡ x.posted ++ record { core = c; line = line; kind = kind } ∷ []
unfolding post
post-posted x c kind line = refl

-- the core that posted
abbrev pub posted_core : ℕ → CoreState → CoreState
posted_core slot k = record k { want = option_map (post_at slot) k.want; turn = WriteBackTurn }

pub post-own : (x : Machine) (c : ℕ) (kind : Kind) (line : ℕ) → (post x c kind line).cores c ≡ posted_core x.slot (x.cores c)
unfolding post
post-own x c kind line = own_core c (posted_core x.slot (x.cores c)) (λ d. noted_post kind line (x.cores d))

pub post-other : (x : Machine) (c d : ℕ) (kind : Kind) (line : ℕ) → d ≢ c → (post x c kind line).cores d ≡ noted_post kind line (x.cores d)
unfolding post
post-other x c d kind line other = other_core c (posted_core x.slot (x.cores c)) (λ e. noted_post kind line (x.cores e)) d other

-- who takes note keeps its want, its turn and its run
noted_in-want : (kind : Kind) (line : ℕ) (mode : Option Mode) (k : CoreState) → (noted_post_in kind line mode k).want ≡ k.want
noted_in-want kind line None k = refl
noted_in-want Read line (Some Shared) k = refl
noted_in-want Write line (Some Shared) k = refl
noted_in-want kind line (Some Modified) k = refl

pub noted-want : (kind : Kind) (line : ℕ) (k : CoreState) → (noted_post kind line k).want ≡ k.want
noted-want kind line k = noted_in-want kind line (mode_of line k.held) k

noted_in-turn : (kind : Kind) (line : ℕ) (mode : Option Mode) (k : CoreState) → (noted_post_in kind line mode k).turn ≡ k.turn
noted_in-turn kind line None k = refl
noted_in-turn Read line (Some Shared) k = refl
noted_in-turn Write line (Some Shared) k = refl
noted_in-turn kind line (Some Modified) k = refl

pub noted-turn : (kind : Kind) (line : ℕ) (k : CoreState) → (noted_post kind line k).turn ≡ k.turn
noted-turn kind line k = noted_in-turn kind line (mode_of line k.held) k

-- what it holds, and what it has to write back
noted_in-mode : (kind : Kind) (line l : ℕ) (mode : Option Mode) (k : CoreState) → mode_of line k.held ≡ mode
    → mode_of l (noted_post_in kind line mode k).held ≡ (if (l == line) && (is_write kind && is_shared mode) then None else mode_of l k.held)
noted_in-mode kind line l None k is = grind arith
noted_in-mode Read line l (Some Shared) k is = grind arith
noted_in-mode Write line l (Some Shared) k is = grind (arith, mode_without l line k.held)
noted_in-mode kind line l (Some Modified) k is = grind arith

pub noted-mode : (kind : Kind) (line l : ℕ) (k : CoreState)
    → mode_of l (noted_post kind line k).held ≡ (if (l == line) && (is_write kind && is_shared (mode_of line k.held)) then None else mode_of l k.held)
noted-mode kind line l k = noted_in-mode kind line l (mode_of line k.held) k refl

noted_in-backs : (kind : Kind) (line : ℕ) (mode : Option Mode) (k : CoreState)
    → (noted_post_in kind line mode k).write_backs ≡ (if is_modified mode then append_once line k.write_backs else k.write_backs)
noted_in-backs kind line None k = refl
noted_in-backs Read line (Some Shared) k = refl
noted_in-backs Write line (Some Shared) k = refl
noted_in-backs kind line (Some Modified) k = refl

pub noted-backs : (kind : Kind) (line : ℕ) (k : CoreState)
    → (noted_post kind line k).write_backs ≡ (if is_modified (mode_of line k.held) then append_once line k.write_backs else k.write_backs)
noted-backs kind line k = noted_in-backs kind line (mode_of line k.held) k

-- who doesn't hold the line keeps all
noted_in-unheld : (kind : Kind) (line : ℕ) (mode : Option Mode) (k : CoreState) → mode ≡ None → noted_post_in kind line mode k ≡ k
noted_in-unheld kind line None k none = refl
noted_in-unheld kind line (Some Shared) k none = absurd (grind arith)
noted_in-unheld kind line (Some Modified) k none = absurd (grind arith)

pub noted-unheld : (kind : Kind) (line : ℕ) (k : CoreState) → mode_of line k.held ≡ None → noted_post kind line k ≡ k
noted-unheld kind line k none = noted_in-unheld kind line (mode_of line k.held) k none

-- ---- fill

-- the core whose request is filled
abbrev pub filled_core : Machine → ℕ → Want → CoreState
filled_core x c want = record (retired_with want.access (met_bytes want.access x.memory) (x.cores c)) {
  held = filled_line want.kind (has_write want.line (removed c x.posted)) want.line (x.cores c).held;
  want = None;
  write_backs = append_demanded want.kind (has_request want.line (removed c x.posted)) want.line (x.cores c).write_backs;
  turn = WriteBackTurn;
}

-- a fill, where the want is known
pub fill-want : (x : Machine) (c : ℕ) (want : Want) → (x.cores c).want ≡ Some want → fill x c ≡ fill_for x c (Some want)
unfolding fill
fill-want x c want is = ap (fill_for x c) is

pub fill-memory : (x : Machine) (c : ℕ) (want : Want) → (x.cores c).want ≡ Some want → (fill x c).memory ≡ memory_after want.access x.memory
fill-memory x c want is = ap (λ (y : Machine). y.memory) (fill-want x c want is)

pub fill-posted : (x : Machine) (c : ℕ) (want : Want) → (x.cores c).want ≡ Some want → (fill x c).posted ≡ removed c x.posted
fill-posted x c want is = ap (λ (y : Machine). y.posted) (fill-want x c want is)

pub fill-own : (x : Machine) (c : ℕ) (want : Want) → (x.cores c).want ≡ Some want → (fill x c).cores c ≡ filled_core x c want
fill-own x c want is = ap (λ (y : Machine). y.cores c) (fill-want x c want is) ∙ own_core c (filled_core x c want) x.cores

fill_for-other : (x : Machine) (c d : ℕ) (want : Option Want) → d ≢ c → (fill_for x c want).cores d ≡ x.cores d
fill_for-other x c d None other = refl
fill_for-other x c d (Some want) other = other_core c (filled_core x c want) x.cores d other

pub fill-other : (x : Machine) (c d : ℕ) → d ≢ c → (fill x c).cores d ≡ x.cores d
unfolding fill
fill-other x c d other = fill_for-other x c d (x.cores c).want other

-- ---- write-back

-- the core that wrote a line back
abbrev pub written_core : ℕ → Bool → CoreState → CoreState
written_core line kept k = record k {
  held = if kept then with_mode line Shared k.held else without line k.held;
  want = option_map (clear_victim line) k.want;
  write_backs = drop 1 k.write_backs;
  turn = RequestTurn;
}

pub write_back-memory : (x : Machine) (c line : ℕ) (kept : Bool) → (write_back x c line kept).memory ≡ x.memory
unfolding write_back
write_back-memory x c line kept = refl

pub write_back-posted : (x : Machine) (c line : ℕ) (kept : Bool) → (write_back x c line kept).posted ≡ x.posted
unfolding write_back
write_back-posted x c line kept = refl

pub write_back-own : (x : Machine) (c line : ℕ) (kept : Bool) → (write_back x c line kept).cores c ≡ written_core line kept (x.cores c)
unfolding write_back
write_back-own x c line kept = own_core c (written_core line kept (x.cores c)) x.cores

pub write_back-other : (x : Machine) (c line : ℕ) (kept : Bool) (d : ℕ) → d ≢ c → (write_back x c line kept).cores d ≡ x.cores d
unfolding write_back
write_back-other x c line kept d other = other_core c (written_core line kept (x.cores c)) x.cores d other

-- the modes after a fill
pub mode_filled : (kind : Kind) (behind : Bool) (l line : ℕ) (held : List (ℕ × Mode))
    → mode_of l (filled_line kind behind line held)
    ≡ (if l == line then (if is_write kind then Some Modified else (if behind then mode_of line held else Some Shared)) else mode_of l held)
mode_filled Write behind l line held = grind (arith, mode_to_front l line Modified held)
mode_filled Read true l line held = grind arith
mode_filled Read false l line held = grind (arith, mode_to_front l line Shared held)
