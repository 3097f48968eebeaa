-- The action of a slot: memory goes as the fill's access says, and each want stays within memory.
use Rattle.std.proofs.Common.{◌≡◌, ℕ, ◌==◌, Bool, true, false, if◌then◌else◌, Option, Some, None, option_map, List, [], refl, sym, ap, ◌∙◌, subst}
use Rattle.std.proofs.lemmas.Bool.{eq-eqb}
use Rattle.pmsi_model.specs.declared.Action.{Action}
use Rattle.pmsi_model.specs.declared.Action.TheVariants.{Idle, Post, Fill, PostFill, Back}
use Rattle.pmsi_model.specs.declared.Kind.{Kind}
use Rattle.pmsi_model.specs.declared.Mode.{Mode}
use Rattle.pmsi_model.specs.declared.Mode.TheVariants.{Shared, Modified}
use Rattle.pmsi_model.specs.declared.Touch.{Touch}
use Rattle.pmsi_model.specs.declared.Turn.TheVariants.{WriteBack as WriteBackTurn}
use Rattle.pmsi_model.specs.declared.Want.{Want}
use Rattle.pmsi_model.specs.Machine.{Machine, CoreState, mode_of, without, is_write}
use Rattle.pmsi_model.specs.Bus.{noted_post, noted_post_in, post_at, post, fill_for, fill, is_core, clear_victim, write_back, kind_of_name, after_action}
use Rattle.pmsi_model.specs.Run.{want_touch, action_touch}
use Rattle.latest_laws.proofs.Follows.{follows_none}
use Rattle.pmsi_model.proofs.Accesses.{IsFit}
use Rattle.latest_laws.proofs.Accesses.{access_follows}
use Rattle.latest_laws.proofs.Phases.{WantWithin, AllReady, Moves, moves_append, all_ready_after, want_if}

moves_none : (size : ℕ) (x : Machine) → AllReady size x → Moves size x [] x
moves_none size x h = record { memory = follows_none x.memory h.bytes; wants = h.wants }

-- ---- post

posted_within : (size slot : ℕ) (want : Option Want) → WantWithin size want → WantWithin size (option_map (post_at slot) want)
posted_within size slot None h = tt
posted_within size slot (Some want) h = h

noted_within : (size : ℕ) (kind : Kind) (line : ℕ) (mode : Option Mode) (k : CoreState) → WantWithin size k.want → WantWithin size (noted_post_in kind line mode k).want
noted_within size kind line None k h = h
noted_within size kind line (Some Shared) k h = want_if (is_write kind) size (record k { held = without line k.held }) k h h
noted_within size kind line (Some Modified) k h = h

post_moves : (size : ℕ) (x : Machine) (c : ℕ) (kind : Kind) (line : ℕ) → AllReady size x → Moves size x [] (post x c kind line)
unfolding post
post_moves size x c kind line h = record {
  memory = follows_none x.memory h.bytes;
  wants = λ d. want_if (d == c) size (record (x.cores c) { want = option_map (post_at x.slot) (x.cores c).want; turn = WriteBackTurn }) (noted_post kind line (x.cores d))
      (posted_within size x.slot (x.cores c).want (h.wants c)) (noted_within size kind line (mode_of line (x.cores d).held) (x.cores d) (h.wants d));
}

-- the posted want has the same access
posted_touch : (x : Machine) (c : ℕ) (kind : Kind) (line : ℕ) (want : Option Want) → want_touch (post x c kind line) c (option_map (post_at x.slot) want) ≡ want_touch x c want
unfolding post
posted_touch x c kind line None = refl
posted_touch x c kind line (Some want) = refl

posted_want : (x : Machine) (c : ℕ) (kind : Kind) (line : ℕ) → ((post x c kind line).cores c).want ≡ option_map (post_at x.slot) (x.cores c).want
unfolding post
posted_want x c kind line = rw (eq-eqb c c refl)

-- ---- fill

fill_moves_for : (size : ℕ) (x : Machine) (c : ℕ) (want : Option Want) → AllReady size x → WantWithin size want → Moves size x (want_touch x c want) (fill_for x c want)
fill_moves_for size x c None h within = moves_none size x h
fill_moves_for size x c (Some want) h within = record {
  memory = access_follows x.slot c want.access x.memory h.bytes (subst (λ (n : ℕ). IsFit n want.access) (sym h.extent) within);
  wants = λ d. want_if (d == c) size _ (x.cores d) tt (h.wants d);
}

fill_moves : (size : ℕ) (x : Machine) (c : ℕ) → AllReady size x → Moves size x (want_touch x c (x.cores c).want) (fill x c)
unfolding fill
fill_moves size x c h = fill_moves_for size x c (x.cores c).want h (h.wants c)

post_fill_moves : (size : ℕ) (x : Machine) (c : ℕ) (kind : Kind) (line : ℕ) → AllReady size x → Moves size x (want_touch x c (x.cores c).want) (fill (post x c kind line) c)
post_fill_moves size x c kind line h =
    let y : Machine = post x c kind line in
    let posts : Moves size x [] y = post_moves size x c kind line h in
    let fills : Moves size y (want_touch y c (y.cores c).want) (fill y c) = fill_moves size y c (all_ready_after size x y [] h posts) in
    let same : want_touch y c (y.cores c).want ≡ want_touch x c (x.cores c).want = ap (λ (want : Option Want). want_touch y c want) (posted_want x c kind line) ∙ posted_touch x c kind line (x.cores c).want in
    moves_append size x y (fill y c) [] (want_touch x c (x.cores c).want) posts (subst (λ (touches : List Touch). Moves size y touches (fill y c)) same fills)

-- ---- write-back

victim_within : (b : Bool) (size : ℕ) (want : Want) → IsFit size want.access → IsFit size (if b then record want { victim = None } else want).access
victim_within true size want h = h
victim_within false size want h = h

cleared_within : (size line : ℕ) (want : Option Want) → WantWithin size want → WantWithin size (option_map (clear_victim line) want)
cleared_within size line None h = tt
cleared_within size line (Some want) h = victim_within (is_core line want.victim) size want h

write_back_moves : (size : ℕ) (x : Machine) (c line : ℕ) (kept : Bool) → AllReady size x → Moves size x [] (write_back x c line kept)
unfolding write_back
write_back_moves size x c line kept h = record {
  memory = follows_none x.memory h.bytes;
  wants = λ d. want_if (d == c) size _ (x.cores d) (cleared_within size line (x.cores c).want (h.wants c)) (h.wants d);
}

pub action_moves : (size : ℕ) (x : Machine) (c : ℕ) (action : Action) → AllReady size x → Moves size x (action_touch x c action) (after_action x c action)
unfolding after_action
action_moves size x c Idle h = moves_none size x h
action_moves size x c (Post name line) h = post_moves size x c (kind_of_name name) line h
action_moves size x c (Fill line) h = fill_moves size x c h
action_moves size x c (PostFill name line) h = post_fill_moves size x c (kind_of_name name) line h
action_moves size x c (Back line kept) h = write_back_moves size x c line kept h
