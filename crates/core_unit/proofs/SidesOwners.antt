-- The owners of lines, and what each action does to them.
use Rattle.std.proofs.Common.{◌≡◌, ◌≢◌, ℕ, ◌<◌, List, Option, Some, None, Bool, true, false, if◌then◌else◌, refl, sym, ap, ◌∙◌, subst, arith}
use mathlib.Core.Logic.{dite}
use native.Mathlib.Decide.{ℕ_discrete}
use Rattle.pmsi_model.specs.declared.Kind.{Kind}
use Rattle.pmsi_model.specs.declared.Kind.TheVariants.{Read, Write}
use Rattle.pmsi_model.specs.declared.Mode.{Mode}
use Rattle.pmsi_model.specs.declared.Mode.TheVariants.{Shared, Modified}
use Rattle.pmsi_model.specs.declared.Want.{Want}
use Rattle.pmsi_model.specs.Machine.{Machine, CoreState, mode_of, mode_in, is_modified, without, with_mode, owns, nobody_owns, owner_of, has_write, removed}
use Rattle.pmsi_model.specs.Bus.{post, noted_post, fill, filled_line, write_back}
use Rattle.pmsi_model.proofs.Changes.{filled_core, post-own, post-other, noted-mode, fill-own, fill-other, write_back-own, write_back-other}
use Rattle.pmsi_model.proofs.Held.{mode_without, mode_to_front, mode_with_mode}
use Rattle.coherence_laws.proofs.Exports.{filled_else}
use Rattle.pmsi_model.proofs.Owners.{nobody_none, nobody_below, nobody_from, owner_alone, owner_same, unmodified}

-- ---- a post

noted_here : (kind : Kind) (line : ℕ) (k : CoreState) (mode : Option Mode) → mode_of line k.held ≡ mode
    → is_modified (mode_of line (noted_post kind line k).held) ≡ is_modified (mode_of line k.held)
noted_here kind line k None is = grind (arith, noted-mode kind line line k)
noted_here kind line k (Some Shared) is = grind (arith, noted-mode kind line line k)
noted_here kind line k (Some Modified) is = grind (arith, noted-mode kind line line k)

noted_owns : (kind : Kind) (line l : ℕ) (k : CoreState) → is_modified (mode_of l (noted_post kind line k).held) ≡ is_modified (mode_of l k.held)
noted_owns kind line l k = dite (ℕ_discrete l line)
    (λ same. subst (λ (n : ℕ). is_modified (mode_of n (noted_post kind line k).held) ≡ is_modified (mode_of n k.held)) (sym same) (noted_here kind line k (mode_of line k.held) refl))
    (λ other. ap is_modified (let m = noted-mode kind line l k in grind arith))

posted_owns : (x : Machine) (c : ℕ) (kind : Kind) (line l d : ℕ) → owns (post x c kind line) d l ≡ owns x d l
posted_owns x c kind line l d = dite (ℕ_discrete d c)
    (λ same. subst (λ (n : ℕ). owns (post x c kind line) n l ≡ owns x n l) (sym same) (ap (λ (k : CoreState). is_modified (mode_of l k.held)) (post-own x c kind line)))
    (λ other. ap (λ (k : CoreState). is_modified (mode_of l k.held)) (post-other x c d kind line other) ∙ noted_owns kind line l (x.cores d))

-- a post leaves the owners
pub post-owner : (x : Machine) (c : ℕ) (kind : Kind) (line count l : ℕ) → owner_of (post x c kind line) count l ≡ owner_of x count l
post-owner x c kind line count l = owner_same (post x c kind line) x count l (λ d below. posted_owns x c kind line l d)

-- ---- a fill

-- a line that is read is owned as before, where its core doesn't own it
read_owns : (behind : Bool) (line l : ℕ) (held : List (ℕ × Mode)) → mode_of line held ≢ Some Modified
    → is_modified (mode_of l (filled_line Read behind line held)) ≡ is_modified (mode_of l held)
read_owns true line l held other = refl
read_owns false line l held other = dite (ℕ_discrete l line)
    (λ same. subst (λ (n : ℕ). is_modified (mode_of n (filled_line Read false line held)) ≡ is_modified (mode_of n held)) (sym same)
    (let m : mode_of line (filled_line Read false line held) ≡ Some Shared = (let f = mode_to_front line line Shared held in grind arith)
    in ap is_modified m ∙ sym (unmodified (mode_of line held) other)))
    (λ there. ap is_modified (let f = mode_to_front l line Shared held in grind arith))

write_mode : (behind : Bool) (line : ℕ) (held : List (ℕ × Mode)) → mode_of line (filled_line Write behind line held) ≡ Some Modified
write_mode behind line held = let f = mode_to_front line line Modified held in grind arith

module _ (x : Machine) (c : ℕ) (want : Want) (wants : (x.cores c).want ≡ Some want) where
  held_after : (fill x c).cores c ≡ filled_core x c want
  held_after = fill-own x c want wants

  -- a read leaves the owners
  pub fill-owner_read : (count l : ℕ) → want.kind ≡ Read → mode_in x c want.line ≢ Some Modified → owner_of (fill x c) count l ≡ owner_of x count l
  fill-owner_read count l reads other = owner_same (fill x c) x count l (λ d below. dite (ℕ_discrete d c)
      (λ same. subst (λ (n : ℕ). owns (fill x c) n l ≡ owns x n l) (sym same)
      (ap (λ (k : CoreState). is_modified (mode_of l k.held)) held_after
      ∙ ap (λ (k : Kind). is_modified (mode_of l (filled_line k (has_write want.line (removed c x.posted)) want.line (x.cores c).held))) reads
      ∙ read_owns (has_write want.line (removed c x.posted)) want.line l (x.cores c).held other))
      (λ there. ap (λ (k : CoreState). is_modified (mode_of l k.held)) (fill-other x c d there)))

  -- any fill leaves those of other lines
  pub fill-owner_else : (count l : ℕ) → l ≢ want.line → owner_of (fill x c) count l ≡ owner_of x count l
  fill-owner_else count l other = owner_same (fill x c) x count l (λ d below. dite (ℕ_discrete d c)
      (λ same. subst (λ (n : ℕ). owns (fill x c) n l ≡ owns x n l) (sym same)
      (ap (λ (k : CoreState). is_modified (mode_of l k.held)) held_after
      ∙ ap is_modified (filled_else want.kind (has_write want.line (removed c x.posted)) want.line l (x.cores c).held other)))
      (λ there. ap (λ (k : CoreState). is_modified (mode_of l k.held)) (fill-other x c d there)))

  -- a write makes its core the owner
  pub fill-owner_write : (count : ℕ) → want.kind ≡ Write → c < count → nobody_owns x count want.line ≡ true → owner_of (fill x c) count want.line ≡ Some c
  fill-owner_write count writes below nobody = owner_alone (fill x c) count want.line c below
      (ap (λ (k : CoreState). mode_of want.line k.held) held_after
      ∙ ap (λ (k : Kind). mode_of want.line (filled_line k (has_write want.line (removed c x.posted)) want.line (x.cores c).held)) writes
      ∙ write_mode (has_write want.line (removed c x.posted)) want.line (x.cores c).held)
      (λ d under other owned. nobody_below x count want.line nobody d under (ap (λ (k : CoreState). mode_of want.line k.held) (sym (fill-other x c d other)) ∙ owned))

-- ---- a write-back

abbrev back_held : ℕ → Bool → List (ℕ × Mode) → List (ℕ × Mode)
back_held line kept held = if kept then with_mode line Shared held else without line held

back_mode_else : (line l : ℕ) (kept : Bool) (held : List (ℕ × Mode)) → l ≢ line → mode_of l (back_held line kept held) ≡ mode_of l held
back_mode_else line l true held other = let f = mode_with_mode l line Shared held in grind arith
back_mode_else line l false held other = let f = mode_without l line held in grind arith

back_mode : (line : ℕ) (kept : Bool) (held : List (ℕ × Mode)) → mode_of line (back_held line kept held) ≢ Some Modified
back_mode line true held owned = let f = mode_with_mode line line Shared held in grind arith
back_mode line false held owned = let f = mode_without line line held in grind arith

module _ (x : Machine) (c line : ℕ) (kept : Bool) where
  -- a write-back leaves the owners of other lines
  pub back-owner_else : (count l : ℕ) → l ≢ line → owner_of (write_back x c line kept) count l ≡ owner_of x count l
  back-owner_else count l other = owner_same (write_back x c line kept) x count l (λ d below. dite (ℕ_discrete d c)
      (λ same. subst (λ (n : ℕ). owns (write_back x c line kept) n l ≡ owns x n l) (sym same)
      (ap (λ (k : CoreState). is_modified (mode_of l k.held)) (write_back-own x c line kept)
      ∙ ap is_modified (back_mode_else line l kept (x.cores c).held other)))
      (λ there. ap (λ (k : CoreState). is_modified (mode_of l k.held)) (write_back-other x c line kept d there)))

  -- and none to its line, which no other core owned
  pub back-owner : (count : ℕ) → ((d : ℕ) → d ≢ c → mode_in x d line ≢ Some Modified) → owner_of (write_back x c line kept) count line ≡ None
  back-owner count alone = nobody_none (write_back x c line kept) count line (nobody_from (write_back x c line kept) count line (λ d below. dite (ℕ_discrete d c)
      (λ same. subst (λ (n : ℕ). mode_in (write_back x c line kept) n line ≢ Some Modified) (sym same)
      (λ owned. back_mode line kept (x.cores c).held (ap (λ (k : CoreState). mode_of line k.held) (sym (write_back-own x c line kept)) ∙ owned)))
      (λ there owned. alone d there (ap (λ (k : CoreState). mode_of line k.held) (sym (write_back-other x c line kept d there)) ∙ owned))))
