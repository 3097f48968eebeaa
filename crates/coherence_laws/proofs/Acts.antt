-- The actions on the bus keep the facts of all cores.
use Rattle.std.proofs.Common.{◌≡◌, ◌≢◌, ◌⊎◌, ℕ, ◌+◌, ◌<◌, ◌≤◌, List, [], ◌∷◌, ◌++◌, drop, Some, None, is_some, Bool, true, false, ◌==◌, if◌then◌else◌, refl, sym, ap, ◌∙◌, subst, inl, arith}
use mathlib.Core.Logic.{dite}
use native.Mathlib.Decide.{ℕ_discrete}
use Rattle.std.specs.Option.{option_map}
use Rattle.pmsi_model.specs.declared.job.Geometry.{Geometry}
use Rattle.pmsi_model.specs.declared.Kind.{Kind}
use Rattle.pmsi_model.specs.declared.Kind.TheVariants.{Read, Write}
use Rattle.pmsi_model.specs.declared.Mode.{Mode}
use Rattle.pmsi_model.specs.declared.Mode.TheVariants.{Shared, Modified}
use Rattle.pmsi_model.specs.declared.Want.{Want}
use Rattle.pmsi_model.specs.Machine.{Machine, Request, CoreState, mode_of, mode_in, without, with_mode, has_write, request_of, removed}
use Rattle.pmsi_model.specs.Bus.{post, post_at, noted_post, fill, fill_for, filled_line, write_back, has_victim_for, keeps_line}
use Rattle.pmsi_model.proofs.Changes.{posted_core, filled_core, written_core, noted-mode, noted-want, noted-unheld, mode_filled}
use Rattle.pmsi_model.proofs.Held.{mode_without, mode_to_front, mode_with_mode}
use Rattle.pmsi_model.proofs.Requests.{request_more, request_less, requests_once_more, requests_once_less}
use Rattle.pmsi_model.proofs.Cases.{at_core, own_core, other_core}
use Rattle.coherence_laws.proofs.Fine.{IsFine, FineCore}
use Rattle.coherence_laws.proofs.Posts.{fine_noted, fine_post, fine_rest}
use Rattle.coherence_laws.proofs.Fills.{fine_fill}
use Rattle.coherence_laws.proofs.WriteBacks.{fine_back}
use Rattle.coherence_laws.proofs.Whole.{OwnedAlone, WritesAlone, IsWhole, alone_from, writes_from, IsLess}

-- ---- post

noted_less : (kind : Kind) (line : ℕ) (k : CoreState) → IsLess k (noted_post kind line k)
noted_less kind line k l = grind (arith, noted-mode kind line l k)

noted_unshared : (kind : Kind) (line : ℕ) (k : CoreState) → kind ≡ Write → mode_of line (noted_post kind line k).held ≢ Some Shared
noted_unshared kind line k write shared = grind (arith, noted-mode kind line line k)

posted_alone : (posted : List Request) (old new : ℕ → CoreState) (r : Request) → WritesAlone posted old → request_of r.core posted ≡ None
    → ((d l : ℕ) → (mode_of l (new d).held ≡ mode_of l (old d).held) ⊎ (mode_of l (new d).held ≡ None))
    → (r.kind ≡ Write → (d : ℕ) → d ≢ r.core → mode_of r.line (new d).held ≢ Some Shared)
    → WritesAlone (posted ++ r ∷ []) new
posted_alone posted old new r alone none less taken c d q is write other here = dite (ℕ_discrete c r.core)
    (λ mine. let same : r ≡ q = grind (arith, request_more c posted r) in
    let w : r.kind ≡ Write = grind arith in
    let h : mode_of r.line (new d).held ≡ Some Shared = subst (λ (s : Request). mode_of s.line (new d).held ≡ Some Shared) (sym same) here in
    absurd (taken w d (λ e. other (e ∙ sym mine)) h))
    (λ theirs. let was : request_of c posted ≡ Some q = grind (arith, request_more c posted r) in grind (arith, less d q.line, alone c d q was write other))

pub post_whole : (shape : Geometry) (x : Machine) (c : ℕ) (want : Want) → IsWhole shape (x.slot + 1) x.posted x.cores → c < shape.cores
    → (x.cores c).want ≡ Some want → want.post ≡ None → want.victim ≡ None
    → IsWhole shape (x.slot + 1) (post x c want.kind want.line).posted (post x c want.kind want.line).cores
unfolding post
post_whole shape x c want w below is unposted free =
    let r : Request = record { core = c; line = want.line; kind = want.kind } in
    let k : CoreState = posted_core x.slot (x.cores c) in
    let noted : ℕ → CoreState = λ d. noted_post want.kind want.line (x.cores d) in
    let new : ℕ → CoreState = λ d. if d == c then k else noted d in
    let f = w.fine c in
    let own : FineCore shape (x.slot + 1) (x.posted ++ r ∷ []) c k =
    subst (λ o. IsFine shape (x.slot + 1) (x.posted ++ r ∷ []) c (x.cores c).held (option_map (post_at x.slot) o) (x.cores c).write_backs (x.cores c).status) (sym is)
    (fine_post shape x.slot x.posted c (x.cores c).held want (x.cores c).write_backs (x.cores c).status r
    (subst (λ o. IsFine shape (x.slot + 1) x.posted c (x.cores c).held o (x.cores c).write_backs (x.cores c).status) is f) unposted free refl) in
    let none : request_of c x.posted ≡ None = grind (arith, f.posted_wants) in
    let less : (d l : ℕ) → (mode_of l (new d).held ≡ mode_of l (x.cores d).held) ⊎ (mode_of l (new d).held ≡ None)
    = at_core (λ d j. IsLess (x.cores d) j) c k noted (λ l. inl refl) (λ d other. noted_less want.kind want.line (x.cores d)) in
    record {
      fine = at_core (FineCore shape (x.slot + 1) (x.posted ++ r ∷ [])) c k noted own
          (λ d other. fine_noted shape (x.slot + 1) x.posted d (x.cores d) r want.kind (mode_of want.line (x.cores d).held) (w.fine d) (λ same. other (sym same)) refl);
      alone = alone_from x.cores new w.alone (λ d l has. grind (arith, less d l)) (λ d l has. grind (arith, less d l));
      once = requests_once_more x.posted r w.once none;
      write_alone = posted_alone x.posted x.cores new r w.write_alone none less
          (λ write. at_core (λ d j. d ≢ c → mode_of want.line j.held ≢ Some Shared) c k noted (λ other. absurd (other refl))
          (λ d other _. noted_unshared want.kind want.line (x.cores d) write));
      outside = at_core (λ d j. shape.cores ≤ d → j.held ≡ []) c k noted (λ past. absurd (omega arith))
          (λ d other past. ap (λ (j : CoreState). j.held) (noted-unheld want.kind want.line (x.cores d) (ap (mode_of want.line) (w.outside d past))) ∙ w.outside d past);
      idle = at_core (λ d j. shape.cores ≤ d → j.want ≡ None) c k noted (λ past. absurd (omega arith))
          (λ d other past. noted-want want.kind want.line (x.cores d) ∙ w.idle d past);
    }

-- ---- fill

filled_alone : (old new : ℕ → CoreState) (c line : ℕ) → OwnedAlone old → ((d : ℕ) → d ≢ c → new d ≡ old d)
    → ((l : ℕ) → l ≢ line → mode_of l (new c).held ≡ mode_of l (old c).held)
    → ((d : ℕ) → mode_of line (old d).held ≢ Some Modified)
    → (mode_of line (new c).held ≡ Some Modified → (d : ℕ) → d ≢ c → mode_of line (old d).held ≢ Some Shared) → OwnedAlone new
filled_alone old new c line alone others own unowned taken a b l owned apart = dite (ℕ_discrete l line)
    (λ here. let owned' : mode_of line (new a).held ≡ Some Modified = subst (λ (n : ℕ). mode_of n (new a).held ≡ Some Modified) here owned in
    let a_is : a ≡ c =
    dite (ℕ_discrete a c) (λ same. same) (λ other. absurd (unowned a (ap (λ (k : CoreState). mode_of line k.held) (sym (others a other)) ∙ owned'))) in
    let b_not : b ≢ c = (λ same. apart (same ∙ sym a_is)) in
    let at_c : mode_of line (new c).held ≡ Some Modified = subst (λ (n : ℕ). mode_of line (new n).held ≡ Some Modified) a_is owned' in
    let nothing : mode_of line (old b).held ≡ None = grind (arith, taken at_c b b_not, unowned b) in
    subst (λ (n : ℕ). mode_of n (new b).held ≡ None) (sym here) (ap (λ (k : CoreState). mode_of line k.held) (others b b_not) ∙ nothing))
    (λ away. let same : (d : ℕ) → mode_of l (new d).held ≡ mode_of l (old d).held = (λ d. dite (ℕ_discrete d c)
    (λ e. subst (λ (n : ℕ). mode_of l (new n).held ≡ mode_of l (old n).held) (sym e) (own l away))
    (λ other. ap (λ (k : CoreState). mode_of l k.held) (others d other))) in
    same b ∙ alone a b l (sym (same a) ∙ owned) apart)

-- what the core holds of the filled line
filled_unowned : (kind : Kind) (behind : Bool) (line : ℕ) (held : List (ℕ × Mode)) → mode_of line held ≢ Some Modified
    → mode_of line (filled_line kind behind line held) ≡ Some Modified → kind ≡ Write
filled_unowned Write behind line held unowned is = refl
filled_unowned Read true line held unowned is = absurd (unowned is)
filled_unowned Read false line held unowned is = absurd (grind (arith, mode_to_front line line Shared held))

filled_shared : (kind : Kind) (behind : Bool) (line l : ℕ) (held : List (ℕ × Mode))
    → mode_of l (filled_line kind behind line held) ≡ Some Shared → (mode_of l held ≡ Some Shared) ⊎ ((l ≡ line) × (behind ≡ false))
filled_shared Write behind line l held is = grind (arith, mode_to_front l line Modified held)
filled_shared Read true line l held is = inl is
filled_shared Read false line l held is = grind (arith, mode_to_front l line Shared held)

fill_changed : (shape : Geometry) (slot : ℕ) (posted : List Request) (cores : ℕ → CoreState) (c : ℕ) (want : Want) (k : CoreState)
    → IsWhole shape slot posted cores → c < shape.cores
    → (cores c).want ≡ Some want → is_some want.post ≡ true → ((d : ℕ) → mode_of want.line (cores d).held ≢ Some Modified)
    → FineCore shape slot (removed c posted) c k
    → k.held ≡ filled_line want.kind (has_write want.line (removed c posted)) want.line (cores c).held
    → IsWhole shape slot (removed c posted) (λ d. if d == c then k else cores d)
fill_changed shape slot posted cores c want k w below is post unowned fine held_is =
    let rest : List Request = removed c posted in
    let new : ℕ → CoreState = λ d. if d == c then k else cores d in
    let r : Request = record { core = c; line = want.line; kind = want.kind } in
    let f = w.fine c in
    let mine : request_of c posted ≡ Some r = grind (arith, f.posted_wants) in
    let own : new c ≡ k = own_core c k cores in
    let own_held : (new c).held ≡ filled_line want.kind (has_write want.line rest) want.line (cores c).held = ap (λ (j : CoreState). j.held) own ∙ held_is in
    let others : (d : ℕ) → d ≢ c → new d ≡ cores d = other_core c k cores in
    record {
      fine = at_core (FineCore shape slot rest) c k cores fine
          (λ d other. fine_rest shape slot posted c d (cores d).held (cores d).want (cores d).write_backs (cores d).status r (w.fine d) other w.once mine (unowned d));
      alone = filled_alone cores new c want.line w.alone others
          (λ l other. ap (mode_of l) own_held ∙ grind (arith, mode_filled want.kind (has_write want.line rest) l want.line (cores c).held))
          unowned
          (λ owned d other. w.write_alone c d r mine (filled_unowned want.kind (has_write want.line rest) want.line (cores c).held (unowned c) (sym (ap (mode_of want.line) own_held) ∙ owned)) other);
      once = requests_once_less c posted w.once;
      write_alone = writes_from posted rest cores new w.write_alone (λ a q has. grind (arith, request_less a c posted))
          (at_core (λ d j. (l : ℕ) → mode_of l j.held ≡ Some Shared → (mode_of l (cores d).held ≡ Some Shared) ⊎ (has_write l rest ≡ false)) c k cores
          (λ l here. let s : (mode_of l (cores c).held ≡ Some Shared) ⊎ ((l ≡ want.line) × (has_write want.line rest ≡ false)) = filled_shared want.kind (has_write want.line rest) want.line l (cores c).held (sym (ap (mode_of l) held_is) ∙ here) in grind arith)
          (λ d other l here. inl here));
      outside = at_core (λ d j. shape.cores ≤ d → j.held ≡ []) c k cores (λ past. absurd (omega arith)) (λ d other. w.outside d);
      idle = at_core (λ d j. shape.cores ≤ d → j.want ≡ None) c k cores (λ past. absurd (omega arith)) (λ d other. w.idle d);
    }

pub fill_whole : (shape : Geometry) (slot : ℕ) (x : Machine) (c : ℕ) (want : Want) → IsWhole shape slot x.posted x.cores → c < shape.cores
    → (x.cores c).want ≡ Some want → is_some want.post ≡ true
    → ((d : ℕ) → mode_in x d want.line ≢ Some Modified) → IsWhole shape slot (fill x c).posted (fill x c).cores
unfolding fill
fill_whole shape slot x c want w below is post unowned =
    let k : CoreState = filled_core x c want in
    subst (λ o. IsWhole shape slot (fill_for x c o).posted (fill_for x c o).cores) (sym is)
    (fill_changed shape slot x.posted x.cores c want k w below is post unowned
    (fine_fill shape slot x.posted c (x.cores c).held want (x.cores c).write_backs (x.cores c).status want.kind
    (subst (λ o. IsFine shape slot x.posted c (x.cores c).held o (x.cores c).write_backs (x.cores c).status) is (w.fine c)) w.once post refl) refl)

-- ---- write-back

-- what the core holds after it
back_owned : (line l : ℕ) (kept : Bool) (held : List (ℕ × Mode))
    → mode_of l (if kept then with_mode line Shared held else without line held) ≡ Some Modified → mode_of l held ≡ Some Modified
back_owned line l true held is = grind (arith, mode_with_mode l line Shared held)
back_owned line l false held is = grind (arith, mode_without l line held)

back_none : (line l : ℕ) (kept : Bool) (held : List (ℕ × Mode)) → mode_of l held ≡ None
    → mode_of l (if kept then with_mode line Shared held else without line held) ≡ None
back_none line l true held is = grind (arith, mode_with_mode l line Shared held)
back_none line l false held is = grind (arith, mode_without l line held)

back_shared : (line l : ℕ) (kept : Bool) (held : List (ℕ × Mode))
    → mode_of l (if kept then with_mode line Shared held else without line held) ≡ Some Shared
    → (mode_of l held ≡ Some Shared) ⊎ ((l ≡ line) × (kept ≡ true))
back_shared line l true held is = grind (arith, mode_with_mode l line Shared held)
back_shared line l false held is = grind (arith, mode_without l line held)

back_changed : (shape : Geometry) (slot : ℕ) (posted : List Request) (cores : ℕ → CoreState) (c line : ℕ) (kept : Bool) (k : CoreState)
    → IsWhole shape slot posted cores → c < shape.cores
    → (kept ≡ true → has_write line posted ≡ false)
    → FineCore shape slot posted c k → k.held ≡ (if kept then with_mode line Shared (cores c).held else without line (cores c).held)
    → IsWhole shape slot posted (λ d. if d == c then k else cores d)
back_changed shape slot posted cores c line kept k w below reads fine held_is =
    let new : ℕ → CoreState = λ d. if d == c then k else cores d in
    record {
      fine = at_core (FineCore shape slot posted) c k cores fine (λ d other. w.fine d);
      alone = alone_from cores new w.alone
          (at_core (λ d j. (l : ℕ) → mode_of l j.held ≡ Some Modified → mode_of l (cores d).held ≡ Some Modified) c k cores (λ l here. back_owned line l kept (cores c).held (sym (ap (mode_of l) held_is) ∙ here)) (λ d other l here. here))
          (at_core (λ d j. (l : ℕ) → mode_of l (cores d).held ≡ None → mode_of l j.held ≡ None) c k cores (λ l none. ap (mode_of l) held_is ∙ back_none line l kept (cores c).held none) (λ d other l none. none));
      once = w.once;
      write_alone = writes_from posted posted cores new w.write_alone (λ a q has. has)
          (at_core (λ d j. (l : ℕ) → mode_of l j.held ≡ Some Shared → (mode_of l (cores d).held ≡ Some Shared) ⊎ (has_write l posted ≡ false)) c k cores
          (λ l here. let s : (mode_of l (cores c).held ≡ Some Shared) ⊎ ((l ≡ line) × (kept ≡ true)) = back_shared line l kept (cores c).held (sym (ap (mode_of l) held_is) ∙ here) in grind arith)
          (λ d other l here. inl here));
      outside = at_core (λ d j. shape.cores ≤ d → j.held ≡ []) c k cores (λ past. absurd (omega arith)) (λ d other. w.outside d);
      idle = at_core (λ d j. shape.cores ≤ d → j.want ≡ None) c k cores (λ past. absurd (omega arith)) (λ d other. w.idle d);
    }

kept_reads : (x : Machine) (c line : ℕ) → keeps_line x c line ≡ true → has_write line x.posted ≡ false
kept_reads x c line is = grind arith

kept_other : (x : Machine) (c line : ℕ) → keeps_line x c line ≡ true → has_victim_for line (x.cores c).want ≡ false
kept_other x c line is = grind arith

pub back_whole : (shape : Geometry) (slot : ℕ) (x : Machine) (c line : ℕ) (lines : List ℕ) → IsWhole shape slot x.posted x.cores
    → c < shape.cores → (x.cores c).write_backs ≡ line ∷ lines
    → IsWhole shape slot (write_back x c line (keeps_line x c line)).posted (write_back x c line (keeps_line x c line)).cores
unfolding write_back
back_whole shape slot x c line lines w below is =
    let kept : Bool = keeps_line x c line in
    let k : CoreState = written_core line kept (x.cores c) in
    back_changed shape slot x.posted x.cores c line kept k w below (kept_reads x c line)
    (subst (λ b. IsFine shape slot x.posted c k.held k.want (drop 1 b) (x.cores c).status) (sym is)
    (fine_back shape slot x.posted c (x.cores c).held (x.cores c).want line lines (x.cores c).status kept
    (subst (λ b. IsFine shape slot x.posted c (x.cores c).held (x.cores c).want b (x.cores c).status) is (w.fine c)) (kept_other x c line))) refl
