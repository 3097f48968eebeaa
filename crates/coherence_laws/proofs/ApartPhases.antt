-- What the instructions of one core change in memory, and on what of memory they depend.
use Rattle.std.proofs.Common.{◌≡◌, ◌≢◌, ℕ, zero, suc, ◌%◌, List, [], ◌∷◌, ◌++◌, length, get_or, Option, Some, None, Bool, true, false, if◌then◌else◌, refl, sym, ap, ◌∙◌, subst, inl, arith}
use Rattle.pmsi_model.specs.declared.job.Geometry.{Geometry}
use Rattle.pmsi_model.specs.declared.Access.{Access}
use Rattle.pmsi_model.specs.declared.Kind.{Kind}
use Rattle.pmsi_model.specs.declared.Kind.TheVariants.{Read, Write}
use Rattle.pmsi_model.specs.declared.Mode.{Mode}
use Rattle.pmsi_model.specs.declared.Mode.TheVariants.{Shared, Modified}
use Rattle.pmsi_model.specs.declared.Touch.{Touch}
use Rattle.pmsi_model.specs.Geometry.{line_of}
use Rattle.pmsi_model.specs.Words.{number_of}
use Rattle.pmsi_model.specs.Access.{kind_of, width_of, access_bytes}
use Rattle.pmsi_model.specs.Effect.{Effect, Next, Memory, Stop}
use Rattle.pmsi_model.specs.Machine.{CoreState, mode_of}
use Rattle.pmsi_model.specs.Phase.{Context, can_run, after_effect, effect_at, accessed, missed, permits, is_permitted, evicted, drop_shared, touched_line, retired_with, memory_after, instruction, instructions, access_if_permitted, access_at, touch_list, instruction_touches}
use Rattle.pmsi_model.specs.Coherent.{HoldsEachOnce}
use Rattle.pmsi_model.proofs.Held.{mode_without, touched_mode, touched_once, dropped_less, dropped_once, evicted_held}
use Rattle.pmsi_model.proofs.Accesses.{IsFit, length-memory_after, read_after, granted_held}
use Rattle.pmsi_model.proofs.Effects.{EffectFits, effect_fits}
use Rattle.pmsi_model.proofs.Cases.{by_test}
use Rattle.coherence_laws.proofs.Whole.{IsLess}
use Rattle.coherence_laws.proofs.ApartBytes.{SameLine, other_line_after, met_same, after_same}

-- ---- what the instructions of a core change: of memory only bytes of lines that it owns. It goes on owning these, and
-- owns no others; a line that it holds is held as before or not at all

pub record IsFramed (shape : Geometry) (x y : Context) : Type 0 where
  pub size : length y.memory ≡ length x.memory
  pub others : (at : ℕ) → mode_of (line_of shape at) x.core.held ≢ Some Modified → get_or y.memory at 0 ≡ get_or x.memory at 0
  pub less : IsLess x.core y.core
  pub owned : (line : ℕ) → mode_of line x.core.held ≡ Some Modified → mode_of line y.core.held ≡ Some Modified
  pub once : HoldsEachOnce y.core.held

framed_same : (shape : Geometry) (x : Context) → HoldsEachOnce x.core.held → IsFramed shape x x
framed_same shape x once = record { size = refl; others = λ at other. refl; less = λ line. inl refl; owned = λ line is. is; once = once }

framed_next : (shape : Geometry) (x y z : Context) → IsFramed shape x y → IsFramed shape y z → IsFramed shape x z
framed_next shape x y z f g = record {
  size = g.size ∙ f.size;
  others = λ at other. g.others at (λ owned. grind (arith, f.less (line_of shape at))) ∙ f.others at other;
  less = λ line. grind (arith, f.less line, g.less line);
  owned = λ line is. g.owned line (f.owned line is);
  once = g.once;
}

-- an access with permission
access_others : (shape : Geometry) (access : Access) (kind : Kind) (memory : List ℕ) (held : List (ℕ × Mode)) (at : ℕ) → kind_of access.op ≡ kind → IsFit (length memory) access
    → permits kind (mode_of (line_of shape access.address) held) ≡ true → mode_of (line_of shape at) held ≢ Some Modified
    → get_or (memory_after access memory) at 0 ≡ get_or memory at 0
access_others shape access Read memory held at is fit granted other = ap (λ (m : List ℕ). get_or m at 0) (read_after access memory fit is)
access_others shape access Write memory held at is fit granted other = other_line_after shape access memory at fit
    (λ same. let here : permits Write (mode_of (line_of shape at) held) ≡ true = ap (λ (line : ℕ). permits Write (mode_of line held)) same ∙ granted in grind arith)

accessed_framed : (shape : Geometry) (access : Access) (x : Context) → HoldsEachOnce x.core.held → IsFit (length x.memory) access → is_permitted shape access x.core ≡ true
    → IsFramed shape x (accessed shape access x)
accessed_framed shape access x once fit granted = let line : ℕ = line_of shape access.address in let held : List (ℕ × Mode) = x.core.held in record {
  size = length-memory_after access x.memory;
  others = λ at other. access_others shape access (kind_of access.op) x.memory held at refl fit granted other;
  less = λ l. inl (touched_mode line l (mode_of line held) held refl);
  owned = λ l is. touched_mode line l (mode_of line held) held refl ∙ is;
  once = touched_once line (mode_of line held) held once;
}

-- a miss
dropped_owned : (l : ℕ) (gone : Option (ℕ × Mode)) (held : List (ℕ × Mode)) → ((h : ℕ × Mode) → gone ≡ Some h → mode_of h.0 held ≡ Some h.1)
    → mode_of l held ≡ Some Modified → mode_of l (drop_shared gone held) ≡ Some Modified
dropped_owned l None held there owned = owned
dropped_owned l (Some (gone, Shared)) held there owned = let here : mode_of gone held ≡ Some Shared = there (gone, Shared) refl in
    let other : l ≢ gone = (λ same. let both : mode_of gone held ≡ Some Modified = subst (λ (n : ℕ). mode_of n held ≡ Some Modified) same owned in grind arith) in
    grind (arith, mode_without l gone held)
dropped_owned l (Some (gone, Modified)) held there owned = owned

missed_framed : (shape : Geometry) (slot : ℕ) (access : Access) (x : Context) → HoldsEachOnce x.core.held → IsFramed shape x (record x { core = missed shape slot access x.core })
missed_framed shape slot access x once = let line : ℕ = line_of shape access.address in let held : List (ℕ × Mode) = x.core.held in record {
  size = refl;
  others = λ at other. refl;
  less = λ l. dropped_less l (evicted shape line held) held;
  owned = λ l is. dropped_owned l (evicted shape line held) held (λ h gone. (evicted_held shape line held h once gone).0) is;
  once = dropped_once (evicted shape line held) held once;
}

effect_framed : (shape : Geometry) (slot : ℕ) (effect : Effect) (x : Context) → HoldsEachOnce x.core.held → EffectFits (length x.memory) effect → IsFramed shape x (after_effect shape slot effect x)
effect_framed shape slot (Next regs pc) x once fit = record { size = refl; others = λ at other. refl; less = λ line. inl refl; owned = λ line is. is; once = once }
effect_framed shape slot (Stop halt) x once fit = record { size = refl; others = λ at other. refl; less = λ line. inl refl; owned = λ line is. is; once = once }
effect_framed shape slot (Memory access) x once fit =
    by_test (IsFramed shape x) (is_permitted shape access x.core) (accessed shape access x) (record x { core = missed shape slot access x.core })
    (λ granted. accessed_framed shape access x once fit granted)
    (λ denied. missed_framed shape slot access x once)

fits_in : (shape : Geometry) (text : List ℕ) (k : CoreState) (memory : List ℕ) → shape.memory % 4 ≡ 0 → length memory ≡ shape.memory → EffectFits (length memory) (effect_at shape text k)
fits_in shape text k memory whole size = subst (λ (n : ℕ). EffectFits n (effect_at shape text k)) (sym size) (effect_fits shape text k whole)

pub instruction_framed : (shape : Geometry) (slot : ℕ) (text : List ℕ) (x : Context) → shape.memory % 4 ≡ 0 → length x.memory ≡ shape.memory → HoldsEachOnce x.core.held
    → IsFramed shape x (instruction shape slot text x)
unfolding instruction
instruction_framed shape slot text x whole size once =
    by_test (IsFramed shape x) (can_run x.core) (after_effect shape slot (effect_at shape text x.core) x) x
    (λ can. effect_framed shape slot (effect_at shape text x.core) x once (fits_in shape text x.core x.memory whole size))
    (λ stays. framed_same shape x once)

pub instructions_framed : (shape : Geometry) (slot : ℕ) (text : List ℕ) (count : ℕ) (x : Context) → shape.memory % 4 ≡ 0 → length x.memory ≡ shape.memory → HoldsEachOnce x.core.held
    → IsFramed shape x (instructions shape slot text count x)
unfolding instructions
instructions_framed shape slot text zero x whole size once = framed_same shape x once
instructions_framed shape slot text (suc count) x whole size once =
    let y : Context = instructions shape slot text count x in
    let before : IsFramed shape x (instructions shape slot text count x) = instructions_framed shape slot text count x whole size once in
    framed_next shape x y (instruction shape slot text y) before
    (instruction_framed shape slot text y whole (before.size ∙ size) before.once)

-- ---- on what the instructions of a core depend: on the core, and on the bytes of the lines that it holds

-- two memories have the same bytes on each line that a core holds
abbrev pub SameHeld : Geometry → CoreState → List ℕ → List ℕ → Type 0
SameHeld shape k m n = (line : ℕ) → mode_of line k.held ≢ None → SameLine shape line m n

pub record IsSeenAlike (shape : Geometry) (x y : Context) : Type 0 where
  pub core : x.core ≡ y.core
  pub size : length x.memory ≡ length y.memory
  pub held : SameHeld shape x.core x.memory y.memory

abbrev pub context : CoreState → List ℕ → Context
context k memory = record { core = k; memory = memory }

-- two choices by one test
by_test_both : {A : Type 0} (P : A → A → Type 0) (b : Bool) (t e t' e' : A) → (b ≡ true → P t t') → (b ≡ false → P e e') → P (if b then t else e) (if b then t' else e')
by_test_both P true t e t' e' on_true on_false = on_true refl
by_test_both P false t e t' e' on_true on_false = on_false refl

held_before : (k j : CoreState) (line : ℕ) → IsLess k j → mode_of line j.held ≢ None → mode_of line k.held ≢ None
held_before k j line less held none = grind (arith, less line)

accessed_alike : (shape : Geometry) (access : Access) (k : CoreState) (m n : List ℕ) → HoldsEachOnce k.held → length m ≡ length n → IsFit (length m) access → is_permitted shape access k ≡ true
    → SameHeld shape k m n → IsSeenAlike shape (accessed shape access (context k m)) (accessed shape access (context k n))
accessed_alike shape access k m n once size fit granted same =
    let line : ℕ = line_of shape access.address in
    let here : SameLine shape (line_of shape access.address) m n = same (line_of shape access.address) (granted_held (kind_of access.op) (mode_of (line_of shape access.address) k.held) granted) in
    record {
      core = ap (λ (bytes : List ℕ). let j : CoreState = retired_with access bytes k in let i : CoreState = record j { held = touched_line (mode_of line k.held) line k.held } in i)
          (met_same shape access m n size fit here);
      size = length-memory_after access m ∙ size ∙ sym (length-memory_after access n);
      held = λ l holds at on. after_same shape access m n size fit here at
          (same l (λ none. holds (touched_mode line l (mode_of line k.held) k.held refl ∙ none)) at on);
    }

effect_alike : (shape : Geometry) (slot : ℕ) (effect : Effect) (k : CoreState) (m n : List ℕ) → HoldsEachOnce k.held → length m ≡ length n → EffectFits (length m) effect
    → SameHeld shape k m n → IsSeenAlike shape (after_effect shape slot effect (context k m)) (after_effect shape slot effect (context k n))
effect_alike shape slot (Next regs pc) k m n once size fit same = record { core = refl; size = size; held = same }
effect_alike shape slot (Stop halt) k m n once size fit same = record { core = refl; size = size; held = same }
effect_alike shape slot (Memory access) k m n once size fit same =
    by_test_both (IsSeenAlike shape) (is_permitted shape access k) (accessed shape access (context k m)) (context (missed shape slot access k) m) (accessed shape access (context k n)) (context (missed shape slot access k) n)
    (λ granted. accessed_alike shape access k m n once size fit granted same)
    (λ denied. record {
      core = refl;
      size = size;
      held = λ l holds. same l (held_before k (missed shape slot access k) l (missed_framed shape slot access (context k m) once).less holds);
    })

pub instruction_alike : (shape : Geometry) (slot : ℕ) (text : List ℕ) (k : CoreState) (m n : List ℕ) → shape.memory % 4 ≡ 0 → HoldsEachOnce k.held → length m ≡ shape.memory → length m ≡ length n
    → SameHeld shape k m n → IsSeenAlike shape (instruction shape slot text (context k m)) (instruction shape slot text (context k n))
unfolding instruction
instruction_alike shape slot text k m n whole once extent size same =
    by_test_both (IsSeenAlike shape) (can_run k) (after_effect shape slot (effect_at shape text k) (context k m)) (context k m) (after_effect shape slot (effect_at shape text k) (context k n)) (context k n)
    (λ can. effect_alike shape slot (effect_at shape text k) k m n once size (fits_in shape text k m whole extent) same)
    (λ stays. record { core = refl; size = size; held = same })

-- the same of two contexts
instruction_alike_from : (shape : Geometry) (slot : ℕ) (text : List ℕ) (x y : Context) → shape.memory % 4 ≡ 0 → HoldsEachOnce x.core.held → length x.memory ≡ shape.memory
    → IsSeenAlike shape x y → IsSeenAlike shape (instruction shape slot text x) (instruction shape slot text y)
instruction_alike_from shape slot text x y whole once extent s =
    subst (λ (k : CoreState). IsSeenAlike shape (instruction shape slot text x) (instruction shape slot text (context k y.memory))) s.core
    (instruction_alike shape slot text x.core x.memory y.memory whole once extent s.size s.held)

pub instructions_alike : (shape : Geometry) (slot : ℕ) (text : List ℕ) (count : ℕ) (x y : Context) → shape.memory % 4 ≡ 0 → HoldsEachOnce x.core.held → length x.memory ≡ shape.memory
    → IsSeenAlike shape x y → IsSeenAlike shape (instructions shape slot text count x) (instructions shape slot text count y)
unfolding instructions
instructions_alike shape slot text zero x y whole once extent s = s
instructions_alike shape slot text (suc count) x y whole once extent s =
    let f : IsFramed shape x (instructions shape slot text count x) = instructions_framed shape slot text count x whole extent once in
    instruction_alike_from shape slot text (instructions shape slot text count x) (instructions shape slot text count y) whole f.once (f.size ∙ extent)
    (instructions_alike shape slot text count x y whole once extent s)

-- ---- and so its accesses are the same

effect_touches_alike : (shape : Geometry) (slot c : ℕ) (effect : Effect) (k : CoreState) (m n : List ℕ) → length m ≡ length n → EffectFits (length m) effect → SameHeld shape k m n
    → touch_list slot c (access_if_permitted shape k effect) m ≡ touch_list slot c (access_if_permitted shape k effect) n
effect_touches_alike shape slot c (Next regs pc) k m n size fit same = refl
effect_touches_alike shape slot c (Stop halt) k m n size fit same = refl
effect_touches_alike shape slot c (Memory access) k m n size fit same =
    by_test (λ (o : Option Access). touch_list slot c o m ≡ touch_list slot c o n) (is_permitted shape access k) (Some access) None
    (λ granted. ap (λ (bytes : List ℕ). let touch : Touch = record {
      slot = slot;
      core = c;
      address = access.address;
      width = width_of access.op;
      kind = kind_of access.op;
      old = number_of bytes;
      new = number_of (access_bytes access.op access.operand bytes);
    } in touch ∷ []) (met_same shape access m n size fit
    (same (line_of shape access.address) (granted_held (kind_of access.op) (mode_of (line_of shape access.address) k.held) granted))))
    (λ denied. refl)

instruction_touches_alike : (shape : Geometry) (slot c : ℕ) (text : List ℕ) (x y : Context) → shape.memory % 4 ≡ 0 → length x.memory ≡ shape.memory → IsSeenAlike shape x y
    → touch_list slot c (access_at shape text x.core) x.memory ≡ touch_list slot c (access_at shape text y.core) y.memory
instruction_touches_alike shape slot c text x y whole extent s =
    let at_x : touch_list slot c (access_at shape text x.core) x.memory ≡ touch_list slot c (access_at shape text x.core) y.memory =
    by_test (λ (o : Option Access). touch_list slot c o x.memory ≡ touch_list slot c o y.memory) (can_run x.core) (access_if_permitted shape x.core (effect_at shape text x.core)) None
    (λ can. effect_touches_alike shape slot c (effect_at shape text x.core) x.core x.memory y.memory s.size (fits_in shape text x.core x.memory whole extent) s.held) (λ stays. refl) in
    at_x ∙ ap (λ (k : CoreState). touch_list slot c (access_at shape text k) y.memory) s.core

pub touches_alike : (shape : Geometry) (slot c : ℕ) (text : List ℕ) (count : ℕ) (x y : Context) → shape.memory % 4 ≡ 0 → HoldsEachOnce x.core.held → length x.memory ≡ shape.memory
    → IsSeenAlike shape x y → instruction_touches shape slot c text count x ≡ instruction_touches shape slot c text count y
unfolding instruction_touches
touches_alike shape slot c text zero x y whole once extent s = refl
touches_alike shape slot c text (suc count) x y whole once extent s =
    let i : Context = instructions shape slot text count x in let j : Context = instructions shape slot text count y in
    let f : IsFramed shape x (instructions shape slot text count x) = instructions_framed shape slot text count x whole extent once in
    let before : instruction_touches shape slot c text count x ≡ instruction_touches shape slot c text count y = touches_alike shape slot c text count x y whole once extent s in
    let last : touch_list slot c (access_at shape text i.core) i.memory ≡ touch_list slot c (access_at shape text j.core) j.memory =
    instruction_touches_alike shape slot c text i j whole (f.size ∙ extent) (instructions_alike shape slot text count x y whole once extent s) in
    ap (λ (ts : List Touch). ts ++ touch_list slot c (access_at shape text i.core) i.memory) before
    ∙ ap (λ (ts : List Touch). instruction_touches shape slot c text count y ++ ts) last
