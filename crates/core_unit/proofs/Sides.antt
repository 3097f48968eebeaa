-- Shared memory after the phases of a slot, and after each action of its owner.
use Rattle.std.proofs.Common.{◌≡◌, ◌≢◌, ℕ, ◌+◌, ◌-◌, ◌*◌, ◌/◌, ◌<◌, ◌≤◌, List, [], ◌∷◌, ◌++◌, length, get_or, set, take, drop, Option, Some, None, Bool, true, refl, sym, ap, ◌∙◌, subst, arith, length-drop, get_or-take, get_or-drop, get_or-set_same, get_or-set_other, length-set}
use Rattle.std.proofs.lemmas.List.{length-take-le}
use Rattle.std.proofs.lemmas.Nat.{div-add-mod', mod_below, div_below}
use Rattle.std.proofs.Math.Nat.{mul-le-mul_right, lt_of_mul-lt-mul_right}
use mathlib.Core.Logic.{dite}
use native.Mathlib.Decide.{ℕ_discrete, dec_lt}
use Rattle.pmsi_model.specs.declared.job.Geometry.{Geometry}
use Rattle.pmsi_model.specs.declared.Kind.{Kind}
use Rattle.pmsi_model.specs.declared.Kind.TheVariants.{Read, Write}
use Rattle.pmsi_model.specs.declared.Mode.TheVariants.{Modified}
use Rattle.pmsi_model.specs.declared.Want.{Want}
use Rattle.pmsi_model.specs.Job.{JobValue, IsJob}
use Rattle.pmsi_model.specs.Geometry.{line_bytes}
use Rattle.pmsi_model.specs.Machine.{Machine, Request, mode_in, nobody_owns, owner_of, request_of, removed}
use Rattle.pmsi_model.specs.Phase.{memory_after}
use Rattle.pmsi_model.specs.Bus.{post, post_at, fill, write_back}
use Rattle.pmsi_model.specs.Run.{machine_at, after_phases}
use Rattle.pmsi_model.specs.Access.{width_of}
use Rattle.pmsi_model.specs.declared.AccessOp.{AccessOp}
use Rattle.pmsi_model.specs.declared.AccessOp.TheVariants.{Load, Store, Amo}
use Rattle.pmsi_model.specs.declared.instr.LoadOp.TheVariants.{Lb, Lh, Lw, Lbu, Lhu}
use Rattle.pmsi_model.specs.declared.instr.StoreOp.TheVariants.{Sb, Sh, Sw}
use Rattle.pmsi_model.specs.Shared.{SharedValue, IsLine, line_in, with_request, without_request, filled, written_back}
use Rattle.pmsi_model.specs.Parts.{word_at, IsSharedOf}
use Rattle.pmsi_model.proofs.Numbers.{next_multiple}
use Rattle.pmsi_model.proofs.Boundaries.{phases-posted}
use Rattle.pmsi_model.proofs.Changes.{post-posted, post-memory, fill-posted, fill-memory, write_back-posted, write_back-memory}
use Rattle.pmsi_model.proofs.Owners.{nobody_below}
use Rattle.coherence_laws.specs.Apart.{IsApart}
use Rattle.coherence_laws.proofs.Exports.{ownerless_line, phases_are_apart, line_after_other, IsAsked}
use Rattle.pmsi_model.proofs.Accesses.{IsFit, read_after}
use Rattle.core_unit.proofs.Words.{some_words, line_of_word, word_same, length-spliced, spliced_before, spliced_at, spliced_after}
use Rattle.core_unit.proofs.SidesOwners.{post-owner, fill-owner_read, fill-owner_else, fill-owner_write, back-owner, back-owner_else}

-- ---- lines of memory

memory_lines : (lines words size count : ℕ) → lines * count ≡ words → 4 * words ≡ size → lines * (4 * count) ≡ size
memory_lines lines words size count one two = let e : lines * (4 * count) ≡ 4 * (lines * count) = grind arith in e ∙ ap (λ (n : ℕ). 4 * n) one ∙ two

-- memory is as many lines as have an owner
pub whole_lines : (job : JobValue) (x : Machine) (m : SharedValue) → IsSharedOf job x m → length m.owners * line_bytes job.shape ≡ job.shape.memory
whole_lines job x m h = memory_lines (length m.owners) (length m.words) job.shape.memory job.shape.line_words h.lines h.size

pub line_within : (job : JobValue) (x : Machine) (m : SharedValue) (line : ℕ) → IsSharedOf job x m → line < length m.owners → IsLine m.shape line
line_within job x m line h below = subst (λ (g : Geometry). IsLine g line) (sym h.shape)
    (let some : (line + 1) * line_bytes job.shape ≤ length m.owners * line_bytes job.shape = mul-le-mul_right (line_bytes job.shape) (let e : line + 1 ≤ length m.owners = omega arith in e) in
    let all = whole_lines job x m h in omega arith)

some_width : (op : AccessOp) → 0 < width_of op
some_width (Load Lb) = omega arith
some_width (Load Lbu) = omega arith
some_width (Load Lh) = omega arith
some_width (Load Lhu) = omega arith
some_width (Load Lw) = omega arith
some_width (Store Sb) = omega arith
some_width (Store Sh) = omega arith
some_width (Store Sw) = omega arith
some_width (Amo op) = omega arith

-- a wanted line is one of them
pub asked_below : (job : JobValue) (x : Machine) (m : SharedValue) (want : Want) → IsJob job → IsSharedOf job x m → IsAsked job.shape want → want.line < length m.owners
asked_below job x m want is h asked = subst (λ (l : ℕ). l < length m.owners) (sym asked.line)
    (div_below want.access.address (line_bytes job.shape) (length m.owners) (let some = some_words job.shape is.shape in omega arith)
    (let all = whole_lines job x m h in let within = asked.fit.within in let some = some_width want.access.op in omega arith))

-- a want is asked for as before once its request is posted
pub asked_at : (shape : Geometry) (slot : ℕ) (want : Want) → IsAsked shape want → IsAsked shape (post_at slot want)
asked_at shape slot want a = record { fit = a.fit; line = a.line; kind = a.kind }

-- ---- the words of a line

take_length : (words : List ℕ) (line lines count : ℕ) → lines * count ≡ length words → line < lines → length (take count (drop (line * count) words)) ≡ count
take_length words line lines count size below = length-take-le count (drop (line * count) words)
    (let most : (line + 1) * count ≤ lines * count = mul-le-mul_right count (let e : line + 1 ≤ lines = omega arith in e) in let next = next_multiple line count in omega (arith, length-drop (line * count) words))

pub line_in-length : (job : JobValue) (x : Machine) (m : SharedValue) (line : ℕ) → IsSharedOf job x m → line < length m.owners → length (line_in m line) ≡ job.shape.line_words
line_in-length job x m line h below = ap (λ (g : Geometry). length (take g.line_words (drop (line * g.line_words) m.words))) h.shape
    ∙ take_length m.words line (length m.owners) job.shape.line_words h.lines below

-- the words of a line without owner are those of the flat memory
pub line_in-word : (job : JobValue) (x : Machine) (m : SharedValue) (line place : ℕ) → IsSharedOf job x m → line < length m.owners
    → owner_of x job.shape.cores line ≡ None → place < job.shape.line_words
    → get_or (line_in m line) place 0 ≡ word_at x.memory (line * job.shape.line_words + place)
line_in-word job x m line place h below none short =
    ap (λ (g : Geometry). get_or (take g.line_words (drop (line * g.line_words) m.words)) place 0) h.shape
    ∙ get_or-take job.shape.line_words (drop (line * job.shape.line_words) m.words) place 0 short
    ∙ get_or-drop (line * job.shape.line_words) m.words place 0
    ∙ h.words (line * job.shape.line_words + place)
    (let most : (line + 1) * job.shape.line_words ≤ length m.owners * job.shape.line_words = mul-le-mul_right job.shape.line_words (let e : line + 1 ≤ length m.owners = omega arith in e) in
    let next = next_multiple line job.shape.line_words in let all = h.lines in omega arith)
    (ap (owner_of x job.shape.cores) (line_of_word line place job.shape.line_words short) ∙ none)

-- ---- the phases of a slot

pub side_apart : (job : JobValue) (x : Machine) (m : SharedValue) → IsJob job → IsApart job x → IsSharedOf job x m → IsSharedOf job (after_phases job x) m
side_apart job x m is a h = record {
  shape = h.shape;
  posted = h.posted ∙ sym (phases-posted job job.shape.cores x);
  owners = λ line. h.owners line ∙ sym (a.owner line);
  lines = h.lines;
  size = h.size;
  words = λ i below none. let before : owner_of x job.shape.cores (i / job.shape.line_words) ≡ None = sym (a.owner (i / job.shape.line_words)) ∙ none in
      h.words i below before
      ∙ sym (word_same job.shape i (after_phases job x).memory x.memory (some_words job.shape is.shape) (ownerless_line job x a (i / job.shape.line_words) before));
}

-- the phases leave shared memory
pub side_carried : (job : JobValue) (slot : ℕ) (m : SharedValue) → IsJob job → IsSharedOf job (machine_at job slot) m
    → IsSharedOf job (after_phases job (machine_at job slot)) m
side_carried job slot m is h = side_apart job (machine_at job slot) m is (phases_are_apart job is slot) h

-- ---- a post

pub shared_posted : (job : JobValue) (y : Machine) (m : SharedValue) (c line : ℕ) (kind : Kind) → IsSharedOf job y m
    → IsSharedOf job (post y c kind line) (with_request c line kind m)
shared_posted job y m c line kind h = record {
  shape = h.shape;
  posted = ap (λ (rs : List Request). rs ++ record { core = c; line = line; kind = kind } ∷ []) h.posted ∙ sym (post-posted y c kind line);
  owners = λ l. h.owners l ∙ sym (post-owner y c kind line job.shape.cores l);
  lines = h.lines;
  size = h.size;
  words = λ i below none. h.words i below (sym (post-owner y c kind line job.shape.cores (i / job.shape.line_words)) ∙ none)
      ∙ ap (λ (memory : List ℕ). word_at memory i) (sym (post-memory y c kind line));
}

-- ---- a fill

-- what a fill needs: the core's want is posted, and nobody owns its line
pub record IsFillable (job : JobValue) (z : Machine) (c : ℕ) (want : Want) : Type 0 where
  pub below : c < job.shape.cores
  pub wants : (z.cores c).want ≡ Some want
  pub request : request_of c z.posted ≡ Some (record { core = c; line = want.line; kind = want.kind })
  pub nobody : nobody_owns z job.shape.cores want.line ≡ true
  pub asked : IsAsked job.shape want
  pub extent : length z.memory ≡ job.shape.memory

module _ (job : JobValue) (z : Machine) (m : SharedValue) (c : ℕ) (want : Want) (is : IsJob job) (h : IsSharedOf job z m) (f : IsFillable job z c want) where
  line_below : want.line < length m.owners
  line_below = asked_below job z m want is h f.asked

  unowned : mode_in z c want.line ≢ Some Modified
  unowned = nobody_below z job.shape.cores want.line f.nobody c f.below

  fit : IsFit (length z.memory) want.access
  fit = subst (λ (size : ℕ). IsFit size want.access) (sym f.extent) f.asked.fit

  filled_is : filled c m ≡ without_request c (Some (record { core = c; line = want.line; kind = want.kind })) m
  filled_is = ap (λ (o : Option Request). without_request c o m) (ap (request_of c) h.posted ∙ f.request)

  posted_is : removed c m.posted ≡ (fill z c).posted
  posted_is = ap (removed c) h.posted ∙ sym (fill-posted z c want f.wants)

  -- a read leaves the owners and the memory
  read_shared : want.kind ≡ Read → IsSharedOf job (fill z c) (record m { posted = removed c m.posted })
  read_shared reads = record {
    shape = h.shape;
    posted = posted_is;
    owners = λ l. h.owners l ∙ sym (fill-owner_read z c want f.wants job.shape.cores l reads unowned);
    lines = h.lines;
    size = h.size;
    words = λ i below none. h.words i below (sym (fill-owner_read z c want f.wants job.shape.cores (i / job.shape.line_words) reads unowned) ∙ none)
        ∙ ap (λ (memory : List ℕ). word_at memory i) (sym (fill-memory z c want f.wants ∙ read_after want.access z.memory fit (sym f.asked.kind ∙ reads)));
  }

  write_owner : want.kind ≡ Write → (l : ℕ) → get_or (set m.owners want.line (Some c)) l None ≡ owner_of (fill z c) job.shape.cores l
  write_owner writes l = dite (ℕ_discrete l want.line)
      (λ same. subst (λ (n : ℕ). get_or (set m.owners want.line (Some c)) n None ≡ owner_of (fill z c) job.shape.cores n) (sym same)
      (get_or-set_same m.owners want.line (Some c) None line_below ∙ sym (fill-owner_write z c want f.wants job.shape.cores writes f.below f.nobody)))
      (λ other. get_or-set_other m.owners want.line l (Some c) None other ∙ h.owners l ∙ sym (fill-owner_else z c want f.wants job.shape.cores l other))

  -- a write changes words of its own line alone
  write_word : want.kind ≡ Write → (i : ℕ) → i < length m.words → owner_of (fill z c) job.shape.cores (i / job.shape.line_words) ≡ None
      → get_or m.words i 0 ≡ word_at (fill z c).memory i
  write_word writes i below none = dite (ℕ_discrete (i / job.shape.line_words) want.line)
      (λ same. absurd (let own = fill-owner_write z c want f.wants job.shape.cores writes f.below f.nobody in
      let here : owner_of (fill z c) job.shape.cores want.line ≡ None = ap (owner_of (fill z c) job.shape.cores) (sym same) ∙ none in grind arith))
      (λ other. h.words i below (sym (fill-owner_else z c want f.wants job.shape.cores (i / job.shape.line_words) other) ∙ none)
      ∙ sym (ap (λ (memory : List ℕ). word_at memory i) (fill-memory z c want f.wants)
      ∙ word_same job.shape i (memory_after want.access z.memory) z.memory (some_words job.shape is.shape)
      (line_after_other job.shape want.access z.memory (some_words job.shape is.shape) fit (i / job.shape.line_words) (λ same. other (same ∙ sym f.asked.line)))))

  write_shared : want.kind ≡ Write → IsSharedOf job (fill z c) (record m { posted = removed c m.posted; owners = set m.owners want.line (Some c) })
  write_shared writes = record {
    shape = h.shape;
    posted = posted_is;
    owners = write_owner writes;
    lines = ap (λ (n : ℕ). n * job.shape.line_words) (length-set m.owners want.line (Some c)) ∙ h.lines;
    size = h.size;
    words = write_word writes;
  }

  by_kind : (kind : Kind) → want.kind ≡ kind → IsSharedOf job (fill z c) (without_request c (Some (record { core = c; line = want.line; kind = kind })) m)
  by_kind Read reads = read_shared reads
  by_kind Write writes = write_shared writes

  -- a want that can be served is filled
  pub shared_filled : IsSharedOf job (fill z c) (filled c m)
  shared_filled = subst (IsSharedOf job (fill z c)) (sym filled_is) (by_kind want.kind refl)

-- ---- a write-back

-- what a write-back needs: the core owns the line, as no other does, and these are its words
pub record IsBackable (job : JobValue) (y : Machine) (c line : ℕ) (words : List ℕ) : Type 0 where
  pub alone : (d : ℕ) → d ≢ c → mode_in y d line ≢ Some Modified
  pub within : 4 * ((line + 1) * job.shape.line_words) ≤ job.shape.memory
  pub count : length words ≡ job.shape.line_words
  pub agree : (place : ℕ) → place < job.shape.line_words → get_or words place 0 ≡ word_at y.memory (line * job.shape.line_words + place)

module _ (job : JobValue) (y : Machine) (m : SharedValue) (c line : ℕ) (words : List ℕ) (kept : Bool) (is : IsJob job) (h : IsSharedOf job y m) (b : IsBackable job y c line words) where
  -- the words of memory with those of the line
  abbrev new_words : List ℕ
  new_words = take (line * job.shape.line_words) m.words ++ words ++ drop ((line + 1) * job.shape.line_words) m.words

  back_size : line * job.shape.line_words + length words ≡ (line + 1) * job.shape.line_words
  back_size = let e = next_multiple line job.shape.line_words in let n = b.count in omega arith

  back_within : (line + 1) * job.shape.line_words ≤ length m.words
  back_within = let n = b.within in let size = h.size in omega arith

  back_below : line < length m.owners
  back_below = lt_of_mul-lt-mul_right job.shape.line_words
      (let e = next_multiple line job.shape.line_words in let n = back_within in let l = h.lines in let some = some_words job.shape is.shape in omega arith)

  back_length : length new_words ≡ length m.words
  back_length = length-spliced m.words words (line * job.shape.line_words) ((line + 1) * job.shape.line_words) back_size back_within

  back_none : owner_of (write_back y c line kept) job.shape.cores line ≡ None
  back_none = back-owner y c line kept job.shape.cores b.alone

  back_owners : (l : ℕ) → get_or (set m.owners line None) l None ≡ owner_of (write_back y c line kept) job.shape.cores l
  back_owners l = dite (ℕ_discrete l line)
      (λ same. subst (λ (n : ℕ). get_or (set m.owners line None) n None ≡ owner_of (write_back y c line kept) job.shape.cores n) (sym same)
      (get_or-set_same m.owners line None None back_below ∙ sym back_none))
      (λ other. get_or-set_other m.owners line l None None other ∙ h.owners l ∙ sym (back-owner_else y c line kept job.shape.cores l other))

  else_word : (i : ℕ) → i < length m.words → i / job.shape.line_words ≢ line → owner_of (write_back y c line kept) job.shape.cores (i / job.shape.line_words) ≡ None
      → get_or m.words i 0 ≡ word_at y.memory i
  else_word i below other none = h.words i below (sym (back-owner_else y c line kept job.shape.cores (i / job.shape.line_words) other) ∙ none)

  -- a word before the line, in it, or past it
  back_word : (i : ℕ) → i < length m.words → owner_of (write_back y c line kept) job.shape.cores (i / job.shape.line_words) ≡ None → get_or new_words i 0 ≡ word_at y.memory i
  back_word i below none = let count : ℕ = job.shape.line_words in let parts = div-add-mod' i job.shape.line_words in let rest = mod_below i job.shape.line_words (some_words job.shape is.shape) in
      let next = next_multiple line job.shape.line_words in
      dite (dec_lt i (line * job.shape.line_words))
      (λ low. spliced_before m.words words (line * job.shape.line_words) ((line + 1) * job.shape.line_words) back_size back_within i low
      ∙ else_word i below (λ same. let r : i / job.shape.line_words * job.shape.line_words ≡ line * job.shape.line_words = ap (λ (q : ℕ). q * job.shape.line_words) same in absurd (omega arith)) none)
      (λ up. dite (dec_lt i ((line + 1) * job.shape.line_words))
      (λ inside. let at : line * job.shape.line_words + (i - line * job.shape.line_words) ≡ i = omega arith in
      spliced_at m.words words (line * job.shape.line_words) ((line + 1) * job.shape.line_words) back_size back_within i (omega arith) inside
      ∙ b.agree (i - line * job.shape.line_words) (omega arith) ∙ ap (word_at y.memory) at)
      (λ high. spliced_after m.words words (line * job.shape.line_words) ((line + 1) * job.shape.line_words) back_size back_within i (omega arith)
      ∙ else_word i below (λ same. let r : i / job.shape.line_words * job.shape.line_words ≡ line * job.shape.line_words = ap (λ (q : ℕ). q * job.shape.line_words) same in absurd (omega arith)) none))

  new_shared : IsSharedOf job (write_back y c line kept) (record m { owners = set m.owners line None; words = new_words })
  new_shared = record {
    shape = h.shape;
    posted = h.posted ∙ sym (write_back-posted y c line kept);
    owners = back_owners;
    lines = ap (λ (n : ℕ). n * job.shape.line_words) (length-set m.owners line None) ∙ h.lines ∙ sym back_length;
    size = ap (λ (n : ℕ). 4 * n) back_length ∙ h.size;
    words = λ i below none. back_word i (let n = back_length in omega arith) none ∙ ap (λ (memory : List ℕ). word_at memory i) (sym (write_back-memory y c line kept));
  }

  pub shared_back : IsSharedOf job (write_back y c line kept) (written_back line words m)
  shared_back = subst (λ (n : ℕ). IsSharedOf job (write_back y c line kept) (record m { owners = set m.owners line None; words = take (line * n) m.words ++ words ++ drop ((line + 1) * n) m.words }))
      (sym b.count) new_shared
