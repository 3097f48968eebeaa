-- One more draw, and one more core.
use Rattle.std.proofs.Common.{◌≡◌, ℕ, zero, suc, ◌+◌, ◌*◌, ◌/◌, ◌^◌, List, [], ◌∷◌, ◌++◌, map, refl, sym, ap, ◌∙◌, arith, add-one, add-zero, append-nil, append_assoc}
use Rattle.std.specs.List.{flat_map, range_with_len}
use Rattle.std.proofs.lemmas.List.FromFn.{map-range_with_len_more}
use Rattle.job_text.specs.declared.plan.Program.{Program}
use Rattle.job_text.specs.declared.plan.Program.TheVariants.{Words}
use Rattle.job_text.specs.Generating.{draw_at, made_program, moved, pair_of, state_after, text_from}

state_more : (state count : ℕ) → state_after state (count + 1) ≡ moved (state_after state count)
unfolding state_after
state_more state count = rw add-one refl

pub state_sum : (state before count : ℕ) → state_after (state_after state before) count ≡ state_after state (before + count)
unfolding state_after
state_sum state before zero = let same : before ≡ before + 0 = omega arith in ap (state_after state) same
state_sum state before (suc count) =
    let same : suc (before + count) ≡ before + suc count = omega arith in
    ap moved (state_sum state before count) ∙ ap (state_after state) same

pub no_draw : (state : ℕ) → state ≡ state_after state 0
unfolding state_after
no_draw state = refl

pub one_draw : (start before now place : ℕ) → before ≡ state_after start place → now ≡ moved before → now ≡ state_after start (place + 1)
one_draw start before now place e next = next ∙ ap moved e ∙ sym (state_more start place)

flat_next : (f : ℕ → List ℕ) (a n : ℕ) → flat_map f (range_with_len a (suc n)) ≡ flat_map f (range_with_len a n) ++ f (a + n)
flat_next f a zero = append-nil (f a) ∙ ap f (sym (add-zero a))
flat_next f a (suc n) =
    let same : a + 1 + n ≡ a + suc n = omega arith in
    ap (λ text. f a ++ text) (flat_next f (a + 1) n) ∙ sym (append_assoc (f a) (flat_map f (range_with_len (a + 1) n)) (f (a + 1 + n)))
    ∙ ap (λ k. f a ++ flat_map f (range_with_len (a + 1) n) ++ f k) same

abbrev pub drawn : ℕ → ℕ → List ℕ
drawn start count = flat_map (λ place. pair_of (draw_at start place)) (range_with_len 0 count)

drawn_more : (start place : ℕ) → drawn start (place + 1) ≡ drawn start place ++ pair_of (draw_at start place)
drawn_more start place =
    let next : place + 1 ≡ suc place = omega arith in
    let same : 0 + place ≡ place = omega arith in
    ap (drawn start) next ∙ flat_next (λ k. pair_of (draw_at start k)) 0 place ∙ ap (λ k. drawn start place ++ pair_of (draw_at start k)) same

pub one_pair : (start state draw place : ℕ) (before now : List ℕ) → state ≡ state_after start (place + 1) → draw ≡ state / 2 ^ 32 → before ≡ drawn start place → now ≡ before ++ pair_of draw → now ≡ drawn start (place + 1)
one_pair start state draw place before now e is text pushed =
    pushed ∙ ap (λ words. words ++ pair_of draw) text ∙ ap (λ d. drawn start place ++ pair_of d) (is ∙ ap (λ s. s / 2 ^ 32) e) ∙ sym (drawn_more start place)

pub whole_text : (start count : ℕ) (words all : List ℕ) → count ≡ 31 → words ≡ drawn start count → all ≡ words ++ 0x00130313 ∷ 0xf05ff06f ∷ [] → all ≡ text_from start
unfolding text_from
whole_text start count words all e text pushed = pushed ∙ ap (λ front. front ++ 0x00130313 ∷ 0xf05ff06f ∷ []) (text ∙ ap (drawn start) e)

-- ---- cores

pub next_state : (seed before now core : ℕ) → before ≡ state_after seed (31 * core) → now ≡ state_after before 31 → now ≡ state_after seed (31 * (core + 1))
next_state seed before now core e moved =
    let same : 31 * core + 31 ≡ 31 * (core + 1) = omega arith in
    moved ∙ ap (λ state. state_after state 31) e ∙ state_sum seed (31 * core) 31 ∙ ap (state_after seed) same

pub next_program : (seed state core : ℕ) (text : List ℕ) (before now : List Program) → state ≡ state_after seed (31 * core) → text ≡ text_from state
    → before ≡ map (made_program seed) (range_with_len 0 core) → now ≡ before ++ Words text ∷ [] → now ≡ map (made_program seed) (range_with_len 0 (core + 1))
next_program seed state core text before now e is programs pushed =
    let program : Words text ≡ made_program seed core = ap Words (is ∙ ap text_from e) in
    pushed ∙ ap (λ ps. ps ++ Words text ∷ []) programs ∙ ap (λ p. map (made_program seed) (range_with_len 0 core) ++ p ∷ []) program
    ∙ sym (map-range_with_len_more (made_program seed) 0 core core (omega arith))
