-- A made plan is within the limits, and can be printed.
use Rattle.std.proofs.Common.{◌≡◌, ℕ, zero, suc, ◌*◌, ◌/◌, ◌%◌, ◌^◌, ◌<◌, ◌≤◌, List, [], ◌∷◌, length, get_or, refl, arith}
use Rattle.std.specs.Prelude.{slice_index}
use Rattle.std.specs.List.{All, flat_map, range_with_len}
use Rattle.std.proofs.lemmas.List.Elements.{All-append, All-cons, All-map, All-nil}
use Rattle.std.proofs.lemmas.List.FromFn.{length-map-range_with_len}
use Rattle.pmsi_model.specs.declared.limits.TheConstants.{MAX_CORES, MAX_SLOTS}
use Rattle.pmsi_model.specs.Geometry.{IsGeometry}
use Rattle.job_text.specs.Generating.{access_word, address_word, draw_at, generated, made_program, made_shape, pair_of, state_after, text_from}
use Rattle.job_text.specs.Plans.{CanPrint, HasFewWords, IsPrintable}

abbrev IsWord : ℕ → Type 0
IsWord word = word < 2 ^ 32

address_fits : (draw : ℕ) → IsWord (address_word draw)
address_fits draw = omega arith

access_at : (k : ℕ) → k < 4 → IsWord (slice_index (0x0003a283 ∷ 0x0053a023 ∷ 0x00b3a2af ∷ 0x007282b3 ∷ []) k)
access_at zero low = omega arith
access_at (suc zero) low = omega arith
access_at (suc (suc zero)) low = omega arith
access_at (suc (suc (suc zero))) low = omega arith
access_at (suc (suc (suc (suc k)))) low = absurd (omega arith)

access_fits : (draw : ℕ) → IsWord (access_word draw)
access_fits draw = access_at (draw / 256 % 4) (omega arith)

pairs_fit : (state : ℕ) (places : List ℕ) → All IsWord (flat_map (λ place. pair_of (draw_at state place)) places)
pairs_fit state [] = All-nil IsWord
pairs_fit state (place ∷ places) =
    let draw = draw_at state place in
    All-append IsWord (pair_of draw) (flat_map (λ place. pair_of (draw_at state place)) places)
    (All-cons IsWord (address_word draw) (access_word draw ∷ []) (address_fits draw) (All-cons IsWord (access_word draw) [] (access_fits draw) (All-nil IsWord)))
    (pairs_fit state places)

text_fits : (state : ℕ) → All IsWord (text_from state)
unfolding text_from
text_fits state =
    All-append IsWord (flat_map (λ place. pair_of (draw_at state place)) (range_with_len 0 31)) (0x00130313 ∷ 0xf05ff06f ∷ []) (pairs_fit state (range_with_len 0 31))
    (All-cons IsWord 0x00130313 (0xf05ff06f ∷ []) (omega arith) (All-cons IsWord 0xf05ff06f [] (omega arith) (All-nil IsWord)))

text_length : (state : ℕ) → length (text_from state) ≡ 64
unfolding text_from
text_length state = refl

shape_fits : (cores slots : ℕ) → 1 ≤ cores → cores ≤ MAX_CORES → slots ≤ MAX_SLOTS → IsGeometry (made_shape cores slots)
unfolding lib.Count.ones
shape_fits cores slots some few short = record {
  some_cores = some;
  cores = few;
  some_quantum = omega arith;
  quantum = omega arith;
  least_line = omega arith;
  greatest_line = omega arith;
  line = refl;
  greatest_sets = omega arith;
  sets = refl;
  some_ways = omega arith;
  ways = omega arith;
  least_memory = omega arith;
  greatest_memory = omega arith;
  memory = refl;
  slots = short;
}

few_words : (seed core : ℕ) → HasFewWords (made_program seed core)
few_words seed core = omega (arith, text_length (state_after seed (31 * core)))

pub prints : (seed cores slots : ℕ) → 1 ≤ cores → cores ≤ MAX_CORES → slots ≤ MAX_SLOTS → IsPrintable (generated seed cores slots)
unfolding generated
prints seed cores slots some few short =
    let numbers = range_with_len 0 cores in
    record {
      within = record {
        shape = shape_fits cores slots some few short;
        count = length-map-range_with_len (made_program seed) 0 cores;
        words = All-map HasFewWords (made_program seed) numbers (λ k d low. few_words seed (get_or numbers k d));
      };
      programs = All-map CanPrint (made_program seed) numbers (λ k d low. text_fits (state_after seed (31 * get_or numbers k d)));
    }
