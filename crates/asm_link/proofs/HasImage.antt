-- A source has an image or a fault.
use Rattle.std.proofs.Common.{◌≡◌, ℕ, ◌*◌, ◌≤◌, List, [], ◌∷◌, length, map, Option, Some, None, inl, inr, refl, ap, arith}
use Rattle.std.specs.Prelude.{ℤ, ◌⊎◌, not}
use Rattle.std.specs.List.{All, filter, flat_map}
use Rattle.std.proofs.lemmas.List.Elements.{All-nil, All-cons, All-head, All-tail}
use Rattle.pmsi_model.specs.declared.limits.TheConstants.{MAX_TEXT_WORDS}
use Rattle.pmsi_model.specs.Image.{ImageValue}
use Rattle.asm_parse.specs.declared.fault.AsmCause.{AsmCause}
use Rattle.asm_parse.specs.declared.fault.AsmFault.{AsmFault}
use Rattle.asm_parse.specs.declared.fault.AsmFault.TheVariants.{NoMemory}
use Rattle.asm_parse.specs.Lines.{lines_of}
use Rattle.asm_parse.specs.Assembly.{HasAsmFault, IsAssembled, Step, asm_fault, at_line, at_start, byte_at, codes_of, data_of, first_fault, first_of, later_fault, names_of, steps_of, text_of}
use Rattle.asm_link.specs.Laws.{FaultsAreNotMemory, ImageOrFault}
use Rattle.asm_link.specs.Rounds.{before_of}
use Rattle.asm_link.proofs.Assembled.{zip_length}
use Rattle.asm_link.proofs.CutPieces.{cut}
use Rattle.asm_link.proofs.DataBytes.{data_in}
use Rattle.asm_link.proofs.FirstOf.{no_first}
use Rattle.asm_link.proofs.Faultless.{HasNoFault, HaveWords, IsLine, IsMade, all_lines, all_made, data_fits, text_room, text_words}
use Rattle.asm_link.proofs.TextLength.{IsLong, text_length}

no_cause : (number : ℕ) (found : Option AsmCause) → at_line number found ≡ None → found ≡ None
no_cause number None none = refl
no_cause number (Some c) none = absurd (cc)

-- no step has a fault
none_of : (fault : Step → Option AsmCause) (steps : List Step) → first_fault fault steps ≡ None → All (λ step. fault step ≡ None) steps
none_of fault [] none = All-nil (λ step. fault step ≡ None)
none_of fault (step ∷ steps) none =
    let parts = no_first (at_line step.number (fault step)) (map (λ step. at_line step.number (fault step)) steps) none in
    All-cons (λ step. fault step ≡ None) step steps (no_cause step.number (fault step) parts.0) (none_of fault steps parts.1)

-- neither round has a fault
record AreFaultless (source : List ℕ) : Type 0 where
  first : All HasNoFault (steps_of source)
  later : All (λ step. later_fault (names_of (steps_of source)) step ≡ None) (steps_of source)

both_rounds : (source : List ℕ) → asm_fault source ≡ None → AreFaultless source
unfolding asm_fault
both_rounds source none =
    let first = no_first _ _ none in
    let later = no_first _ _ first.1 in
    record {
      first = none_of (λ step. step.fault) (steps_of source) first.0;
      later = none_of (later_fault (names_of (steps_of source)))
          (steps_of source) later.0;
    }

lines_are : (source : List ℕ) → All HasNoFault (steps_of source) → All IsLine (steps_of source)
unfolding steps_of
lines_are source none = all_lines 1 at_start (lines_of source) none

room_of : (source : List ℕ) → All IsLine (steps_of source) → (before_of at_start (steps_of source)).place.text_at ≤ 4 * MAX_TEXT_WORDS
unfolding steps_of
room_of source are = text_room 1 at_start (lines_of source) are (omega arith)

all_long : (names : List (List ℕ × ℤ)) (steps : List Step) → All (IsMade names) steps → All (IsLong names) steps
all_long names [] made = All-nil (IsLong names)
all_long names (step ∷ steps) made =
    All-cons (IsLong names) step steps (All-head (IsMade names) step steps made).long (all_long names steps (All-tail (IsMade names) step steps made))

text_is : (source : List ℕ) → text_of source ≡ flat_map (codes_of (names_of (steps_of source))) (filter (λ step. not step.place.in_data) (steps_of source))
unfolding text_of
text_is source = refl

data_is : (source : List ℕ) → data_of source ≡ data_in (names_of (steps_of source)) (steps_of source)
unfolding data_of
data_is source = refl

-- a source without faults has an image
has_image : (source : List ℕ) → asm_fault source ≡ None → (image : ImageValue) × IsAssembled source image
has_image source none =
    let steps = steps_of source in
    let names = names_of steps in
    let faultless = both_rounds source none in
    let lines = lines_are source faultless.first in
    let made : All (IsMade names) steps = all_made names steps lines faultless.later in
    let text : HaveWords (text_of source) = rw (text_is source) (text_words names steps made) in
    let count : length (text_of source) ≡ length text.words = zip_length _ (text_of source) text.words text.are in
    let long = text_length source names (all_long names steps made) in
    let pieces = cut (byte_at (data_of source)) (λ address. rw (data_is source) (data_fits names steps address lines made)) in (
      record { text = text.words; pieces = pieces.0 },
      record {
        faultless = none;
        within = record {
          text = omega (
            arith,
            count,
            ap length
                (text_is source),
            long,
            room_of source lines,
          );
          words = text.small;
          pieces = pieces.1.are;
          bytes = pieces.1.bytes;
        };
        text = text.are;
        memory = pieces.1.has;
      },
    )

by_fault : (source : List ℕ) (found : Option AsmFault) → asm_fault source ≡ found
    → ((image : ImageValue) × IsAssembled source image) ⊎ ((fault : AsmFault) × HasAsmFault source fault)
by_fault source None is = inl (has_image source is)
by_fault source (Some fault) is = inr (fault, is)

pub image_or_fault : ImageOrFault
image_or_fault source = by_fault source (asm_fault source) refl

-- ---- want of memory

line_not_memory : (number : ℕ) (found : Option AsmCause) → at_line number found ≡ Some NoMemory → ⊥
line_not_memory number None is = cc
line_not_memory number (Some c) is = cc

first_not_memory : (x : Option AsmFault) (xs : List (Option AsmFault)) → (x ≡ Some NoMemory → ⊥) → (first_of xs ≡ Some NoMemory → ⊥)
    → first_of (x ∷ xs) ≡ Some NoMemory → ⊥
unfolding first_of
first_not_memory None xs one others is = others is
first_not_memory (Some fault) xs one others is = one is

none_not_memory : first_of {A = AsmFault} [] ≡ Some NoMemory → ⊥
unfolding first_of
none_not_memory is = cc

round_not_memory : (fault : Step → Option AsmCause) (steps : List Step) → first_fault fault steps ≡ Some NoMemory → ⊥
round_not_memory fault [] is = none_not_memory is
round_not_memory fault (step ∷ steps) is =
    first_not_memory (at_line step.number (fault step)) (map (λ step. at_line step.number (fault step)) steps) (line_not_memory step.number (fault step))
    (round_not_memory fault steps) is

pub never_memory : FaultsAreNotMemory
unfolding asm_fault
never_memory source is =
    let steps = steps_of source in
    let later = first_fault (later_fault (names_of steps)) steps in
    first_not_memory (first_fault (λ step. step.fault) steps) (later ∷ []) (round_not_memory (λ step. step.fault) steps)
    (first_not_memory later [] (round_not_memory (later_fault (names_of steps)) steps) none_not_memory) is
