-- A source whose lines were placed, checked and put into text and data is assembled.
use Rattle.std.proofs.Common.{◌≡◌, ℕ, ◌^◌, ◌<◌, ◌≤◌, List, [], ◌∷◌, ◌++◌, length, map, get_or, Option, Some, None, refl, ap, sym, subst, ◌∙◌, arith, suc, append_assoc, append-nil}
use Rattle.std.specs.Prelude.{ℤ, not}
use Rattle.std.specs.Option.{option_or}
use Rattle.std.specs.List.{All, AllZip, filter, flat_map}
use Rattle.pmsi_model.specs.declared.image.Piece.{Piece}
use Rattle.pmsi_model.specs.declared.limits.TheConstants.{MAX_TEXT_WORDS}
use Rattle.pmsi_model.specs.Image.{ArePieces}
use Rattle.asm_parse.specs.declared.fault.AsmFault.{AsmFault}
use Rattle.asm_parse.specs.declared.place.Place.{Place}
use Rattle.asm_parse.specs.Mnemonics.{Code}
use Rattle.asm_operands.specs.NameTable.{HasNames}
use Rattle.asm_parse.specs.Assembly.{Before, Step, at_start, after_step, asm_fault, at_line, byte_at, codes_of, data_of, first_fault, first_of, later_fault, names_by, names_of, steps_of, text_of, HasAsmFault, IsAssembled, IsWordOf}
use Rattle.asm_link.specs.declared.layout.Layout.{Layout}
use Rattle.asm_link.specs.Bytes.{byte_of}
use Rattle.asm_link.specs.Values.{held}
use Rattle.asm_link.specs.Filled.{IsKept, last_byte, step_fault, text_codes}
use Rattle.asm_link.specs.Rounds.{IsLayout, IsWithin, before_of}
use Rattle.asm_link.proofs.HeldNames.{holds_names}
use Rattle.asm_link.proofs.Filling.{none_first}
use Rattle.asm_link.proofs.Linked.{AreSame, later_is, text_is}
use Rattle.asm_link.proofs.Sized.{all_sized, all_long, last_is}
use Rattle.asm_link.proofs.DataBytes.{data_bytes_are, last_of}
use Rattle.asm_link.proofs.TextLength.{text_length}

names_so_far : (b : Before) (steps : List Step) → (before_of b steps).names ≡ b.names ++ flat_map names_by steps
unfolding before_of after_step
names_so_far b [] = sym (append-nil b.names)
names_so_far b (s ∷ steps) = names_so_far (after_step b s) steps ∙ append_assoc b.names (names_by s) (flat_map names_by steps)

-- the table has the names of all steps
pub same_names : (layout : Layout) (steps : List Step) → IsLayout layout steps → AreSame (held layout.names) (names_of steps)
unfolding names_of
same_names layout steps h name = sym (holds_names layout.names name) ∙ subst (λ (k : List (List ℕ × ℤ)). HasNames layout.names k) (names_so_far at_start steps) h.names name

first_none : (layout : Layout) (steps : List Step) → IsLayout layout steps → first_fault (λ step. step.fault) steps ≡ None
first_none layout steps h = none_first (λ step. at_line step.number step.fault) steps (λ k d lt. ap (at_line (get_or steps k d).number) (h.faultless k d lt))

pub first_round_fault : (source : List ℕ) (fault : AsmFault) → first_fault (λ step. step.fault) (steps_of source) ≡ Some fault → HasAsmFault source fault
unfolding asm_fault first_of
first_round_fault source fault e = rw e refl

pub second_round_fault : (source : List ℕ) (layout : Layout) (fault : AsmFault) → IsLayout layout (steps_of source)
    → first_of (map (λ step. at_line step.number (step_fault (held layout.names) step)) layout.steps.items) ≡ Some fault → HasAsmFault source fault
unfolding asm_fault first_of
second_round_fault source layout fault h e =
    let steps = steps_of source in
    let later : first_fault (later_fault (names_of steps)) steps ≡ Some fault = sym (later_is (held layout.names) (names_of steps) layout.steps.items steps (same_names layout steps h) h.kept) ∙ e in
    rw (first_none layout steps h) (rw later refl)

no_round_fault : (source : List ℕ) (layout : Layout) → IsLayout layout (steps_of source) → All (λ step. step_fault (held layout.names) step ≡ None) layout.steps.items → asm_fault source ≡ None
unfolding asm_fault first_of
no_round_fault source layout h none =
    let steps = steps_of source in
    let clear = none_first (λ step. at_line step.number (step_fault (held layout.names) step)) layout.steps.items (λ k d lt. ap (at_line (get_or layout.steps.items k d).number) (none k d lt)) in
    let later : first_fault (later_fault (names_of steps)) steps ≡ None = sym (later_is (held layout.names) (names_of steps) layout.steps.items steps (same_names layout steps h) h.kept) ∙ clear in
    rw (first_none layout steps h) (rw later refl)

pub text_assembled : (source : List ℕ) (layout : Layout) (words : List ℕ) → IsLayout layout (steps_of source) → AllZip IsWordOf (flat_map (text_codes (held layout.names)) layout.steps.items) words
    → AllZip IsWordOf (text_of source) words
unfolding text_of
text_assembled source layout words h zip =
    let steps = steps_of source in
    subst (λ (k : List Code). AllZip IsWordOf k words) (text_is (held layout.names) (names_of steps) layout.steps.items steps (same_names layout steps h) h.kept) zip

pub memory_assembled : (source : List ℕ) (layout : Layout) (memory : List (Option ℕ)) (pieces : List Piece) → IsLayout layout (steps_of source) → All IsKept layout.steps.items
    → ((address : ℕ) → byte_of memory address ≡ option_or (last_byte (held layout.names) layout.steps.items address) (byte_of layout.memory address))
    → ((address : ℕ) → byte_at (map (λ piece. (piece.address, piece.bytes)) pieces) address ≡ byte_of memory address)
    → (address : ℕ) → byte_at (map (λ piece. (piece.address, piece.bytes)) pieces) address ≡ byte_at (data_of source) address
unfolding data_of
memory_assembled source layout memory pieces h kept put cut address =
    let steps = steps_of source in
    let names = names_of steps in
    cut address ∙ put address
    ∙ ap (λ (k : Option ℕ). option_or k (byte_of layout.memory address)) (last_is (held layout.names) names layout.steps.items steps address (same_names layout steps h) h.kept)
    ∙ ap (λ (k : Option ℕ). option_or (last_of names steps address) k) (h.memory address)
    ∙ data_bytes_are source names h.faultless (all_sized names layout.steps.items steps kept h.kept) address

pub zip_length : {A B : Type 0} (R : A → B → Type 0) (xs : List A) (ys : List B) → AllZip R xs ys → length xs ≡ length ys
zip_length R [] [] zip = refl
zip_length R (x ∷ xs) [] zip = absurd zip
zip_length R [] (y ∷ ys) zip = absurd zip
zip_length R (x ∷ xs) (y ∷ ys) zip = ap suc (zip_length R xs ys zip.1)

pub text_within : (source : List ℕ) (layout : Layout) (words : List ℕ) → IsLayout layout (steps_of source) → IsWithin layout.place → All IsKept layout.steps.items → AllZip IsWordOf (text_of source) words
    → length words ≤ MAX_TEXT_WORDS
unfolding text_of
text_within source layout words h within kept zip =
    let steps = steps_of source in
    let names = names_of steps in
    let long = text_length source names (all_long names layout.steps.items steps kept h.kept) in
    let count = zip_length IsWordOf (flat_map (codes_of names) (filter (λ step. not step.place.in_data) steps)) words zip in
    let place : layout.place.text_at ≡ (before_of at_start steps).place.text_at = ap (λ (p : Place). p.text_at) h.place in
    omega (arith, long, count, place, within.0)

-- a source that was laid out and filled in is assembled
pub assembled : (source : List ℕ) (layout : Layout) (words : List ℕ) (memory : List (Option ℕ)) (pieces : List Piece) → IsLayout layout (steps_of source) → IsWithin layout.place → All IsKept layout.steps.items
    → All (λ step. step_fault (held layout.names) step ≡ None) layout.steps.items
    → AllZip IsWordOf (flat_map (text_codes (held layout.names)) layout.steps.items) words
    → All (λ word. word < 2 ^ 32) words
    → ((address : ℕ) → byte_of memory address ≡ option_or (last_byte (held layout.names) layout.steps.items address) (byte_of layout.memory address))
    → ArePieces 0 pieces
    → All (λ piece. All (λ byte. byte < 256) piece.bytes) pieces
    → ((address : ℕ) → byte_at (map (λ piece. (piece.address, piece.bytes)) pieces) address ≡ byte_of memory address)
    → IsAssembled source (record { text = words; pieces = pieces })
assembled source layout words memory pieces h within kept faultless text small put apart bytes cut =
    let zip = text_assembled source layout words h text in
    record {
      faultless = no_round_fault source layout h faultless;
      within = record { text = text_within source layout words h within kept zip; words = small; pieces = apart; bytes = bytes };
      text = zip;
      memory = memory_assembled source layout memory pieces h kept put cut;
    }
