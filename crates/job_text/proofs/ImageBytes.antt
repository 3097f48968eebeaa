-- The bytes that images name, core by core.
use Rattle.std.proofs.Common.{◌≡◌, ◌≢◌, ◌⊎◌, inl, inr, not, ℕ, zero, suc, ◌+◌, ◌<◌, ◌≤◌, List, [], ◌∷◌, length, drop, replicate, get_or, Option, Some, None, refl, sym, ◌∙◌, ap, add-one, arith}
use Rattle.std.specs.Prelude.{max}
use Rattle.std.specs.Option.{option_or}
use Rattle.std.proofs.lemmas.Bool.{cases_eq}
use Rattle.std.proofs.lemmas.List.{drop_all, get_or-replicate}
use Rattle.pmsi_model.specs.declared.image.Piece.{Piece}
use Rattle.pmsi_model.specs.declared.job.Geometry.{Geometry}
use Rattle.pmsi_model.specs.Image.{ArePieces, ImageValue, end_of}
use Rattle.job_text.specs.Joining.{AreWithin, IsFirstPast, IsPairUpTo, IsPast, byte_in, byte_of}
use Rattle.job_text.specs.Joins.{AreBelow, AreFirst, IsBeyond, IsLeast, cell_at, first_byte}
use Rattle.job_text.proofs.NamedCells.{IsNaming}
use Rattle.job_text.proofs.PieceBytes.{below_or, first_left, inside, later}

-- ---- one core

pub at_core : (images : List ImageValue) (core address : ℕ) (image : ImageValue) → core < length images → image ≡ get_or images core image → byte_of images core address ≡ byte_in image.pieces address
unfolding byte_of
at_core [] core address image low at = absurd (omega arith)
at_core (first ∷ images) zero address image low at = ap (λ i. byte_in i.pieces address) (sym at)
at_core (first ∷ images) (suc core) address image low at = at_core images core address image (omega arith) at

pub past_cores : (images : List ImageValue) (core address : ℕ) → length images ≤ core → byte_of images core address ≡ None
unfolding byte_of
past_cores [] core address high = refl
past_cores (first ∷ images) zero address high = absurd (omega arith)
past_cores (first ∷ images) (suc core) address high = past_cores images core address (omega arith)

pub next_core : (first : ImageValue) (images : List ImageValue) (core address : ℕ) → byte_of (first ∷ images) (suc core) address ≡ byte_of images core address
unfolding byte_of
next_core first images core address = refl

pub first_core : (first : ImageValue) (images : List ImageValue) (address : ℕ) → byte_of (first ∷ images) 0 address ≡ byte_in first.pieces address
unfolding byte_of
first_core first images address = refl

-- ---- the first core with a byte of a kind

module _ (shape : Geometry) (images : List ImageValue) (core : ℕ) where
  pub record AreWithinTo : Type 0 where
    pub to : (other address : ℕ) → other < core → IsPast shape images other address → ⊥

  within_by : AreWithinTo → (image : ImageValue) → core < length images → image ≡ get_or images core image → IsLeast (λ address. IsBeyond shape.memory address (byte_in image.pieces address)) None
      → (other address : ℕ) → other < core + 1 → (other ≡ core) ⊎ (other ≢ core) → IsPast shape images other address → ⊥
  within_by before image low at none other address below (inl here) past =
      let byte : byte_of images other address ≡ byte_in image.pieces address = rw here (at_core images core address image low at) in
      none address (λ e. past.byte (byte ∙ e), past.past)
  within_by before image low at none other address below (inr not) past = before.to other address (omega arith) past

  pub within_next : AreWithinTo → (image : ImageValue) → core < length images → image ≡ get_or images core image → IsLeast (λ address. IsBeyond shape.memory address (byte_in image.pieces address)) None
      → (other address : ℕ) → other < core + 1 → IsPast shape images other address → ⊥
  within_next before image low at none other address below = within_by before image low at none other address below (cases_eq other core)

  past_by : AreWithinTo → (image : ImageValue) (found : ℕ) → core < length images → image ≡ get_or images core image
      → ((place : ℕ) → IsBeyond shape.memory place (byte_in image.pieces place) → found ≤ place)
      → (other place : ℕ) → IsPast shape images other place → (other < core) ⊎ (core ≤ other) → (other ≡ core) ⊎ (other ≢ core) → IsPairUpTo (core, found) (other, place)
  past_by before image found low at first other place past (inl below) same = absurd (before.to other place below past)
  past_by before image found low at first other place past (inr from) (inl here) =
      let byte : byte_of images other place ≡ byte_in image.pieces place = rw here (at_core images core place image low at) in
      inr (sym here, first place (λ e. past.byte (byte ∙ e), past.past))
  past_by before image found low at first other place past (inr from) (inr not) = inl (omega arith)

  pub past_here : AreWithinTo → (image : ImageValue) (found : ℕ) → core < length images → image ≡ get_or images core image → IsLeast (λ address. IsBeyond shape.memory address (byte_in image.pieces address)) (Some found)
      → IsFirstPast shape images core found
  past_here before image found low at least = record {
    is = record { byte = λ e. least.0.0 (sym (at_core images core found image low at) ∙ e); past = least.0.1 };
    first = λ other place past. past_by before image found low at least.1 other place past (below_or other core) (cases_eq other core);
  }

  pub within_all : length images ≤ core → AreWithinTo → AreWithin shape images
  within_all high before other address past = within_one other address past (below_or other core) where
    within_one : (other address : ℕ) → IsPast shape images other address → (other < core) ⊎ (core ≤ other) → ⊥
    within_one other address past (inl below) = before.to other address below past
    within_one other address past (inr from) = past.byte (past_cores images other address (omega arith))

-- ---- pieces within the memory

pub pieces_below : (memory least : ℕ) (pieces : List Piece) → ArePieces least pieces → ((address : ℕ) → byte_in pieces address ≢ None → memory ≤ address → ⊥) → AreBelow memory pieces
pieces_below memory least [] are within = tt
pieces_below memory least (piece ∷ pieces) are within =
    (end_below (below_or memory (end_of piece)), pieces_below memory (end_of piece + 1) pieces are.3 (λ address some past. within address (λ e. some (sym (later least piece pieces address are some) ∙ e)) past)) where
      end_below : (memory < end_of piece) ⊎ (end_of piece ≤ memory) → end_of piece ≤ memory
      end_below (inl past) =
          let here = inside piece pieces (max piece.address memory) (omega (arith, are.1)) (omega (arith, are.1)) in
          absurd (within (max piece.address memory) (λ none. let both : Some _ ≡ None = sym here ∙ none in absurd cc) (omega arith))
      end_below (inr low) = low

pub image_below : (shape : Geometry) (images : List ImageValue) (core memory : ℕ) (image : ImageValue) → AreWithin shape images → memory ≡ shape.memory → core < length images → image ≡ get_or images core image
    → ArePieces 0 image.pieces → AreBelow memory image.pieces
image_below shape images core memory image within is low at are =
    pieces_below memory 0 image.pieces are (λ address some past. within core address (record { byte = λ e. some (sym (at_core images core address image low at) ∙ e); past = omega arith }))

-- ---- the byte that is named first

pub first_next : (first : ImageValue) (images : List ImageValue) (address : ℕ) → first_byte (first ∷ images) address ≡ option_or (byte_in first.pieces address) (first_byte images address)
unfolding first_byte
first_next first images address = refl

pub first_none : (address : ℕ) → first_byte [] address ≡ None
unfolding first_byte
first_none address = refl

pub images_next : (images : List ImageValue) (i address : ℕ) (image : ImageValue) → i < length images → image ≡ get_or images i image
    → first_byte (drop i images) address ≡ option_or (byte_in image.pieces address) (first_byte (drop (i + 1) images) address)
images_next images i address image low at = rw add-one (ap (λ left. first_byte left address) (first_left images i image low at) ∙ first_next image (drop (suc i) images) address)

or_none : (byte : Option ℕ) → option_or byte None ≡ byte
or_none None = refl
or_none (Some b) = refl

pub images_end : (images : List ImageValue) (memory i : ℕ) (before cells : List (Option ℕ)) → before ≡ replicate memory None → length images ≤ i → length before ≡ memory
    → IsNaming before cells (first_byte images) (first_byte (drop i images)) → AreFirst images memory cells
images_end images memory i before cells zeros high count is = record {
  count = is.count ∙ count;
  each = λ address low.
      sym (or_none (cell_at cells address)) ∙ ap (option_or (cell_at cells address)) (sym (ap (λ left. first_byte left address) (drop_all i images high) ∙ first_none address))
      ∙ is.each address (omega (arith, count)) ∙ ap (λ cell. option_or cell (first_byte images address)) (ap (λ list. cell_at list address) zeros ∙ get_or-replicate memory address None None low);
}
