-- Where pieces stand, and what it means that a piece passes its checks.
use Rattle.std.proofs.Common.{◌≡◌, ℕ, suc, ◌+◌, List, None, refl, add-one, arith}
use Rattle.std.proofs.lemmas.Bool.Decides.{nat_tests}
use Rattle.image_file.specs.declared.format.TheConstants.{PIECE_HEADER_BYTES}
use Rattle.image_file.specs.Checks.{first_failing, piece_checks, piece_place, text_end, least_address, length_of, end_of}
use Rattle.image_file.specs.Reading.{IsWhole}

pub first_place : (bytes : List ℕ) → piece_place bytes 0 ≡ text_end bytes
unfolding piece_place
first_place bytes = refl

pub first_least : (bytes : List ℕ) → least_address bytes 0 ≡ 0
unfolding least_address
first_least bytes = refl

pub next_place : (bytes : List ℕ) (i : ℕ) → piece_place bytes (i + 1) ≡ (piece_place bytes i + PIECE_HEADER_BYTES) + length_of bytes i
unfolding piece_place
next_place bytes i = rw add-one refl

pub next_least : (bytes : List ℕ) (i : ℕ) → least_address bytes (i + 1) ≡ end_of bytes i + 1
unfolding least_address
next_least bytes i = rw (add-one i) refl

pub whole_piece : (bytes : List ℕ) (i : ℕ) → first_failing (piece_checks bytes i) ≡ None → IsWhole bytes i
unfolding piece_checks
whole_piece bytes i none =
    let next : piece_place bytes (i + 1) ≡ piece_place bytes (suc i) = rw add-one refl in
    record {
      some = grind (arith, nat_tests);
      few = grind (arith, nat_tests);
      ends = grind (arith, nat_tests);
      above = grind (arith, nat_tests);
      inside = grind (arith, nat_tests);
      next = next_place bytes i;
      least = next_least bytes i;
    }

pub whole_passes : (bytes : List ℕ) (i : ℕ) → IsWhole bytes i → first_failing (piece_checks bytes i) ≡ None
unfolding piece_checks
whole_passes bytes i whole =
    let next : piece_place bytes (i + 1) ≡ piece_place bytes (suc i) = rw add-one refl in
    grind (arith, nat_tests)
