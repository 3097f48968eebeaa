-- No check has want of memory as its fault.
use Rattle.std.proofs.Common.{◌≡◌, ◌≢◌, ℕ, List, [], ◌∷◌, ◌++◌, Some, arith}
use Rattle.std.specs.List.{flat_map, range_with_len}
use Rattle.image_file.specs.declared.fault.ImageFault.TheVariants.{NoMemory}
use Rattle.image_file.specs.Checks.{Check, first_failing, header_checks, piece_checks, pieces_checks, piece_count, end_check, checks, fault_of}
use Rattle.image_file.specs.Laws.{NeverMemory}

abbrev AreNamed : List Check → Type 0
AreNamed [] = Unit {0}
AreNamed (check ∷ checks) = (check.fault ≢ NoMemory) × AreNamed checks

named_both : (front back : List Check) → AreNamed front → AreNamed back → AreNamed (front ++ back)
named_both [] back f b = b
named_both (check ∷ front) back f b = (f.0, named_both front back f.1 b)

named_header : (bytes : List ℕ) → AreNamed (header_checks bytes)
unfolding header_checks
named_header bytes = (λ e. cc, (λ e. cc, (λ e. cc, (λ e. cc, tt))))

named_piece : (bytes : List ℕ) (i : ℕ) → AreNamed (piece_checks bytes i)
unfolding piece_checks
named_piece bytes i = (λ e. cc, (λ e. cc, (λ e. cc, (λ e. cc, (λ e. cc, tt)))))

named_pieces : (bytes : List ℕ) (is : List ℕ) → AreNamed (flat_map (piece_checks bytes) is)
named_pieces bytes [] = tt
named_pieces bytes (i ∷ is) = named_both (piece_checks bytes i) (flat_map (piece_checks bytes) is) (named_piece bytes i) (named_pieces bytes is)

named_all : (bytes : List ℕ) → AreNamed (checks bytes)
unfolding checks pieces_checks
named_all bytes =
    let each = flat_map (piece_checks bytes) (range_with_len 0 (piece_count bytes)) in
    named_both (header_checks bytes) (each ++ end_check bytes ∷ []) (named_header bytes) (named_both each (end_check bytes ∷ []) (named_pieces bytes (range_with_len 0 (piece_count bytes))) (λ e. cc, tt))

never_first : (checks : List Check) → AreNamed checks → first_failing checks ≡ Some NoMemory → ⊥
never_first [] named e = absurd cc
never_first (check ∷ checks) named e = grind (arith, named.0, never_first checks named.1)

pub never_memory : NeverMemory
unfolding fault_of
never_memory bytes e = never_first (checks bytes) (named_all bytes) e
