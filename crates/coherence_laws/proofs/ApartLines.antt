-- An access to memory is an access to the bytes of its line.
use Rattle.std.proofs.Common.{◌≡◌, ◌≢◌, ℕ, ◌+◌, ◌<◌, ◌≤◌, List, length, drop, get_or, sym, ap, ◌∙◌, arith}
use Rattle.std.proofs.lemmas.List.{ext_get_or, length-take, length-drop}
use Rattle.pmsi_model.specs.declared.job.Geometry.{Geometry}
use Rattle.pmsi_model.specs.declared.Access.{Access}
use Rattle.pmsi_model.specs.Geometry.{line_of}
use Rattle.pmsi_model.specs.Phase.{bytes_from, memory_after}
use Rattle.pmsi_model.proofs.Bytes.{get_or-bytes_from}
use Rattle.coherence_laws.specs.Apart.{line_bytes_in}
use Rattle.pmsi_model.proofs.Accesses.{IsFit, length-memory_after}
use Rattle.coherence_laws.proofs.ApartBytes.{line_bytes-same, other_line_after}

-- bytes of a part of memory
length-bytes_within : (start size place width : ℕ) (memory : List ℕ) → place + width ≤ size
    → length (bytes_from place width (bytes_from start size memory)) ≡ length (bytes_from (start + place) width memory)
length-bytes_within start size place width memory fits = omega (
  arith,
  length-take width (drop place (bytes_from start size memory)),
  length-drop place (bytes_from start size memory),
  length-take size (drop start memory),
  length-drop start memory,
  length-take width (drop (start + place) memory),
  length-drop (start + place) memory,
)

pub bytes_within : (start size place width : ℕ) (memory : List ℕ) → place + width ≤ size
    → bytes_from place width (bytes_from start size memory) ≡ bytes_from (start + place) width memory
bytes_within start size place width memory fits = ext_get_or 0 (bytes_from place width (bytes_from start size memory)) (bytes_from (start + place) width memory)
    (length-bytes_within start size place width memory fits)
    (λ i below. let short : i < width = omega (arith, length-take width (drop place (bytes_from start size memory))) in
    get_or-bytes_from place width (bytes_from start size memory) i short ∙ get_or-bytes_from start size memory (place + i) (omega arith)
    ∙ ap (λ (n : ℕ). get_or memory n 0) (let e : start + (place + i) ≡ (start + place) + i = omega arith in e) ∙ sym (get_or-bytes_from (start + place) width memory i short))

-- an access leaves the lines of other addresses
pub line_after_other : (shape : Geometry) (access : Access) (memory : List ℕ) → 0 < shape.line_words → IsFit (length memory) access
    → (line : ℕ) → line ≢ line_of shape access.address
    → line_bytes_in shape line (memory_after access memory) ≡ line_bytes_in shape line memory
line_after_other shape access memory some fit line other = line_bytes-same shape line (memory_after access memory) memory (length-memory_after access memory)
    (λ at on. other_line_after shape access memory at fit (λ same. other (sym on ∙ same)))
