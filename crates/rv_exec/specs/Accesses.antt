-- An access on the aligned word that holds its address.
use Rattle.std.specs.Prelude.{ℕ, ◌+◌, ◌%◌, List, ◌++◌, take, drop}
use Rattle.pmsi_model.specs.declared.Access.{Access}
use Rattle.pmsi_model.specs.Words.{bytes_of}
use Rattle.pmsi_model.specs.Access.{width_of, access_bytes}

-- the place of the access in its word, in bytes
abbrev pub lane_of : Access → ℕ
lane_of access = access.address % 4

-- the bytes of the word that the access covers
abbrev pub covered : Access → ℕ → List ℕ
covered access word = take (width_of access.op) (drop (lane_of access) (bytes_of 4 word))

-- the bytes of the word with others in place of those
abbrev pub with_covered : Access → ℕ → List ℕ → List ℕ
with_covered access word bytes = take (lane_of access) (bytes_of 4 word) ++ bytes ++ drop (lane_of access + width_of access.op) (bytes_of 4 word)

-- the bytes of the word after the access
abbrev pub bytes_after : Access → ℕ → List ℕ
bytes_after access word = with_covered access word (access_bytes access.op access.operand (covered access word))
