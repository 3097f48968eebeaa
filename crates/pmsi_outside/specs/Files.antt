-- What the calls of a set of files give, where its contents are told.
use Rattle.std.specs.Prelude.{◌≡◌, ℕ, List, take, Option, None, Some, Result, IfOk, IsSome, IsSomeAnd, ⊤}
use Rattle.std.specs.Io.KnownBytes.{Consumes, IsAtEnd}

-- the contents of each name that has some
abbrev pub Contents : Type 0
Contents = List ℕ → Option (List ℕ)

-- where contents are told, this name has some, and they have the fact
abbrev pub Tells : Option Contents → List ℕ → (List ℕ → Type 0) → Type 0
Tells None name fact = ⊤
Tells (Some contents) name fact = IsSomeAnd (contents name) fact

-- contents are told, and this name has some
abbrev pub Has : Option Contents → List ℕ → Type 0
Has contents name = IsSomeAnd contents (λ told. IsSome (told name))

-- an opened file has the whole contents of its name left
abbrev pub Opens : Option Contents → List ℕ → Option (List ℕ) → Type 0
Opens contents name left = Tells contents name (λ bytes. left ≡ Some bytes)

-- a read took the bytes that it gave off what was left, and gave none only at the end of input
abbrev pub ReadTakes : {E : Type 0} → Option (List ℕ) → Option (List ℕ) → Result ℕ E → List ℕ → Type 0
ReadTakes old new result buf = IfOk result (λ count. Consumes old new (take count buf) × (count ≡ 0 → IsAtEnd new))
