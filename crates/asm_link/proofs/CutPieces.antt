-- The bytes at the addresses of a memory, cut into the pieces of an image.
use Rattle.std.proofs.Common.{◌≡◌, ℕ, zero, suc, ◌+◌, ◌-◌, ◌<◌, ◌≤◌, List, [], ◌∷◌, length, map, Option, Some, None, inl, inr, refl, ap, ◌∙◌, arith}
use Rattle.std.specs.Prelude.{if◌then◌else◌, nat_le, nat_lt, ◌&&◌, IfSome}
use Rattle.std.specs.List.{All}
use Rattle.std.specs.Option.{option_or}
use Rattle.std.proofs.lemmas.Bool.Decides.{nat_tests}
use Rattle.std.proofs.lemmas.Bool.{cases_lt}
use Rattle.std.proofs.lemmas.List.Elements.{All-nil, All-cons, All-head, All-tail}
use Rattle.pmsi_model.specs.declared.image.Piece.{Piece}
use Rattle.pmsi_model.specs.declared.limits.TheConstants.{MAX_MEMORY}
use Rattle.pmsi_model.specs.Image.{ArePieces, end_of}
use Rattle.asm_parse.specs.Assembly.{byte_in, byte_at}
use Rattle.asm_link.specs.Bytes.{piece_byte}
use Rattle.asm_link.proofs.DataBytes.{no_bytes}
use Rattle.asm_link.proofs.FirstOf.{first_or}
use Rattle.asm_link.proofs.MemoryPieces.{HasBytes}

-- these pieces have the bytes at the addresses from one on, and no others
record IsCut (byte : ℕ → Option ℕ) (from : ℕ) (pieces : List Piece) : Type 0 where
  are : ArePieces from pieces
  bytes : All HasBytes pieces
  has : (address : ℕ) → piece_byte pieces address ≡ (if nat_le from address then byte address else None)

piece_first : (piece : Piece) (pieces : List Piece) (address : ℕ)
    → piece_byte (piece ∷ pieces) address ≡ option_or (byte_in address (piece.address, piece.bytes)) (piece_byte pieces address)
unfolding byte_at
piece_first piece pieces address =
    first_or (byte_in address (piece.address, piece.bytes)) (map (byte_in address) (map (λ piece. (piece.address, piece.bytes)) pieces))

-- ---- a byte in front

higher : (low high : ℕ) (pieces : List Piece) → low ≤ high → ArePieces high pieces → ArePieces low pieces
higher low high [] le are = tt
higher low high (piece ∷ pieces) le are = (omega (arith, le, are.0), are.1, are.2, are.3)

one_in : (at b address : ℕ) → byte_in address (at, b ∷ []) ≡ (if nat_le at address && nat_lt address (at + 1) then Some b else None)
one_in at b address = elim (cases_lt address at) [
  | inl below ↦ grind (arith, nat_tests)
  | inr from ↦ elim (cases_lt at address) [
    | inl above ↦
        let e : address - at ≡ suc (address - at - 1) = omega arith in
        rw e (grind (arith, nat_tests))
    | inr here ↦
        let e : address - at ≡ 0 = omega arith in
        rw e (grind (arith, nat_tests))
  ]
]

more_in : (at b address : ℕ) (bytes : List ℕ)
    → byte_in address (at, b ∷ bytes) ≡ (if nat_le at address && nat_lt address (at + 1) then Some b else byte_in address (at + 1, bytes))
more_in at b address bytes = elim (cases_lt address at) [
  | inl below ↦ grind (arith, nat_tests)
  | inr from ↦ elim (cases_lt at address) [
    | inl above ↦
        let e : address - at ≡ suc (address - (at + 1)) = omega arith in
        rw e (grind (arith, nat_tests))
    | inr here ↦
        let e : address - at ≡ 0 = omega arith in
        rw e (grind (arith, nat_tests))
  ]
]

none_here : (byte : ℕ → Option ℕ) (from : ℕ) (pieces : List Piece) → byte from ≡ None → IsCut byte (from + 1) pieces → IsCut byte from pieces
none_here byte from pieces none cut = record {
  are = higher from (from + 1) pieces (omega arith) cut.are;
  bytes = cut.bytes;
  has = λ address. cut.has address ∙ elim (cases_lt from address) [
    | inl above ↦ grind (arith, nat_tests)
    | inr low ↦ elim (cases_lt address from) [
      | inl below ↦ grind (arith, nat_tests)
      | inr same ↦
          let e : address ≡ from = omega arith in
          rw e (grind (arith, nat_tests, none))
    ]
  ];
}

abbrev alone : ℕ → ℕ → Piece
alone at b = record { address = at; bytes = b ∷ [] }

small_alone : (b : ℕ) → b < 256 → All (λ byte. byte < 256) (b ∷ [])
small_alone b small = All-cons (λ byte. byte < 256) b [] small (All-nil (λ byte. byte < 256))

-- a byte with a gap behind it is a piece of its own
has_alone : (byte : ℕ → Option ℕ) (from b : ℕ) (pieces : List Piece) → byte from ≡ Some b
    → ((address : ℕ) → piece_byte pieces address ≡ (if nat_le (from + 1) address then byte address else None))
    → (address : ℕ) → piece_byte (alone from b ∷ pieces) address ≡ (if nat_le from address then byte address else None)
has_alone byte from b pieces some has address =
    piece_first (alone from b) pieces address ∙ elim (cases_lt from address) [
      | inl above ↦ grind (arith, nat_tests, one_in from b address, has address)
      | inr low ↦ elim (cases_lt address from) [
        | inl below ↦ grind (arith, nat_tests, one_in from b address, has address)
        | inr same ↦
            let e : address ≡ from = omega arith in
            rw e (grind (arith, nat_tests, one_in from b from, some))
      ]
    ]

-- a byte right before a piece belongs to it
has_joined : (byte : ℕ → Option ℕ) (from b : ℕ) (piece : Piece) (pieces : List Piece) → piece.address ≡ from + 1 → byte from ≡ Some b
    → ((address : ℕ) → piece_byte (piece ∷ pieces) address ≡ (if nat_le (from + 1) address then byte address else None))
    → (address : ℕ) → piece_byte ((record { address = from; bytes = b ∷ piece.bytes }) ∷ pieces) address ≡ (if nat_le from address then byte address else None)
has_joined byte from b piece pieces next some has address =
    let whole : piece_byte (piece ∷ pieces) address ≡ option_or (byte_in address (from + 1, piece.bytes)) (piece_byte pieces address) =
    piece_first piece pieces address ∙ ap (λ (n : ℕ). option_or (byte_in address (n, piece.bytes)) (piece_byte pieces address)) next in
    piece_first (record { address = from; bytes = b ∷ piece.bytes }) pieces address ∙ elim (cases_lt from address) [
      | inl above ↦ grind (arith, nat_tests, more_in from b address piece.bytes, has address, whole)
      | inr low ↦ elim (cases_lt address from) [
        | inl below ↦ grind (arith, nat_tests, more_in from b address piece.bytes, has address, whole)
        | inr same ↦
            let e : address ≡ from = omega arith in
            rw e (grind (arith, nat_tests, more_in from b from piece.bytes, some))
      ]
    ]

joined : (byte : ℕ → Option ℕ) (from b : ℕ) (piece : Piece) (pieces : List Piece) → piece.address ≡ from + 1 → byte from ≡ Some b → b < 256
    → IsCut byte (from + 1) (piece ∷ pieces)
    → IsCut byte from ((record { address = from; bytes = b ∷ piece.bytes }) ∷ pieces)
joined byte from b piece pieces next some small cut =
    let same : from + suc (length piece.bytes) ≡ end_of piece = omega (arith, next) in
    record {
      are = (
        omega arith,
        omega arith,
        omega (arith, same, cut.are.2),
        higher (from + suc (length piece.bytes) + 1) (end_of piece + 1) pieces
            (omega (arith, same)) cut.are.3,
      );
      bytes = All-cons HasBytes _ pieces (All-cons (λ byte. byte < 256) b piece.bytes small (All-head HasBytes piece pieces cut.bytes))
          (All-tail HasBytes piece pieces cut.bytes);
      has = has_joined byte from b piece pieces next some cut.has;
    }

apart : (byte : ℕ → Option ℕ) (from b : ℕ) (pieces : List Piece) → ArePieces (from + 1 + 1) pieces → byte from ≡ Some b → b < 256 → from < MAX_MEMORY
    → IsCut byte (from + 1) pieces
    → IsCut byte from (alone from b ∷ pieces)
apart byte from b pieces gap some small low cut = record {
  are = (omega arith, omega arith, omega (arith, low), gap);
  bytes = All-cons HasBytes (alone from b) pieces (small_alone b small) cut.bytes;
  has = has_alone byte from b pieces some cut.has;
}

-- so a byte is added in front
some_here : (byte : ℕ → Option ℕ) (from b : ℕ) (pieces : List Piece) → byte from ≡ Some b → b < 256 → from < MAX_MEMORY → IsCut byte (from + 1) pieces
    → (new : List Piece) × IsCut byte from new
some_here byte from b [] some small low cut = (alone from b ∷ [], apart byte from b [] tt some small low cut)
some_here byte from b (piece ∷ pieces) some small low cut = elim (cases_lt (from + 1) piece.address) [
  | inl gap ↦ (alone from b ∷ piece ∷ pieces, apart byte from b (piece ∷ pieces) (omega (arith, gap), cut.are.1, cut.are.2, cut.are.3) some small low cut)
  | inr next ↦ ((record { address = from; bytes = b ∷ piece.bytes }) ∷ pieces, joined byte from b piece pieces (omega (arith, next, cut.are.0)) some small cut)
]

-- ---- all bytes

-- a byte of memory
abbrev pub IsByteAt : ℕ → ℕ → Type 0
IsByteAt address byte = (byte < 256) × (address < MAX_MEMORY)

here_or_not : (byte : ℕ → Option ℕ) (from : ℕ) (pieces : List Piece) (found : Option ℕ) → byte from ≡ found → IfSome found (IsByteAt from)
    → IsCut byte (from + 1) pieces → (new : List Piece) × IsCut byte from new
here_or_not byte from pieces None is fits cut = (pieces, none_here byte from pieces is cut)
here_or_not byte from pieces (Some b) is fits cut = some_here byte from b pieces is fits.0 fits.1 cut

past : (address : ℕ) (found : Option ℕ) → IfSome found (IsByteAt address) → MAX_MEMORY ≤ address → found ≡ None
past address None fits high = refl
past address (Some b) fits high = absurd (omega (arith, fits.1, high))

ended : (byte : ℕ → Option ℕ) (from : ℕ) → ((address : ℕ) → IfSome (byte address) (IsByteAt address)) → MAX_MEMORY ≤ from → IsCut byte from []
ended byte from fits high = record {
  are = tt;
  bytes = All-nil HasBytes;
  has = λ address. no_bytes address ∙ elim (cases_lt address from) [
    | inl below ↦ grind (arith, nat_tests)
    | inr above ↦ grind (arith, nat_tests, past address (byte address) (fits address) (omega (arith, high, above)))
  ];
}

cut_from : (byte : ℕ → Option ℕ) (count from : ℕ) → ((address : ℕ) → IfSome (byte address) (IsByteAt address)) → MAX_MEMORY ≤ count + from
    → (pieces : List Piece) × IsCut byte from pieces
cut_from byte zero from fits all = ([], ended byte from fits (omega (arith, all)))
cut_from byte (suc count) from fits all =
    let rest = cut_from byte count (from + 1) fits (omega (arith, all)) in
    here_or_not byte from rest.0 (byte from) refl (fits from) rest.1

-- pieces that have some bytes of a memory, each at its address
pub record ArePiecesOf (byte : ℕ → Option ℕ) (pieces : List Piece) : Type 0 where
  pub are : ArePieces 0 pieces
  pub bytes : All HasBytes pieces
  pub has : (address : ℕ) → piece_byte pieces address ≡ byte address

pub cut : (byte : ℕ → Option ℕ) → ((address : ℕ) → IfSome (byte address) (IsByteAt address)) → (pieces : List Piece) × ArePiecesOf byte pieces
cut byte fits =
    let from_0 = cut_from byte MAX_MEMORY 0 fits (omega arith) in
    (from_0.0, record { are = from_0.1.are; bytes = from_0.1.bytes; has = λ address. from_0.1.has address ∙ grind (arith, nat_tests) })
