-- Words of 32 bits as numbers: their bits, their bytes and their signs.
use Rattle.std.specs.Prelude.{ℕ, zero, suc, ◌+◌, ◌-◌, ◌*◌, ◌/◌, ◌%◌, ◌^◌, ℤ, pos, ◌-ℤ◌, List, [], ◌∷◌, Bool, nat_lt, int_lt, if◌then◌else◌}
use Rattle.std.specs.Int.{w32, cast_signed, cast_unsigned}

-- what is left of a number in 32 bits
abbrev pub wrapped : ℕ → ℕ
wrapped n = n % 2 ^ 32

-- a signed number as a word, in two's complement: it means a number from -2^32 to 2^32 - 1
abbrev pub word_of : ℤ → ℕ
word_of n = cast_unsigned w32 n

-- a signed number added to a word
abbrev pub plus_signed : ℕ → ℤ → ℕ
plus_signed word n = wrapped (word + word_of n)

-- a word is below another, both read as signed
abbrev pub is_below_signed : ℕ → ℕ → Bool
is_below_signed a b = int_lt (cast_signed w32 a) (cast_signed w32 b)

-- the `count` bits of a word from place `low` on
abbrev pub bits_at : ℕ → ℕ → ℕ → ℕ
bits_at low count word = word / 2 ^ low % 2 ^ count

-- a number of `count` bits, read in two's complement
abbrev pub signed : ℕ → ℕ → ℤ
signed count n = if nat_lt n (2 ^ (count - 1)) then pos n else pos n -ℤ pos (2 ^ count)

-- the number that bytes spell, the lowest first
abbrev pub number_of : List ℕ → ℕ
number_of [] = 0
number_of (byte ∷ bytes) = byte + 256 * number_of bytes

-- the lowest `count` bytes of a number, the lowest first
abbrev pub bytes_of : ℕ → ℕ → List ℕ
bytes_of zero n = []
bytes_of (suc count) n = n % 256 ∷ bytes_of count (n / 256)
