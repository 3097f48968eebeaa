-- What the code has read.
use Rattle.std.specs.Prelude.{◌≡◌, ℕ, ◌+◌, ◌*◌, ◌^◌, ◌≤◌, ◌⊎◌, false}
use Rattle.std.specs.Char.{digit_value, is_digit}

-- a byte is no digit, or the number with it behind is too great for 32 bits
abbrev pub IsPast : ℕ → ℕ → ℕ → Type 0
IsPast value base byte = (is_digit byte base ≡ false) ⊎ (2 ^ 32 ≤ value * base + digit_value byte)
