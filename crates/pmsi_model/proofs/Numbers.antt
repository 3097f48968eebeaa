-- Numbers.
use Rattle.std.proofs.Common.{◌≡◌, ℕ, ◌+◌, ◌*◌, arith}

pub next_multiple : (a b : ℕ) → (a + 1) * b ≡ a * b + b
next_multiple a b = grind arith
