-- What the falls of the slots left come to, in plain numbers.
use Rattle.std.proofs.Common.{◌≡◌, ℕ, ◌+◌, ◌*◌, ◌^◌, ◌≤◌, arith}
use Rattle.std.proofs.lemmas.Grind.{pow_more}
use native.Mathlib.Nat.{pow-zero}

-- the owner of the slot did its other duty, and the turn is now the waited-for one's
pub turn_falls : (gap d e n : ℕ) → d ≡ 1 → e ≤ gap → (e + gap * n) + 1 ≤ d + gap * (n + 1)
turn_falls gap d e n one most = grind arith

-- it wrote back a line that stood before
pub place_falls : (gap d e p q b a : ℕ) → d ≡ 1 → e ≤ gap → q ≡ p + 1 → a ≤ 1 → (e + gap * (2 * p + a)) + 1 ≤ d + gap * (2 * q + b)
place_falls gap d e p q b a one most next within = grind arith

pub back_most : (gap cores d p a : ℕ) → d ≤ gap → p + 1 ≤ cores → a ≤ 1 → d + gap * (2 * p + a) ≤ 2 * gap * cores
back_most gap cores d p a most within turn = grind arith

pub request_most : (gap d a : ℕ) → d ≤ gap → a ≤ 1 → d + gap * a ≤ 2 * gap
request_most gap d a most turn = grind arith

-- one more request is ahead
pub one_more : (n step m : ℕ) → m ≤ step → m + n * step ≤ (n + 1) * step
one_more n step m most = grind arith

pub more_ahead : (n k step : ℕ) → n ≤ k → n * step ≤ k * step
more_ahead n k step most = grind arith

square : (n : ℕ) → n ^ 2 ≡ n * n
square n = let z : n ^ 0 ≡ 1 = pow-zero n in grind (arith, pow_more n 1, pow_more n 0)

pub bound_steps : (gap cores : ℕ) → (cores + 1) * (2 * gap * cores + 2 * gap) ≡ 2 * gap * (cores + 1) ^ 2
bound_steps gap cores = let s = square (cores + 1) in let e : (cores + 1) ^ 2 ≡ (cores + 1) * (cores + 1) = s in rw e (grind arith)
