-- Multiples of a number.
use Rattle.std.proofs.Common.{◌≡◌, ℕ, ◌+◌, ◌-◌, ◌*◌, ◌/◌, ◌%◌, ◌<◌, ◌≤◌, arith}
use Rattle.std.proofs.Math.Nat.{div-add-mod, div-eq_of_lt-le}
use Rattle.asm_parse.specs.Assembly.{aligned}

-- a multiple that isn't below an address, and less than the number above it, is the least such
pub is_aligned : (address to found : ℕ) → 0 < to → address ≤ found → found < address + to → found % to ≡ 0 → found ≡ aligned address to
is_aligned address to found some lower upper multiple =
    let parts : to * (found / to) + found % to ≡ found = div-add-mod found to in
    let times : (address + (to - 1)) / to ≡ found / to = div-eq_of_lt-le to (grind arith) (grind arith) in
    grind arith
