-- How great a number can be that stands in a source.
use Rattle.std.specs.Prelude.{◌^◌, ℤ, pos, neg_ℤ, ◌≤ℤ◌}

-- from -2^32 to 2^32: every number that a source can spell is among these, and so is what is left when one is taken from 0
abbrev pub IsWide : ℤ → Type 0
IsWide n = (neg_ℤ (pos (2 ^ 32)) ≤ℤ n) × (n ≤ℤ pos (2 ^ 32))
