-- When a fault may be answered, and whose it is.
use Rattle.std.specs.Prelude.{◌≡◌, ℕ, ◌+◌, ◌-◌, ◌^◌, ◌≤◌, ◌<◌, min, max, List, Option, Result, IsOk, OnOk, OnErr}

-- a count has become greater, or stands at the end of its type
abbrev pub Rose : ℕ → ℕ → Type 0
Rose before now = min (before + 1) (2 ^ 64 - 1) ≤ now

-- a 64-bit count after one more; at the end of its type it stands still
abbrev pub counted : ℕ → ℕ
counted count = max count (min (count + 1) (2 ^ 64 - 1))

-- the count never falls, and a failed call raised it
pub record HasCause {T E : Type 0} (before now : ℕ) (result : Result T E) : Type 0 where
  pub later : before ≤ now
  pub failed : OnErr result (Rose before now)

-- the name blamed last, after a call of this name: the call's where it failed or the count became greater, else as before
pub record Blames {T E : Type 0} (before now : ℕ) (result : Result T E) (name blamed_before blamed_now : Option (List ℕ)) : Type 0 where
  pub failed : OnErr result (blamed_now ≡ name)
  pub risen : before < now → blamed_now ≡ name
  pub kept : OnOk result (now ≡ before → blamed_now ≡ blamed_before)

-- a call succeeded, and counted no fault
pub record Succeeds {T E : Type 0} (before now : ℕ) (result : Result T E) : Type 0 where
  pub ok : IsOk result
  pub still : now ≡ before
