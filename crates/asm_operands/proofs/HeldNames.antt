-- The names of a table, as a list.
use Rattle.std.proofs.Common.{◌≡◌, ℕ, List, [], ◌∷◌, map, Result, Ok, Err, refl, arith}
use Rattle.std.specs.Prelude.{IfOk, IfErr}
use Rattle.std.specs.Borrow.{Bor}
use Rattle.std.specs.HashMap.{HashMap}
use Rattle.std.specs.Map.{lookup}
use Rattle.std.specs.Str.{bytes_eq}
use Rattle.std.proofs.lemmas.Slice.Eq.{bytes_eq-Decides}
use Rattle.asm_operands.specs.declared.names.Named.{Named}
use Rattle.asm_operands.specs.NameTable.{named, stored}

-- of two texts either is the other
pub either_way : (one other : List ℕ) → bytes_eq one other ≡ bytes_eq other one
either_way one other = grind (arith, bytes_eq-Decides one other, bytes_eq-Decides other one)

in_entries : (entries : List (Bor (List ℕ) × Named)) (name : List ℕ)
    → named (map (λ entry. (entry.0.now, entry.1)) entries) name ≡ lookup (λ key. bytes_eq name key.now) entries
unfolding named
in_entries [] name = refl
in_entries (e ∷ entries) name = grind (arith, either_way name e.0.now, in_entries entries name)

-- the names of a hash map are those that it has
pub in_table : {S : Type 0} (table : HashMap (Bor (List ℕ)) Named S) (name : List ℕ)
    → named (map (λ entry. (entry.0.now, entry.1)) table.entries) name ≡ stored table name
unfolding stored
in_table table name = in_entries table.entries name

-- ---- what a hash map's change is for its names

pub for_ok : {A E P Q : Type 0} (r : Result A E) → (P → Q) → IfOk r (λ _. P) → IfOk r (λ _. Q)
for_ok (Ok a) f p = f p
for_ok (Err e) f p = tt

pub for_err : {A E P Q : Type 0} (r : Result A E) → (P → Q) → IfErr r (λ _. P) → IfErr r (λ _. Q)
for_err (Ok a) f p = tt
for_err (Err e) f p = f p
