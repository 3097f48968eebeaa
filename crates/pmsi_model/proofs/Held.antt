-- What the readers of held lines say after each change.
use Rattle.std.proofs.Common.{inl, ◌≡◌, ◌≢◌, ◌⊎◌, ℕ, ◌+◌, ◌<◌, ◌≤◌, List, [], ◌∷◌, length, Option, Some, None, is_some, ◌==◌, if◌then◌else◌, refl, arith}
use Rattle.std.specs.List.{last_or}
use Rattle.pmsi_model.specs.declared.job.Geometry.{Geometry}
use Rattle.pmsi_model.specs.declared.Mode.{Mode}
use Rattle.pmsi_model.specs.declared.Mode.TheVariants.{Shared, Modified}
use Rattle.pmsi_model.specs.Geometry.{set_of}
use Rattle.pmsi_model.specs.Machine.{mode_of, without, to_front, with_mode}
use Rattle.pmsi_model.specs.Phase.{set_lines, evicted, touched_line, drop_shared}
use Rattle.pmsi_model.specs.Coherent.{HoldsEachOnce}

pub mode_without : (l line : ℕ) (hs : List (ℕ × Mode)) → mode_of l (without line hs) ≡ (if l == line then None else mode_of l hs)
mode_without l line [] = grind arith
mode_without l line (h ∷ hs) = grind (arith, mode_without l line hs)

pub mode_to_front : (l line : ℕ) (m : Mode) (hs : List (ℕ × Mode))
    → mode_of l (to_front line m hs) ≡ (if l == line then Some m else mode_of l hs)
mode_to_front l line m hs = grind (arith, mode_without l line hs)

pub mode_with_mode : (l line : ℕ) (m : Mode) (hs : List (ℕ × Mode))
    → mode_of l (with_mode line m hs) ≡ (if l == line then (if is_some (mode_of line hs) then Some m else None) else mode_of l hs)
mode_with_mode l line m [] = grind arith
mode_with_mode l line m (h ∷ hs) = grind (arith, mode_with_mode l line m hs)

pub once_without : (line : ℕ) (hs : List (ℕ × Mode)) → HoldsEachOnce hs → HoldsEachOnce (without line hs)
once_without line [] o = o
once_without line (h ∷ hs) o = grind (arith, mode_without h.0 line hs, once_without line hs o.1)

pub once_to_front : (line : ℕ) (m : Mode) (hs : List (ℕ × Mode)) → HoldsEachOnce hs → HoldsEachOnce (to_front line m hs)
once_to_front line m hs o = (grind (arith, mode_without line line hs), once_without line hs o)

pub once_with_mode : (line : ℕ) (m : Mode) (hs : List (ℕ × Mode)) → HoldsEachOnce hs → HoldsEachOnce (with_mode line m hs)
once_with_mode line m [] o = o
once_with_mode line m (h ∷ hs) o = grind (arith, mode_with_mode h.0 line m hs, once_with_mode line m hs o.1)

pub fewer_without : (shape : Geometry) (l line : ℕ) (hs : List (ℕ × Mode))
    → length (set_lines shape l (without line hs)) ≤ length (set_lines shape l hs)
fewer_without shape l line [] = grind arith
fewer_without shape l line (h ∷ hs) = grind (arith, fewer_without shape l line hs)

pub room_without : (shape : Geometry) (l line : ℕ) (hs : List (ℕ × Mode)) → mode_of line hs ≢ None → set_of shape line ≡ set_of shape l
    → length (set_lines shape l (without line hs)) < length (set_lines shape l hs)
room_without shape l line [] held same = grind arith
room_without shape l line (h ∷ hs) held same = grind (arith, fewer_without shape l line hs, room_without shape l line hs)

pub same_with_mode : (shape : Geometry) (l line : ℕ) (m : Mode) (hs : List (ℕ × Mode))
    → length (set_lines shape l (with_mode line m hs)) ≡ length (set_lines shape l hs)
same_with_mode shape l line m [] = refl
same_with_mode shape l line m (h ∷ hs) = grind (arith, same_with_mode shape l line m hs)

pub count_to_front : (shape : Geometry) (l line : ℕ) (m : Mode) (hs : List (ℕ × Mode))
    → length (set_lines shape l (to_front line m hs)) ≡ (if set_of shape line == set_of shape l then 1 else 0) + length (set_lines shape l (without line hs))
count_to_front shape l line m hs = grind arith

-- ---- a line that an access uses

pub touched_mode : (line l : ℕ) (mode : Option Mode) (held : List (ℕ × Mode)) → mode_of line held ≡ mode
    → mode_of l (touched_line mode line held) ≡ mode_of l held
touched_mode line l None held is = refl
touched_mode line l (Some mode) held is = grind (arith, mode_to_front l line mode held)

pub touched_once : (line : ℕ) (mode : Option Mode) (held : List (ℕ × Mode)) → HoldsEachOnce held → HoldsEachOnce (touched_line mode line held)
touched_once line None held once = once
touched_once line (Some mode) held once = once_to_front line mode held once

-- ---- the line that a miss evicts

-- each line is held as before or not at all
pub dropped_less : (l : ℕ) (gone : Option (ℕ × Mode)) (held : List (ℕ × Mode))
    → (mode_of l (drop_shared gone held) ≡ mode_of l held) ⊎ (mode_of l (drop_shared gone held) ≡ None)
dropped_less l None held = inl refl
dropped_less l (Some (gone, Shared)) held = grind (arith, mode_without l gone held)
dropped_less l (Some (gone, Modified)) held = inl refl

pub dropped_once : (gone : Option (ℕ × Mode)) (held : List (ℕ × Mode)) → HoldsEachOnce held → HoldsEachOnce (drop_shared gone held)
dropped_once None held once = once
dropped_once (Some (gone, Shared)) held once = once_without gone held once
dropped_once (Some (gone, Modified)) held once = once

last_some : (h : ℕ × Mode) (hs : List (ℕ × Mode)) → last_or (Some h) hs ≢ None
last_some h [] = grind arith
last_some h (g ∷ hs) = last_some g hs

last_none : (hs : List (ℕ × Mode)) → last_or None hs ≡ None → length hs ≡ 0
last_none [] none = refl
last_none (h ∷ hs) none = absurd (last_some h hs none)

last_in_set : (shape : Geometry) (line : ℕ) (hs : List (ℕ × Mode)) (o : Option (ℕ × Mode)) (h : ℕ × Mode) → HoldsEachOnce hs
    → last_or o (set_lines shape line hs) ≡ Some h → (o ≡ Some h) ⊎ ((mode_of h.0 hs ≡ Some h.1) × (set_of shape h.0 ≡ set_of shape line))
last_in_set shape line [] o h once is = inl is
last_in_set shape line (g ∷ hs) o h once is = grind (arith, last_in_set shape line hs (Some g) h once.1, last_in_set shape line hs o h once.1, once.0)

-- it is held in its mode, in the set of the line that isn't held
pub evicted_held : (shape : Geometry) (line : ℕ) (hs : List (ℕ × Mode)) (h : ℕ × Mode) → HoldsEachOnce hs → evicted shape line hs ≡ Some h
    → (mode_of h.0 hs ≡ Some h.1) × (set_of shape h.0 ≡ set_of shape line) × (mode_of line hs ≡ None)
evicted_held shape line hs h once is = grind (arith, last_in_set shape line hs None h once)

-- where none is evicted the line is held or its set has room
pub evicted_none : (shape : Geometry) (line : ℕ) (hs : List (ℕ × Mode)) → 1 ≤ shape.ways → length (set_lines shape line hs) ≤ shape.ways
    → evicted shape line hs ≡ None → (mode_of line hs ≢ None) ⊎ (length (set_lines shape line hs) < shape.ways)
evicted_none shape line hs some within none = grind (arith, last_none (set_lines shape line hs))

-- all lines but a shared one that goes are held as before
pub mode_dropped : (gone : Option (ℕ × Mode)) (l : ℕ) (held : List (ℕ × Mode)) → ((h : ℕ × Mode) → gone ≡ Some h → l ≢ h.0)
    → mode_of l (drop_shared gone held) ≡ mode_of l held
mode_dropped None l held away = refl
mode_dropped (Some (line, Shared)) l held away = let apart : l ≢ line = away (line, Shared) refl in grind (arith, mode_without l line held)
mode_dropped (Some (line, Modified)) l held away = refl

-- an access with permission leaves the modes
pub mode_touched : (l line : ℕ) (mode : Option Mode) (held : List (ℕ × Mode)) → mode_of line held ≡ mode
    → mode_of l (touched_line mode line held) ≡ mode_of l held
mode_touched l line None held is = refl
mode_touched l line (Some mode) held is = grind (arith, mode_to_front l line mode held)
