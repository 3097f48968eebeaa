-- Memory before and after accesses: what each access found, and what they left.
use Rattle.std.proofs.Common.{◌≡◌, ℕ, ◌+◌, ◌<◌, List, [], ◌∷◌, ◌++◌, All, length, get_or, refl, sym, ap, ◌∙◌, subst}
use mathlib.Core.Path.{fun_ext}
use Rattle.pmsi_model.specs.declared.Kind.TheVariants.{Read}
use Rattle.pmsi_model.specs.declared.Touch.{Touch}
use Rattle.pmsi_model.specs.Latest.{byte_of, byte_after}

-- each access found the bytes that the accesses before it left, beginning with the bytes `found`
abbrev pub Takes : (ℕ → ℕ) → List Touch → Type 0
Takes found [] = Unit {0}
Takes found (touch ∷ touches) =
    ((place : ℕ) → place < touch.width → byte_of touch.old place ≡ found (touch.address + place))
    × (touch.kind ≡ Read → touch.new ≡ touch.old)
    × Takes (λ at. byte_after at (found at) (touch ∷ [])) touches

takes_append : (found : ℕ → ℕ) (ts us : List Touch) → Takes found ts → Takes (λ at. byte_after at (found at) ts) us → Takes found (ts ++ us)
takes_append found [] us h k = k
takes_append found (t ∷ ts) us h k = (h.0, h.1, takes_append (λ at. byte_after at (found at) (t ∷ [])) ts us h.2 k)

byte_after_append : (at byte : ℕ) (ts us : List Touch) → byte_after at byte (ts ++ us) ≡ byte_after at (byte_after at byte ts) us
byte_after_append at byte [] us = refl
byte_after_append at byte (t ∷ ts) us = byte_after_append at (byte_after at byte (t ∷ [])) ts us

-- at any place of the list
pub takes_at : (found : ℕ → ℕ) (earlier later : List Touch) (touch : Touch) → Takes found (earlier ++ touch ∷ later) →
    ((place : ℕ) → place < touch.width → byte_of touch.old place ≡ byte_after (touch.address + place) (found (touch.address + place)) earlier)
    × (touch.kind ≡ Read → touch.new ≡ touch.old)
takes_at found [] later touch h = (h.0, h.1)
takes_at found (e ∷ es) later touch h = takes_at (λ at. byte_after at (found at) (e ∷ [])) es later touch h.2

-- accesses lead from one memory to another
pub record Follows (before : List ℕ) (touches : List Touch) (after : List ℕ) : Type 0 where
  pub size : length after ≡ length before
  pub bytes : All (λ byte. byte < 256) after
  pub left : (at : ℕ) → get_or after at 0 ≡ byte_after at (get_or before at 0) touches
  pub takes : Takes (λ at. get_or before at 0) touches

pub follows_none : (memory : List ℕ) → All (λ byte. byte < 256) memory → Follows memory [] memory
follows_none memory h = record { size = refl; bytes = h; left = λ at. refl; takes = tt }

pub follows_append : (a b c : List ℕ) (ts us : List Touch) → Follows a ts b → Follows b us c → Follows a (ts ++ us) c
follows_append a b c ts us f g = record {
  size = g.size ∙ f.size;
  bytes = g.bytes;
  left = λ at. g.left at ∙ ap (λ (byte : ℕ). byte_after at byte us) (f.left at) ∙ sym (byte_after_append at (get_or a at 0) ts us);
  takes = takes_append (λ at. get_or a at 0) ts us f.takes (subst (λ (found : ℕ → ℕ). Takes found us) (fun_ext (λ at. f.left at)) g.takes);
}
