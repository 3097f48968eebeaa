use Rattle.std.proofs.Common.{◌≡◌, sym, refl, string_bytes, Some, None}
use Rattle.pmsi_outside.specs.Memory.{entries_of, contents_of, bytes_at}
use Rattle.pmsi_outside.proofs.Places.{place_found, place_none}
use Rattle.pmsi_outside.proofs.memory.shelf.Shelf.open.Goals as goal

pub returns-in-Some : goal.returns-in-Some
returns-in-Some c =
    let found : contents_of (entries_of c.self.inside.list.items) (string_bytes c.args.name) ≡ Some (bytes_at (entries_of c.self.inside.list.items) c.in-Some.place) = (place_found c.self.inside.list.items (string_bytes c.args.name) c.in-Some.place (sym (rw (c.deref.ensures.value, c.deref-2.ensures) at c.in-Some.ensures))).1 in
    rw (← c.self.view_is, found) (refl, refl)

pub returns-in-None : goal.returns-in-None
returns-in-None c =
    let none : contents_of (entries_of c.self.inside.list.items) (string_bytes c.args.name) ≡ None = place_none c.self.inside.list.items (string_bytes c.args.name) (sym (rw (c.deref.ensures.value, c.deref-2.ensures) at c.in-None.ensures)) in
    rw (c.fail.ensures, ← c.self.view_is, none) (refl, refl)
