-- The first line that equals it is at its place.
use Rattle.std.proofs.Common.{rules, tests, ◌≡◌, ℕ, Option, is_some, ◌==◌, ap, ◌∙◌}
use Rattle.std.specs.List.{position}
use Rattle.std.proofs.lemmas.Iterator.Search.{position_from_yields_List}
use Rattle.std.proofs.lemmas.Iterator.{YieldsList-from_slice}
use Rattle.pend_buffers.specs.Pending.{place_in}
use Rattle.pend_buffers.proofs.Places.{place_is, place_listed}
use Rattle.pend_buffers.proofs.queue.place_of.Goals as goal

found : (c : goal.After-position) → c.position.result ≡ position (λ l. l == c.args.line) c.args.lines.now
found c = position_from_yields_List _ _ _ _ c.position.ensures.ran (YieldsList-from_slice c.args.lines.now cc) (λ x b q k. search (rules, tests))

at_place : (c : goal.After-position) → c.position.result ≡ place_in c.args.line c.args.lines.now
at_place c = found c ∙ place_is c.args.line c.args.lines.now

pub returns-clause-place : goal.returns-clause-place
returns-clause-place c = at_place c

pub returns-clause-listed : goal.returns-clause-listed
returns-clause-listed c = ap (λ (o : Option ℕ). is_some o) (at_place c) ∙ place_listed c.args.line c.args.lines.now
