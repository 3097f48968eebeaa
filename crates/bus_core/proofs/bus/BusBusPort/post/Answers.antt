-- The words of the line that was asked for.
use Rattle.std.proofs.Common.{◌≡◌, refl, sym, ◌∙◌}
use Rattle.pmsi_model.specs.Shared.{posted_in}
use Rattle.bus_core.proofs.Posts.{posted_words}
use Rattle.bus_core.proofs.bus.BusBusPort.post.Goals as goal

pub returns-then-ready-clause-words : goal.returns-then-ready-clause-words
returns-then-ready-clause-words c =
    let none = rw (← c.self.view_is) at c.requires.can.unposted in
    let posted : c.post.new.self ≡ posted_in c.args.core c.args.line c.args.name c.self.inside.memory = c.post.ensures.after ∙ rw c.kind.ensures refl in
    rw (← c.self.view_is)
    (posted_words c.self.inside.memory c.post.new.self c.args.core c.args.line c.args.name c.fill.new.words.items c.args.words.now.items none posted
    (sym c.ready.ensures ∙ c.if-ready.true) c.fill.ensures.words)
