use Rattle.std.proofs.Common.{◌≡◌, ◌<◌, ◌/◌, Some, None, get_or, ◌∙◌, sym, ap, subst}
use Rattle.pmsi_model.specs.declared.job.Geometry.{Geometry}
use Rattle.pmsi_model.specs.Geometry.{line_of}
use Rattle.pmsi_model.specs.Machine.{mode_of}
use Rattle.pmsi_model.specs.Shared.{owner_in}
use Rattle.cache_array.specs.Cache.{CacheValue, held_of, words_of, word_place}
use Rattle.sim_serial.specs.Sims.{IsSim}
use Rattle.sim_serial.proofs.Words.{owner_within, owner_holds, copy_word, shared_word}
use Rattle.sim_serial.proofs.sim.Sim.word.Goals as goal

pub core-requires : goal.core-requires
core-requires c = let sim : IsSim c.args.self.now = subst IsSim c.self.view_is c.self.invariant in
    owner_within sim.job c.args.self.now.bus.slot c.args.self.now sim.at c.line_of.result c.in-Some.owner
    (ap (λ m. owner_in m c.line_of.result) (sym (ap (λ v. v.bus.memory) c.self.view_is)) ∙ ap (λ m. owner_in m c.line_of.result) (sym c.memory-memory.ensures.memory) ∙ sym c.owner.ensures ∙ c.in-Some.is)

pub read_word-requires-clause-held : goal.read_word-requires-clause-held
read_word-requires-clause-held c = λ none. let sim = c.core.ensures.sim in let job = sim.job in let slot = c.args.self.now.bus.slot in let at = sim.at in
    let part = c.core.ensures.part job slot at in
    let mem : c.memory-memory.result.now ≡ c.args.self.now.bus.memory = c.memory-memory.ensures.memory ∙ ap (λ v. v.bus.memory) c.self.view_is in
    let shape : c.shape.result ≡ job.shape = c.shape.ensures.shape ∙ ap (λ m. m.shape) mem ∙ at.side.memory.shape in
    let line : c.line_of.result ≡ line_of job.shape c.args.address = c.line_of.ensures ∙ ap (λ g. line_of g c.args.address) shape in
    let owned : owner_in c.args.self.now.bus.memory (line_of job.shape c.args.address) ≡ Some c.in-Some.owner =
    ap (owner_in c.args.self.now.bus.memory) (sym line) ∙ ap (λ m. owner_in m c.line_of.result) (sym mem) ∙ sym c.owner.ensures ∙ c.in-Some.is in
    let held = owner_holds job slot c.args.self.now at (line_of job.shape c.args.address) c.in-Some.owner c.core.result.now owned part in
    let here : mode_of (line_of job.shape c.args.address) (held_of c.core.result.now.cache.lines) ≡ None =
    ap (λ g. mode_of (line_of g c.args.address) (held_of c.core.result.now.cache.lines)) (sym part.in_slot.stands.carries.cache)
    ∙ ap (λ (k : CacheValue). mode_of (line_of k.shape c.args.address) (held_of k.lines)) (sym c.cache.ensures) ∙ none in absurd cc

pub returns-in-Some : goal.returns-in-Some
returns-in-Some c = λ job slot at. let part = c.core.ensures.part job slot at in
    let mem : c.memory-memory.result.now ≡ c.args.self.now.bus.memory = c.memory-memory.ensures.memory ∙ ap (λ v. v.bus.memory) c.self.view_is in
    let shape : c.shape.result ≡ job.shape = c.shape.ensures.shape ∙ ap (λ m. m.shape) mem ∙ at.side.memory.shape in
    let line : c.line_of.result ≡ line_of job.shape c.args.address = c.line_of.ensures ∙ ap (λ g. line_of g c.args.address) shape in
    let owned : owner_in c.args.self.now.bus.memory (line_of job.shape c.args.address) ≡ Some c.in-Some.owner =
    ap (owner_in c.args.self.now.bus.memory) (sym line) ∙ ap (λ m. owner_in m c.line_of.result) (sym mem) ∙ sym c.owner.ensures ∙ c.in-Some.is in
    c.read_word.ensures ∙ ap (λ (k : CacheValue). get_or (words_of (line_of k.shape c.args.address) k.lines) (word_place k.shape c.args.address) 0) c.cache.ensures
    ∙ copy_word job slot c.args.self.now at c.args.address c.in-Some.owner c.core.result.now c.core.result.now.cache.shape c.requires.aligned part.in_slot.stands.carries.cache owned part

pub returns-in-None : goal.returns-in-None
returns-in-None c = λ job slot at.
    let mem : c.memory-memory.result.now ≡ c.args.self.now.bus.memory = c.memory-memory.ensures.memory ∙ ap (λ v. v.bus.memory) c.self.view_is in
    let shape : c.shape.result ≡ job.shape = c.shape.ensures.shape ∙ ap (λ m. m.shape) mem ∙ at.side.memory.shape in
    let line : c.line_of.result ≡ line_of job.shape c.args.address = c.line_of.ensures ∙ ap (λ g. line_of g c.args.address) shape in
    let free : owner_in c.args.self.now.bus.memory (line_of job.shape c.args.address) ≡ None =
    ap (owner_in c.args.self.now.bus.memory) (sym line) ∙ ap (λ m. owner_in m c.line_of.result) (sym mem) ∙ sym c.owner.ensures ∙ c.in-None.is in
    c.word.ensures ∙ ap (λ m. get_or m.words (c.args.address / 4) 0) mem
    ∙ shared_word job slot c.args.self.now at c.args.address c.requires.aligned (subst (λ (g : Geometry). c.args.address < g.memory) at.side.memory.shape c.requires.within) free
