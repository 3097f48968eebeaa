use Rattle.std.proofs.Common.{rules, ◌≡◌, ◌∙◌}
use Rattle.job_text.specs.Generating.{text_from}
use Rattle.job_text.proofs.Generations.{next_program, next_state, no_draw}
use Rattle.job_text.proofs.generating.programs_of.Goals as goal

pub loop-init : goal.loop-init
loop-init c =
    let same : c.from-state.result ≡ c.args.seed = search rules in
    record { state = same ∙ no_draw c.args.seed; programs = search rules }

pub loop-preserved : goal.loop-preserved
loop-preserved c =
    let text = c.in_ok-text.ensures in
    let words : c.from_vec.result ≡ text_from c.loop.state = search rules in
    record {
      state = next_state c.args.seed c.loop.state c.draw_text.new.state c.loop.counter c.loop.invariant.state text.1;
      programs = next_program c.args.seed c.loop.state c.loop.counter c.from_vec.result c.loop.programs.items c.push.new.self.items c.loop.invariant.state words c.loop.invariant.programs (search rules);
    }
