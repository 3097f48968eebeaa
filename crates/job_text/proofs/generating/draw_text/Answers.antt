use Rattle.std.proofs.Common.{rules, ◌≡◌, subst, arith}
use Rattle.job_text.specs.Generating.{state_after}
use Rattle.job_text.proofs.Generations.{no_draw, one_draw, one_pair, whole_text}
use Rattle.job_text.proofs.generating.draw_text.Goals as goal

pub loop-init : goal.loop-init
loop-init c = record { state = no_draw c.args.state.now; words = search rules }

pub loop-preserved : goal.loop-preserved
loop-preserved c =
    let state = one_draw c.args.state.now c.loop.state c.draw.new.state c.loop.counter c.loop.invariant.state c.draw.ensures.state in
    record {
      state = state;
      words = one_pair c.args.state.now c.draw.new.state c.draw.result c.loop.counter c.loop.words.items c.push_pair.new.words.items state c.draw.ensures.draw c.loop.invariant.words (search rules);
    }

pub returns : goal.returns
returns c =
    let end : c.loop.counter ≡ 31 = omega arith in (
      whole_text c.args.state.now c.loop.counter c.loop.words.items c.extend_from_slice.new.self.items end c.loop.invariant.words (search rules),
      subst (λ count. c.loop.state ≡ state_after c.args.state.now count) end c.loop.invariant.state,
    )
