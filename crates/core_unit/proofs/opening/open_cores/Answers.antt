use Rattle.std.proofs.Common.{◌+◌, ◌∷◌, [], length, ap, ◌∙◌, arith}
use Rattle.std.proofs.lemmas.List.{length-append}
use Rattle.core_unit.proofs.Openings.{open_more, opened}
use Rattle.core_unit.proofs.opening.open_cores.Goals as goal

pub loop-c-init : goal.loop-c-init
loop-c-init c = record {
  many = ap length c.in_ok-cores.ensures.items;
  long = c.in_ok-cores.ensures.len;
  room = c.in_ok-cores.ensures.capacity;
  ready = λ n other none. absurd (omega arith);
}

pub push_reserved-requires : goal.push_reserved-requires
push_reserved-requires c = omega (arith, c.loop-c.invariant.long, c.loop-c.invariant.room, c.loop-c-test.true)

pub loop-c-preserved : goal.loop-c-preserved
loop-c-preserved c = let before = c.loop-c.invariant in let pushed = c.push_reserved.ensures in record {
  many = ap length pushed.items ∙ length-append c.loop-c.cores.items (c.in_ok-open.field-0 ∷ []) ∙ ap (λ n. n + 1) before.many;
  long = pushed.len ∙ ap (λ n. n + 1) before.long;
  room = (let r = before.room in let same = pushed.capacity in omega arith);
  ready = open_more c.args.job.now c.args.keep.touches c.loop-c.c c.loop-c.cores.items c.push_reserved.new.self.items c.in_ok-open.field-0
      before.many pushed.items
      before.ready (record { part = c.in_ok-open.ensures.part; keeps = c.in_ok-open.ensures.keeps });
}

pub returns : goal.returns
returns c = opened c.args.job.now c.args.keep c.loop-c.c c.shape-count.result.cores c.loop-c.cores.items c.shape-count.ensures.within c.loop-c.invariant.many
    (ap (λ g. g.cores) c.shape-count.ensures.shape) c.loop-c.auto.c-end c.loop-c-test.false c.loop-c.invariant.ready
