use Rattle.std.proofs.Common.{rules, ◌≡◌, false}
use Rattle.core_worker.specs.Members.{IsOver}
use Rattle.core_worker.proofs.Rounds.{next_of, one_more}
use Rattle.core_worker.proofs.worker.go_round.Goals as goal

pub go_on-tried-requires : goal.go_on-tried-requires
go_on-tried-requires g c = next_of _ _ _ _ _ c.loop-k.invariant (search rules) c.index-members-k.result c.requires

pub loop-k-preserved : goal.loop-k-preserved
loop-k-preserved g c =
    let over : c.after-round.result.slots_left ≡ false → (c.loop-k.round.slots_left ≡ false) × IsOver c.go_on-tried.new.member =
    (λ none. let e = c.after-round.ensures none in (e.0, c.go_on-tried.ensures.over e.1)) in
    one_more _ _ _ _ _ c.loop-k.invariant (search rules) c.index-members-k.result c.go_on-tried.new.member c.after-round.result.slots_left c.go_on-tried.ensures.next over
