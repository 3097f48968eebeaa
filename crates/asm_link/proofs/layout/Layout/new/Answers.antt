use Rattle.std.proofs.Common.{◌≡◌, None, refl}
use Rattle.std.proofs.lemmas.List.Elements.{All-nil}
use Rattle.asm_operands.specs.NameTable.{named}
use Rattle.asm_link.specs.Rounds.{before_of}
use Rattle.asm_link.proofs.layout.Layout.new.Goals as goal

pub returns-clause-layout : goal.returns-clause-layout
unfolding before_of named
returns-clause-layout c = record {
  number = refl;
  faultless = All-nil (λ step. step.fault ≡ None);
  place = refl;
  names = λ name. rw c.new.ensures refl;
  equs = λ name. rw c.new.ensures refl;
  memory = λ address. c.new-2.ensures address;
  kept = rw c.new-3.ensures.items tt;
}
