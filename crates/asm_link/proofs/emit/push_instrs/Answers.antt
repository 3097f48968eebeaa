use Rattle.asm_parse.specs.Items.{item_of}
use Rattle.asm_link.specs.Values.{held}
use Rattle.asm_link.proofs.Emitted.{one_faultless, two_faultless, one_appended, two_appended}
use Rattle.asm_link.proofs.emit.push_instrs.Goals as goal

pub word_of_item-requires-clause-number : goal.word_of_item-requires-clause-number
word_of_item-requires-clause-number c = (one_faultless (held c.args.names.now) c.args.address (item_of c.in-One.item) (rw c.in-One.is at c.requires.faultless)).0

pub word_of_item-requires-clause-reach : goal.word_of_item-requires-clause-reach
word_of_item-requires-clause-reach c = (one_faultless (held c.args.names.now) c.args.address (item_of c.in-One.item) (rw c.in-One.is at c.requires.faultless)).1

pub word_of_item-requires-in-Two-clause-number : goal.word_of_item-requires-in-Two-clause-number
word_of_item-requires-in-Two-clause-number c =
    (two_faultless (held c.args.names.now) c.args.address (item_of c.in-Two.first) (item_of c.in-Two.second) (rw c.in-Two.is at c.requires.faultless)).0

pub word_of_item-requires-in-Two-clause-reach : goal.word_of_item-requires-in-Two-clause-reach
word_of_item-requires-in-Two-clause-reach c =
    (two_faultless (held c.args.names.now) c.args.address (item_of c.in-Two.first) (item_of c.in-Two.second) (rw c.in-Two.is at c.requires.faultless)).1

pub word_of_item-requires-in-Two-2-clause-number : goal.word_of_item-requires-in-Two-2-clause-number
word_of_item-requires-in-Two-2-clause-number c =
    (two_faultless (held c.args.names.now) c.args.address (item_of c.in-Two.first) (item_of c.in-Two.second) (rw c.in-Two.is at c.requires.faultless)).2

pub word_of_item-requires-in-Two-2-clause-reach : goal.word_of_item-requires-in-Two-2-clause-reach
word_of_item-requires-in-Two-2-clause-reach c =
    (two_faultless (held c.args.names.now) c.args.address (item_of c.in-Two.first) (item_of c.in-Two.second) (rw c.in-Two.is at c.requires.faultless)).3

pub returns-in_ok-push-in-One : goal.returns-in_ok-push-in-One
returns-in_ok-push-in-One c =
    rw c.in-One.is (one_appended (held c.args.names.now) c.args.address (item_of c.in-One.item) _ _ c.word_of_item.result c.in_ok-push-in-One.ensures.items c.word_of_item.ensures)

pub returns-in_ok-push-in-Two-2 : goal.returns-in_ok-push-in-Two-2
returns-in_ok-push-in-Two-2 c =
    rw c.in-Two.is (two_appended (held c.args.names.now) c.args.address (item_of c.in-Two.first) (item_of c.in-Two.second) _ _ _ c.word_of_item-in-Two.result c.word_of_item-in-Two-2.result
    c.in_ok-push-in-Two.ensures.items c.in_ok-push-in-Two-2.ensures.items c.word_of_item-in-Two.ensures c.word_of_item-in-Two-2.ensures)
