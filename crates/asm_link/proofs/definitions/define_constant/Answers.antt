use Rattle.std.proofs.Common.{rules}
use Rattle.asm_parse.specs.Items.{statement_of}
use Rattle.asm_link.proofs.NameLaws.{defines_none}
use Rattle.asm_link.proofs.definitions.define_constant.Goals as goal

pub returns-in_default : goal.returns-in_default
returns-in_default c = record { ok = defines_none c.args.names.now (statement_of c.args.does.now) (search rules) (search rules); twice = tt }

pub returns-clause-ok : goal.returns-clause-ok
returns-clause-ok c = rw c.in-Define.is c.define.ensures.ok

pub returns-clause-twice : goal.returns-clause-twice
returns-clause-twice c = rw c.in-Define.is c.define.ensures.twice
