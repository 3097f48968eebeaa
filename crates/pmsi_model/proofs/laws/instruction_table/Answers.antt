use Rattle.pmsi_model.proofs.Encodings.{has_one_row, reads_one_way}
use Rattle.pmsi_model.proofs.laws.instruction_table.Goals as goal

pub returns-clause-one_row : goal.returns-clause-one_row
returns-clause-one_row c = has_one_row

pub returns-clause-one_way : goal.returns-clause-one_way
returns-clause-one_way c = reads_one_way
