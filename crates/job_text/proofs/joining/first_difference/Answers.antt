use Rattle.job_text.proofs.FirstDifferences as differences
use Rattle.job_text.proofs.joining.first_difference.Goals as goal

pub returns-in_err-address-clause-none : goal.returns-in_err-address-clause-none
returns-in_err-address-clause-none c e core other address differ =
    c.in_err-address.ensures address (differences.has_other c.args.shape c.args.images.now c.args.cells.now c.requires.within c.requires.cells core other address differ)

pub returns-clause-some : goal.returns-clause-some
returns-clause-some c =
    differences.first_difference c.args.shape c.args.images.now c.args.cells.now c.requires.within c.requires.cells c.in_ok-address.address c.in_ok-core.core c.in_ok-other.other c.in_ok-address.ensures
    c.in_ok-core.ensures c.in_ok-other.ensures
