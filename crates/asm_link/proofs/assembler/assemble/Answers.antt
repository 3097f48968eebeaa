use Rattle.std.proofs.lemmas.Result.{err_from_is_err_and}
use Rattle.asm_parse.specs.Assembly.{IsAssembled}
use Rattle.asm_link.proofs.OneImage.{one_image, only_memory}
use Rattle.asm_link.proofs.Assembled.{assembled, first_round_fault, second_round_fault}
use Rattle.asm_link.proofs.assembler.assemble.Goals as goal

pub returns-in_err-names-clause-fault : goal.returns-in_err-names-clause-fault
returns-in_err-names-clause-fault c =
    let p = err_from_is_err_and c.from_residual.result c.from_residual.ensures.1 in
    rw (p.1, p.2) (λ free. first_round_fault c.args.source.now c.in_err-names.field-0.0 (c.in_err-names.ensures.fault free))

pub returns-in_err-words-clause-fault : goal.returns-in_err-words-clause-fault
returns-in_err-words-clause-fault c =
    let p = err_from_is_err_and c.from_residual-in_err-words.result c.from_residual-in_err-words.ensures.1 in
    rw (p.1, p.2) (λ free. second_round_fault c.args.source.now c.in_ok-names.field-0 c.in_err-words.field-0.0 c.in_ok-names.ensures.layout (rw c.deref.ensures.value at (c.in_err-words.ensures.fault free)))

pub new-requires : goal.new-requires
new-requires c =
    let done : IsAssembled c.args.source.now (record { text = c.in_ok-words.words.items; pieces = c.in_ok-pieces.pieces.items }) =
    assembled c.args.source.now c.in_ok-names.field-0 c.in_ok-words.words.items c.fill.new.memory c.in_ok-pieces.pieces.items c.in_ok-names.ensures.layout c.in_ok-names.ensures.within c.in_ok-names.ensures.kept
    (rw c.deref.ensures.value at c.in_ok-words.ensures.faultless) (rw c.deref.ensures.value at c.in_ok-words.ensures.words) c.in_ok-words.ensures.small (rw c.deref.ensures.value at c.in_ok-words.ensures.bytes)
    c.in_ok-pieces.ensures.pieces c.in_ok-pieces.ensures.bytes c.in_ok-pieces.ensures.memory in
    rw c.from_vec.ensures (rw c.from_vec-2.ensures done.within)

pub returns-clause-image : goal.returns-clause-image
returns-clause-image c =
    let done : IsAssembled c.args.source.now (record { text = c.in_ok-words.words.items; pieces = c.in_ok-pieces.pieces.items }) =
    assembled c.args.source.now c.in_ok-names.field-0 c.in_ok-words.words.items c.fill.new.memory c.in_ok-pieces.pieces.items c.in_ok-names.ensures.layout c.in_ok-names.ensures.within c.in_ok-names.ensures.kept
    (rw c.deref.ensures.value at c.in_ok-words.ensures.faultless) (rw c.deref.ensures.value at c.in_ok-words.ensures.words) c.in_ok-words.ensures.small (rw c.deref.ensures.value at c.in_ok-words.ensures.bytes)
    c.in_ok-pieces.ensures.pieces c.in_ok-pieces.ensures.bytes c.in_ok-pieces.ensures.memory in
    rw c.new.ensures (rw c.from_vec.ensures (rw c.from_vec-2.ensures done))

pub returns-in_err-names-clause-only : goal.returns-in_err-names-clause-only
returns-in_err-names-clause-only c image is =
    let p = err_from_is_err_and c.from_residual.result c.from_residual.ensures.1 in
    rw (p.1, p.2) (only_memory c.args.source.now image c.in_err-names.field-0.0 is (λ free. first_round_fault c.args.source.now c.in_err-names.field-0.0 (c.in_err-names.ensures.fault free)))

pub returns-in_err-words-clause-only : goal.returns-in_err-words-clause-only
returns-in_err-words-clause-only c image is =
    let p = err_from_is_err_and c.from_residual-in_err-words.result c.from_residual-in_err-words.ensures.1 in
    rw (p.1, p.2) (only_memory c.args.source.now image c.in_err-words.field-0.0 is
    (λ free. second_round_fault c.args.source.now c.in_ok-names.field-0 c.in_err-words.field-0.0 c.in_ok-names.ensures.layout (rw c.deref.ensures.value at (c.in_err-words.ensures.fault free))))

pub returns-clause-only : goal.returns-clause-only
returns-clause-only c image is = one_image c.args.source.now c.new.result image (returns-clause-image c) is
