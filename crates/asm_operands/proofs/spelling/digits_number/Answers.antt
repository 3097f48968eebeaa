use Rattle.std.proofs.Common.{arith}
use Rattle.std.proofs.lemmas.Bool.Decides.{nat_tests}
use Rattle.asm_operands.proofs.Digits.{digits_number-sign, digits_number-read}
use Rattle.asm_operands.proofs.spelling.digits_number.Goals as goal

pub returns-then-starts_with-clause-none : goal.returns-then-starts_with-clause-none
returns-then-starts_with-clause-none c =
    let sign = c.starts_with.ensures.byte (omega arith) (omega arith) (λ _ _ h. h) in
    digits_number-sign c.args.base c.args.digits.now c.requires.1 (grind (arith, nat_tests))

pub returns-clause-number : goal.returns-clause-number
returns-clause-number c =
    let sign = c.starts_with.ensures.byte (omega arith) (omega arith) (λ _ _ h. h) in
    rw (c.ok.ensures.value) (digits_number-read c.args.base c.args.digits.now c.from_str_radix.result c.requires.1 (grind (arith, nat_tests)) c.from_str_radix.ensures.value).0

pub returns-clause-none : goal.returns-clause-none
returns-clause-none c =
    let sign = c.starts_with.ensures.byte (omega arith) (omega arith) (λ _ _ h. h) in
    rw (c.ok.ensures.value) (digits_number-read c.args.base c.args.digits.now c.from_str_radix.result c.requires.1 (grind (arith, nat_tests)) c.from_str_radix.ensures.value).1
