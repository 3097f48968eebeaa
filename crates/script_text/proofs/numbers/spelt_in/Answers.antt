use Rattle.std.proofs.Common.{◌≡◌, ◌∙◌, length, None, sym, arith, rules}
use Rattle.std.proofs.lemmas.Bool.{eqb-true, eqb-false}
use Rattle.script_text.proofs.Spellings.{begins, no_digits, further, past, ends}
use Rattle.script_text.proofs.numbers.spelt_in.Goals as goal

pub returns-then-is_empty : goal.returns-then-is_empty
returns-then-is_empty c = sym (no_digits c.args.base c.args.digits.now (eqb-true (length c.args.digits.now) 0 (sym c.if-is_empty.ensures)))

pub loop-byte-init : goal.loop-byte-init
loop-byte-init c = record {
  read = begins c.args.base c.args.digits.now (omega (arith, eqb-false (length c.args.digits.now) 0 (sym c.if-is_empty.ensures)));
  small = omega arith;
}

pub loop-byte-preserved : goal.loop-byte-preserved
loop-byte-preserved c = record {
  read = c.loop-byte.invariant.read
      ∙ further c.args.base c.loop-byte.value c.in_ok-value.value c.args.digits.now c.loop-byte.byte-index c.loop-byte-test.true c.in_ok-value.ensures.digit.0 c.in_ok-value.ensures.digit.1;
  small = c.in_ok-value.ensures.small;
}

pub returns-in_err-value : goal.returns-in_err-value
returns-in_err-value c =
    let none : c.from_residual.result ≡ None = search rules in
    none ∙ sym (c.loop-byte.invariant.read ∙ past c.args.base c.loop-byte.value c.args.digits.now c.loop-byte.byte-index (omega arith) c.loop-byte-test.true c.in_err-value.ensures.none)

pub returns : goal.returns
returns c = sym (c.loop-byte.invariant.read ∙ ends c.args.base c.loop-byte.value c.args.digits.now c.loop-byte.byte-index (omega arith) c.loop-byte.invariant.small)
