use Rattle.std.proofs.Common.{◌≡◌, ◌<◌, ◌^◌, drop}
use Rattle.script_text.specs.Script.{spelt_in}
use Rattle.script_text.proofs.Spellings.{spelt_after}
use Rattle.script_text.proofs.numbers.spelt_in.Given as goal

abbrev pub invariant-loop-byte : goal.invariant-loop-byte
invariant-loop-byte l = record {
  read : spelt_in l.base l.digits ≡ spelt_after l.base l.value (drop l.byte-index l.digits);
  small : l.value < 2 ^ 32;
}
