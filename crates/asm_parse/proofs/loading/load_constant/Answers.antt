use Rattle.std.proofs.Common.{◌≡◌, ◌%◌, ◌==◌, false, w64, FitsSigned, rules, arith}
use Rattle.std.proofs.lemmas.Int.{to_z-of_z}
use Rattle.std.specs.Int.{w32, cast_signed}
use Rattle.pmsi_model.specs.Words.{word_of}
use Rattle.asm_parse.specs.Mnemonics.{is_imm_12}
use Rattle.asm_parse.proofs.Constants.{loads_both, same_word}
use Rattle.asm_parse.proofs.loading.load_constant.Goals as goal

pub returns-else-word-eq0-clause-loaded : goal.returns-else-word-eq0-clause-loaded
returns-else-word-eq0-clause-loaded c = λ h.
    let same = same_word c.args.constant h in
    let wide : is_imm_12 (cast_signed w32 (word_of c.args.constant)) ≡ false = rw same (grind arith) in
    let both : (word_of c.args.constant % 4096 == 0) ≡ false = rw same (grind arith) in
    let kept = to_z-of_z w64 c.args.constant c.ranges.constant in
    let high = rw kept at c.high_part.ensures in
    let low = rw kept at c.low_part.ensures in
    let fits : FitsSigned w32 c.low_part.result = search rules in
    let addi = rw (to_z-of_z w32 c.low_part.result fits) at c.addi-else-word-eq0.ensures in
    loads_both _ _ _ _ _ h wide both high low addi
