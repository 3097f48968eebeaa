use Rattle.std.proofs.Common.{◌≡◌, ℕ, List, ◌++◌, ◌∷◌, [], lit<, subst}
use Rattle.std.specs.Prelude.{MatchOption, ◌≢◌}
use Rattle.std.proofs.lemmas.Str.Pattern.{strip_suffix_char}
use lib.Utf8.{encode}
use Rattle.text_out.proofs.LineCuts.{stripped, kept}
use Rattle.text_out.proofs.lines.without_return.Goals as goal

pub returns-in-Some : goal.returns-in-Some
returns-in-Some c = stripped c.args.line.now c.in-Some.line.now
    (subst (λ r. MatchOption r ((front : List ℕ) → c.args.line.now ≢ front ++ 13 ∷ []) (λ x. c.args.line.now ≡ x.now ++ 13 ∷ [])) c.in-Some.is (strip_suffix_char 13 c.args.line.now c.strip_suffix.result c.strip_suffix.ensures.cases (lit< tt)))

pub returns-in-None : goal.returns-in-None
unfolding encode
returns-in-None c = kept c.args.line.now c.in-None.ensures.cases
