-- One more core's line.
use Rattle.std.proofs.Common.{◌≡◌, ℕ, ◌+◌, ◌<◌, List, [], ◌∷◌, ◌++◌, length, take, get_or, sym, ◌∙◌, ap, arith, append_assoc, append-nil, length-take}
use Rattle.std.proofs.lemmas.List.{take_more}
use Rattle.job_text.specs.declared.plan.Program.{Program}
use Rattle.job_text.specs.Plans.{core_line, core_lines}

core_lines_push : (start : ℕ) (programs : List Program) (program : Program) (core : ℕ) → core ≡ start + length programs → core_lines start (programs ++ program ∷ []) ≡ core_lines start programs ++ core_line core program
unfolding core_lines
core_lines_push start [] program core e = let same : core ≡ start = omega arith in rw same (append-nil (core_line start program))
core_lines_push start (first ∷ programs) program core e =
    ap (λ text. core_line start first ++ text) (core_lines_push (start + 1) programs program core (omega arith)) ∙ sym (append_assoc (core_line start first) (core_lines (start + 1) programs) (core_line core program))

pub more_cores : (out before now : List ℕ) (programs : List Program) (program : Program) (i core : ℕ) → i < length programs → program ≡ get_or programs i program → core ≡ i
    → before ≡ out ++ core_lines 0 (take i programs) → now ≡ before ++ core_line core program → now ≡ out ++ core_lines 0 (take (i + 1) programs)
more_cores out before now programs program i core low is e text pushed =
    let cut : take (i + 1) programs ≡ take i programs ++ get_or programs i program ∷ [] = take_more programs i program low in
    let here : take (i + 1) programs ≡ take i programs ++ program ∷ [] = cut ∙ ap (λ p. take i programs ++ p ∷ []) (sym is) in
    let number : core ≡ 0 + length (take i programs) = omega (arith, length-take i programs) in
    pushed ∙ ap (λ t. t ++ core_line core program) text ∙ append_assoc out (core_lines 0 (take i programs)) (core_line core program)
    ∙ ap (λ t. out ++ t) (sym (ap (core_lines 0) here ∙ core_lines_push 0 (take i programs) program core number))
