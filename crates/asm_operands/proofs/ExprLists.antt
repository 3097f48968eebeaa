-- Taking expressions one by one gives the list that is defined.
use Rattle.std.proofs.Common.{◌≡◌, ℕ, zero, suc, ◌+◌, ◌-◌, ◌<◌, ◌≤◌, List, [], ◌∷◌, ◌++◌, length, refl, sym, ap, subst, ◌∙◌, arith, length-append}
use Rattle.asm_operands.specs.Operands.{Lexeme, Took, Taken, Stuck, then_take, Expr, take_expr, take_next, take_more, take_exprs}
use Rattle.asm_operands.proofs.Shorter.{LeavesBelow, below_expr, below_next}

-- these expressions were found so far, and these tokens are left
pub record GoesOn (xs : List Lexeme) (found : List Expr) (left : List Lexeme) : Type 0 where
  pub more : take_more (length xs + 1 - length found) found left ≡ take_exprs xs
  pub room : length left + length found ≤ length xs + 1

pub begins : (xs : List Lexeme) (expr : Expr) (rest : List Lexeme) → take_expr xs ≡ Taken expr rest → GoesOn xs (expr ∷ []) rest
unfolding take_exprs
begins xs expr rest took =
    let fewer : length rest < length xs = subst (LeavesBelow (length xs)) took (below_expr xs) in
    let count : length xs + 1 - 1 ≡ length xs = omega arith in
    record {
      more = rw (took, count) refl;
      room = omega arith;
    }

pub misfits : (xs left : List Lexeme) → take_expr xs ≡ Stuck left → take_exprs xs ≡ Stuck left
unfolding take_exprs
misfits xs left stuck = rw stuck refl

step : (most : ℕ) (found : List Expr) (left : List Lexeme) → 0 < length left → length left ≤ most → take_more most found left ≡ then_take (take_next take_expr left) (λ expr rest. take_more (most - 1) (found ++ expr ∷ []) rest)
unfolding take_more
step most found [] some fits = absurd (omega arith)
step zero found (x ∷ xs) some fits = absurd (omega arith)
step (suc most) found (x ∷ xs) some fits =
    let less : suc most - 1 ≡ most = omega arith in
    rw less refl

pub fewer : (left rest : List Lexeme) (expr : Expr) → take_next take_expr left ≡ Taken expr rest → length rest < length left
fewer left rest expr took = subst (LeavesBelow (length left)) took (below_next left)

-- one more
pub goes : (xs left rest : List Lexeme) (found : List Expr) (expr : Expr) → GoesOn xs found left → 0 < length left → take_next take_expr left ≡ Taken expr rest → GoesOn xs (found ++ expr ∷ []) rest
goes xs left rest found expr before some took =
    let most = length xs + 1 - length found in
    let room = before.room in
    let less = fewer left rest expr took in
    let size : length (found ++ expr ∷ []) ≡ length found + 1 = length-append found (expr ∷ []) in
    let count : length xs + 1 - length (found ++ expr ∷ []) ≡ most - 1 = omega arith in
    let one : take_more most found left ≡ take_more (most - 1) (found ++ expr ∷ []) rest =
    step most found left some (omega arith) ∙ ap (λ (t : Took Expr). then_take t (λ expr rest. take_more (most - 1) (found ++ expr ∷ []) rest)) took in
    record { more = rw count (sym one ∙ before.more); room = omega arith }

pub goes_wrong : (xs left rest : List Lexeme) (found : List Expr) → GoesOn xs found left → 0 < length left → take_next take_expr left ≡ Stuck rest → take_exprs xs ≡ Stuck rest
goes_wrong xs left rest found before some stuck =
    let most = length xs + 1 - length found in
    let room = before.room in
    sym before.more ∙ step most found left some (omega arith) ∙ ap (λ (t : Took Expr). then_take t (λ expr rest. take_more (most - 1) (found ++ expr ∷ []) rest)) stuck

none_left : (most : ℕ) (found : List Expr) (left : List Lexeme) → length left ≡ 0 → take_more most found left ≡ Taken found []
unfolding take_more
none_left zero found [] none = refl
none_left (suc most) found [] none = refl
none_left most found (x ∷ xs) none = absurd (omega arith)

pub is_done : (xs left : List Lexeme) (found : List Expr) → GoesOn xs found left → length left ≡ 0 → take_exprs xs ≡ Taken found []
is_done xs left found before none = sym before.more ∙ none_left (length xs + 1 - length found) found left none
