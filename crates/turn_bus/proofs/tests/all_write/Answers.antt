use Rattle.std.proofs.Common.{rules, ◌≡◌, ◌≤◌, ◌<◌, ◌^◌, List, [], ◌∷◌, ℕ, length, replicate, sym, ◌∙◌, subst, arith}
use Rattle.std.specs.List.{All}
use Rattle.std.proofs.lemmas.List.Elements.{All-replicate, All-cons, All-nil}
use Rattle.pmsi_model.specs.declared.limits.TheConstants.{MAX_TEXT_WORDS}
use Rattle.turn_bus.proofs.tests.all_write.Goals as goal

all_three : (P : List ℕ → Type 0) (a b d : List ℕ) → P a → P b → P d → All P (a ∷ b ∷ d ∷ [])
all_three P a b d first second third = All-cons P a (b ∷ d ∷ []) first (All-cons P b (d ∷ []) second (All-cons P d [] third (All-nil P)))

pub new-requires : goal.new-requires
new-requires g c =
    let zeros : c.in_ok-start.start.items ≡ replicate 64 0 = search rules in
    let texts = sym (c.from_vec.ensures ∙ c.in_ok-texts.ensures.items) in
    let short = (λ (text : List ℕ). length text ≤ MAX_TEXT_WORDS) in
    let are_words = (λ (text : List ℕ). All (λ word. word < 2 ^ 32) text) in record {
      shape = search rules;
      texts = search rules;
      text_words = subst (All short) texts (all_three short _ _ _ c.in_ok-text.ensures.size c.in_ok-text-2.ensures.size c.in_ok-text-3.ensures.size);
      words = subst (All are_words) texts (all_three are_words _ _ _ c.in_ok-text.ensures.words c.in_ok-text-2.ensures.words c.in_ok-text-3.ensures.words);
      start = search rules;
      bytes = subst (All (λ byte. byte < 256)) (sym (c.from_vec-2.ensures ∙ zeros)) (All-replicate (λ byte. byte < 256) 64 0 (omega arith));
    }
