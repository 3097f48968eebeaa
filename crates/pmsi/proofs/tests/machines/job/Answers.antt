use Rattle.std.proofs.Common.{rules, ◌≡◌, ◌≤◌, ◌<◌, ◌^◌, length, replicate, sym, ◌∙◌, subst, arith}
use Rattle.std.specs.List.{All}
use Rattle.std.proofs.lemmas.List.Elements.{All-replicate}
use Rattle.pmsi_model.specs.declared.limits.TheConstants.{MAX_TEXT_WORDS}
use Rattle.pmsi.proofs.tests.machines.job.Goals as goal

pub new-requires : goal.new-requires
new-requires g c =
    let zeros : c.in_ok-start.start.items ≡ replicate c.args.shape.memory 0 = search rules in record {
      shape = search rules;
      texts = search rules;
      text_words = subst (All (λ text. length text ≤ MAX_TEXT_WORDS)) (sym c.from_vec.ensures) c.requires.sizes;
      words = subst (All (λ text. All (λ word. word < 2 ^ 32) text)) (sym c.from_vec.ensures) c.requires.words;
      start = search rules;
      bytes = subst (All (λ byte. byte < 256)) (sym (c.from_vec-2.ensures ∙ zeros)) (All-replicate (λ byte. byte < 256) c.args.shape.memory 0 (omega arith));
    }
