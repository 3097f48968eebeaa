use Rattle.std.proofs.Common.{◌∙◌, ◌<◌, ap, map, refl, subst, sym}
use Rattle.std.specs.List.{All}
use Rattle.std.specs.Option.{unwrap_or}
use Rattle.job_text.specs.Joins.{AreTexts}
use Rattle.job_text.proofs.OneJoin.{is_job, is_joined}
use Rattle.job_text.proofs.joining.joined.Goals as goal

pub new-requires : goal.new-requires
new-requires c =
    is_job c.args.shape c.args.images.now c.in_ok-cells.cells.items c.from_vec.result c.from_vec-2.result c.requires.shape c.requires.images c.in_ok-cells.ensures (c.from_vec.ensures ∙ c.in_ok-texts.ensures.texts)
    (subst AreTexts (sym c.from_vec.ensures) c.in_ok-texts.ensures.fit) (c.from_vec-2.ensures ∙ c.in_ok-start.ensures.cells ∙ ap (map (λ cell. unwrap_or cell 0)) c.deref-2.ensures.value)
    (subst (All (λ byte. byte < 256)) (sym c.from_vec-2.ensures) c.in_ok-start.ensures.bytes)

pub returns-clause-job : goal.returns-clause-job
returns-clause-job c =
    is_joined c.args.shape c.args.images.now c.in_default.ensures (c.in_default-first_difference.ensures.none refl) c.in_ok-cells.cells.items c.in_ok-cells.ensures c.from_vec.result c.from_vec-2.result c.new.result
    c.new.ensures (c.from_vec.ensures ∙ c.in_ok-texts.ensures.texts) (c.from_vec-2.ensures ∙ c.in_ok-start.ensures.cells ∙ ap (map (λ cell. unwrap_or cell 0)) c.deref-2.ensures.value)
