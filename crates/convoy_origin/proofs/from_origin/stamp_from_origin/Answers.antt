use Rattle.std.proofs.Common.{rules, ap, ◌∙◌}
use Rattle.std.proofs.lemmas.Result.{IfOk-weaker}
use Rattle.convoy_stamps.specs.StampBounds.{stamp_bound}
use Rattle.convoy_origin.specs.FromOrigin.{stamp_from_origin}
use Rattle.convoy_origin.proofs.FromIssue.{stamp_from_issue}
use Rattle.convoy_origin.proofs.from_origin.stamp_from_origin.Goals as goal

pub returns-in_default : goal.returns-in_default
returns-in_default c =
    let same = ap (λ s. stamp_bound s c.args.delay_box.now) c.instance.ensures.value
    ∙ stamp_from_issue c.from_origin_is_from_issue.ensures c.args.origin.now c.args.delay_box.now c.in_default.ensures.none c.moved.ensures.lawful c.requires.inside in
    IfOk-weaker c.stamp_bound.result _ _ (λ bound value. value ∙ same) c.stamp_bound.ensures.value

pub returns : goal.returns
unfolding stamp_from_origin
returns c = search rules
