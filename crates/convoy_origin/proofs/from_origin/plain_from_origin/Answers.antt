use Rattle.std.proofs.Common.{rules, ap, ◌∙◌}
use Rattle.convoy_intervals.specs.Bounds.{plain_bound}
use Rattle.convoy_origin.specs.FromOrigin.{plain_from_origin}
use Rattle.convoy_origin.proofs.FromIssue.{plain_from_issue}
use Rattle.convoy_origin.proofs.from_origin.plain_from_origin.Goals as goal

pub returns-in_default : goal.returns-in_default
returns-in_default c =
    c.bound.ensures.value ∙ ap (λ s. plain_bound s c.args.delay_box.now) c.instance.ensures.value
    ∙ plain_from_issue c.from_origin_is_from_issue.ensures c.args.origin.now c.args.delay_box.now c.in_default.ensures.none c.moved.ensures.lawful c.requires.inside

pub returns : goal.returns
unfolding plain_from_origin
returns c = search rules
