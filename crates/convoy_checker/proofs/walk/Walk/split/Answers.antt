use Rattle.std.proofs.Common.{ap, ◌∙◌}
use Rattle.convoy_intervals.specs.Boxes.{range_at}
use Rattle.convoy_checker.proofs.OpenRegions.{split_lawful, split_regions}
use Rattle.convoy_checker.proofs.walk.Walk.split.Goals as goal

pub returns : goal.returns
returns c =
    split_regions c.self.inside.stands c.self.inside.current _ c.self.inside.changes.items _ _ _ c.args.packet c.args.at _ c.range-least.result c.self.view_is c.requires c.from.ensures (c.range-least.ensures.value ∙ ap (λ ranges. range_at ranges c.from.result) c.delay_box.ensures) c.in_ok-push.ensures.items c.in_ok-push-2.ensures.items c.change.ensures

pub invariant_of-self-2 : goal.invariant_of-self-2
invariant_of-self-2 c =
    split_lawful c.self.inside.stands c.self.inside.current _ c.self.inside.changes.items _ _ _ c.args.packet c.args.at _ c.range-least.result c.self.invariant c.self.view_is c.requires c.from.ensures (c.range-least.ensures.value ∙ ap (λ ranges. range_at ranges c.from.result) c.delay_box.ensures) c.in_ok-push.ensures.items c.in_ok-push-2.ensures.items c.change.ensures
