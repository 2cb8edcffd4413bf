use Rattle.std.proofs.Common.{◌∙◌}
use Rattle.convoy_intervals.proofs.Halves.{IsBox-copies}
use Rattle.convoy_intervals.proofs.delay_box.DelayBox.halves.Goals as goal

pub returns-in-Ok-clause-are_boxes : goal.returns-in-Ok-clause-are_boxes
returns-in-Ok-clause-are_boxes c plan box =
    IsBox-copies plan c.args.self _ _ c.range-least.result c.args.packet c.args.at c.lower.view_is (c.upper.view_is ∙ c.in-Ok.ensures) c.range-least.ensures.value c.requires.place c.requires.low c.requires.high box
