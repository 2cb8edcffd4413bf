use Rattle.convoy_intervals.specs.Bounds.{plain_bound}
use Rattle.convoy_scenario.specs.Widened.{widened}
use Rattle.convoy_origin.specs.WidenedBoxes.{widened_box}
use Rattle.convoy_origin.proofs.widened_laws.plain_bound_of_widened.Goals as goal

pub returns : goal.returns
returns c scenario region is inside =
    c.closed_by_widened.ensures scenario region (plain_bound (widened scenario) (widened_box scenario region.ranges)) is.addressed inside
    (λ schedule given member. c.plain_bound_holds.ensures (widened scenario) (widened_box scenario region.ranges) schedule (c.widened_is_scenario.ensures scenario is) member.0)
