use Rattle.convoy_stamps.specs.StampBounds.{stamp_bound}
use Rattle.convoy_scenario.specs.Widened.{widened}
use Rattle.convoy_origin.specs.WidenedBoxes.{widened_box}
use Rattle.convoy_origin.proofs.widened_laws.stamp_bound_of_widened.Goals as goal

pub returns : goal.returns
returns c scenario region is inside =
    c.closed_by_widened.ensures scenario region (stamp_bound (widened scenario) (widened_box scenario region.ranges)) is.addressed inside
    (λ schedule given member. c.stamp_bound_holds.ensures (widened scenario) (widened_box scenario region.ranges) schedule (c.widened_is_scenario.ensures scenario is) member.0)
