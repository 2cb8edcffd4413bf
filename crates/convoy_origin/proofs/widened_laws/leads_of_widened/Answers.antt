use Rattle.convoy_scenario.specs.Widened.{widened}
use Rattle.convoy_origin.specs.WidenedRegions.{widened_region}
use Rattle.convoy_origin.proofs.widened_laws.leads_of_widened.Goals as goal

pub returns : goal.returns
returns c scenario region latency is inside closes =
    c.closed_by_widened.ensures scenario region latency is.addressed inside
    (λ schedule given member. c.closed_region_holds.ensures (widened scenario) (widened_region scenario region) schedule latency
    (c.widened_is_scenario.ensures scenario is) (c.regions_widen.ensures scenario region inside) member given closes)
