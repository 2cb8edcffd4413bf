use Rattle.std.proofs.Common.{ap, ap₂}
use Rattle.convoy_scenario.specs.Scenario.{Scenario}
use Rattle.convoy_intervals.specs.Bounds.{plain_bound}
use Rattle.convoy_stamps.specs.StampBounds.{stamp_bound}
use Rattle.convoy_regions.specs.Regions.{Region}
use Rattle.convoy_narrowing.specs.Narrowing.{closes_region}
use Rattle.convoy_origin.specs.FromOrigin.{closes_from_origin, plain_from_origin, stamp_from_origin}
use Rattle.convoy_origin.proofs.from_origin_laws.from_origin_is_from_issue.Goals as goal

pub returns : goal.returns
unfolding plain_from_origin stamp_from_origin closes_from_origin
returns c scenario region none is inside =
    let same = c.widened_is_itself.ensures scenario none in
    let kept = c.widened_region_is_itself.ensures scenario region none is inside in
    let box = ap (λ (r : Region). r.ranges) kept in
    record {
      plain = ap₂ plain_bound same box;
      stamp = ap₂ stamp_bound same box;
      leads = λ latency. ap₂ (λ (s : Scenario) (r : Region). closes_region s r latency) same kept;
    }
