use Rattle.std.proofs.Common.{◌≡◌, flat_map, take}
use Rattle.convoy_plans.specs.Placements.{links_from, spots}
use Rattle.convoy_plans.proofs.placements.links_at.Given as goal

abbrev pub invariant-loop-spot : goal.invariant-loop-spot
invariant-loop-spot l =
    record {
      here : l.spot-items ≡ spots l.plan l.placement;
      made : l.links.items ≡ flat_map (links_from l.plan l.placement) (take l.spot-index l.spot-items);
    }
