use Rattle.std.proofs.Common.{◌≡◌, ◌++◌, map, take}
use Rattle.convoy_plans.specs.Placements.{further_clients}
use Rattle.convoy_plans.specs.Plans.{site_name}
use Rattle.convoy_plans.proofs.placements.groups_in.Given as goal

abbrev pub invariant-loop-site : goal.invariant-loop-site
invariant-loop-site l =
    record {
      here : l.site-items ≡ further_clients l.plan;
      made : l.groups.items ≡ l.plan.written.groups ++ map (site_name l.plan) (take l.site-index l.site-items);
    }
