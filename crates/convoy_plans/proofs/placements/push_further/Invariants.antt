use Rattle.std.proofs.Common.{◌≡◌, ◌++◌, map, take}
use Rattle.convoy_plans.specs.Placements.{further_clients, further_spot}
use Rattle.convoy_plans.proofs.placements.push_further.Given as goal

abbrev pub invariant-loop-site : goal.invariant-loop-site
invariant-loop-site l =
    record {
      here : l.site-items ≡ further_clients l.plan;
      made : l.all.items ≡ l.initial.all.items ++ map (further_spot l.plan) (take l.site-index l.site-items);
    }
