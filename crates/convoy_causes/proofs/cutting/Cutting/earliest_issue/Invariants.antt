use Rattle.std.proofs.Common.{◌≡◌, ◌-◌, ◌≤◌, map, take}
use Rattle.convoy_sim.specs.Times.{greatest}
use Rattle.convoy_sure.specs.Windows.{tables_by}
use Rattle.convoy_causes.proofs.cutting.Cutting.earliest_issue.Given as goal

abbrev pub invariant-loop-to : goal.invariant-loop-to
invariant-loop-to l =
    let tables = tables_by l.windows in
    record {
      value : l.first ≡ greatest (map (λ g. tables.times.least_arrival l.message g - tables.greatest_multicast l.message g) (take l.to-index l.to-items));
      fits : l.first ≤ 1131070;
    }
