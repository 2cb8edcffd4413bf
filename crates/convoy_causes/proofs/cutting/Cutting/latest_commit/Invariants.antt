use Rattle.std.proofs.Common.{◌≡◌, ◌+◌, ◌≤◌, map, take}
use Rattle.convoy_sim.specs.Times.{greatest}
use Rattle.convoy_sure.specs.Windows.{tables_by}
use Rattle.convoy_causes.proofs.cutting.Cutting.latest_commit.Given as goal

abbrev pub invariant-loop-from : goal.invariant-loop-from
invariant-loop-from l =
    let tables = tables_by l.windows in
    record {
      value : l.last ≡ greatest (map (λ h. tables.times.greatest_arrival l.message h + tables.greatest_proposal l.message h l.group) (take l.from-index l.from-items));
      fits : l.last ≤ 1196605;
    }
