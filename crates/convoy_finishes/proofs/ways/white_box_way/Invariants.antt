use Rattle.std.proofs.Common.{◌≡◌, ◌≤◌, map, take}
use Rattle.convoy_sim.specs.Times.{greatest}
use Rattle.convoy_finishes.specs.WhiteBox.{way_by}
use Rattle.convoy_finishes.proofs.ways.white_box_way.Given as goal

abbrev pub invariant-loop-by : goal.invariant-loop-by
invariant-loop-by l = record {
  value : l.longest ≡ greatest (map (way_by l.scenario l.replicas l.group) (take l.by-index l.by-items));
  fits : l.longest ≤ 131070;
}
