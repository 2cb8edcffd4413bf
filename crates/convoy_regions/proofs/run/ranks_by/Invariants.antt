use Rattle.std.proofs.Common.{◌≡◌, map, take}
use Rattle.convoy_packets.specs.OrderLists.{AreSmall}
use Rattle.convoy_regions.specs.Regions.{rank_by}
use Rattle.convoy_regions.proofs.run.ranks_by.Given as goal

abbrev pub invariant-loop-stage : goal.invariant-loop-stage
invariant-loop-stage l = record {
  so_far : l.ranks.items ≡ map (rank_by l.known) (take l.stage-index l.stage-items);
  small : AreSmall l.ranks.items;
}
