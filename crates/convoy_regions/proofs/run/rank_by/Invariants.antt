use Rattle.std.proofs.Common.{◌≡◌, ◌*◌, ◌≤◌}
use Rattle.std.specs.List.{range_with_len, sum_by}
use Rattle.convoy_regions.specs.Regions.{count_before}
use Rattle.convoy_regions.proofs.run.rank_by.Given as goal

abbrev pub invariant-loop-message : goal.invariant-loop-message
invariant-loop-message l = record {
  so_far : l.rank ≡ sum_by (count_before l.known l.stage) (range_with_len 0 l.message);
  few : l.rank ≤ 2 * l.message;
}
