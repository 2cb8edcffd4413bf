use Rattle.std.proofs.Common.{◌≡◌, ◌≤◌}
use Rattle.convoy_branch.specs.Aims.{IsAbove}
use Rattle.convoy_branch.proofs.above.descend.Given as goal

abbrev pub invariant-loop : goal.invariant-loop
invariant-loop g l = record {
  origin_is : l.above.origin.now ≡ l.fn.origin;
  above : IsAbove l.above;
  rises : l.fn.found.best.latency ≤ l.above.best.latency;
}
