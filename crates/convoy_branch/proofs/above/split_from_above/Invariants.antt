use Rattle.std.proofs.Common.{◌≡◌, ◌≤◌}
use Rattle.convoy_branch.proofs.above.split_from_above.Given as goal

abbrev pub invariant-loop-descent : goal.invariant-loop-descent
invariant-loop-descent g l = record {
  of_scenario : l.found.best.scenario ≡ l.instance;
  rises : l.fn.known.latency ≤ l.found.best.latency;
}
