use Rattle.std.proofs.Common.{◌≡◌, ◌≤◌}
use Rattle.convoy_share.proofs.searching.search_from.Given as goal

abbrev pub invariant-loop-pass : goal.invariant-loop-pass
invariant-loop-pass g l = record {
  of_scenario : l.begun.scenario ≡ l.instance;
  risen : l.fn.opening.latency ≤ l.begun.latency;
}
