use Rattle.std.proofs.Common.{◌+◌, ◌*◌, ◌-◌, ◌≤◌, length}
use Rattle.convoy_branch.specs.Searching.{IsSearching}
use Rattle.convoy_branch.proofs.search.search_over.Given as goal

abbrev pub invariant-loop-work : goal.invariant-loop-work
invariant-loop-work g l = record {
  searching : IsSearching l.bounds l.origin l.search.best l.search.work.items l.search.nodes.items l.search.tickets;
  few : l.search.tickets ≤ l.limit.tickets;
  opened : l.fn.opening.latency ≤ l.search.best.latency;
}

abbrev pub decreases-loop-work : goal.decreases-loop-work
decreases-loop-work g l = 3 * (l.limit.tickets - l.search.tickets) + length l.search.work.items
