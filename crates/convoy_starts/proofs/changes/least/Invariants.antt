use Rattle.std.proofs.Common.{ℕ, ◌<◌, ◌≤◌, get_or}
use Rattle.convoy_starts.proofs.changes.least.Given as goal

abbrev pub invariant-loop-tick : goal.invariant-loop-tick
invariant-loop-tick l =
    record {
      within : l.first ≤ l.end;
      least : (k : ℕ) → k < l.tick-index → l.first ≤ get_or l.ticks k 0;
      low : (low : ℕ) → low ≤ l.end → ((k : ℕ) → k < l.tick-index → low ≤ get_or l.ticks k 0) → low ≤ l.first;
    }
