use Rattle.std.proofs.Common.{◌≡◌, ℕ, ◌<◌, get_or}
use Rattle.convoy_sim.specs.Moments.{next_arrival}
use Rattle.convoy_starts.specs.Starts.{Start}
use Rattle.convoy_starts.specs.Changes.{IsNotSkipped}
use Rattle.convoy_starts.proofs.changes.next_start.Given as goal

abbrev pub invariant-loop-start : goal.invariant-loop-start
invariant-loop-start l =
    let since : Start → ℕ = λ s. next_arrival l.time s.at in
    record {
      past : l.by < l.next;
      first : (k : ℕ) (start : Start) → k < l.start-index → (get_or l.starts k start).group ≡ l.group → IsNotSkipped l.by l.next (since (get_or l.starts k start));
      second : (k : ℕ) (start : Start) → k < l.start-index → (get_or l.starts k start).group ≡ l.group
          → IsNotSkipped l.by l.next (next_arrival l.time (since (get_or l.starts k start)));
    }
