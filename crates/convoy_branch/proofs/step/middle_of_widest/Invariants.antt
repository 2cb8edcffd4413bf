use Rattle.std.proofs.Common.{◌≡◌, ℕ, ◌+◌, ◌<◌, ◌≤◌, length}
use Rattle.convoy_intervals.specs.Boxes.{range_at}
use Rattle.convoy_branch.proofs.step.middle_of_widest.Given as goal

abbrev pub invariant-loop-packet : goal.invariant-loop-packet
invariant-loop-packet l = record {
  widest : 0 < l.width → (l.widest < length l.branch) × ((range_at l.branch l.widest).1 ≡ (range_at l.branch l.widest).0 + l.width);
  passed : (k : ℕ) → k < l.packet → ((range_at l.branch k).0 ≤ (range_at l.branch k).1) × ((range_at l.branch k).1 ≤ (range_at l.branch k).0 + l.width);
}
