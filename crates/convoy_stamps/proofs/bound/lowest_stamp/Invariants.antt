use Rattle.std.proofs.Common.{◌≡◌, ◌+◌, ◌≤◌, length, filter}
use Rattle.std.specs.List.{range_with_len}
use Rattle.convoy_stamps.specs.Spans.{is_sure_before}
use Rattle.convoy_stamps.proofs.bound.lowest_stamp.Given as goal

abbrev pub invariant-loop-other : goal.invariant-loop-other
invariant-loop-other l = record {
  count : l.time ≡ 1 + length (filter (is_sure_before l.spans l.message) (range_with_len 0 l.other));
  few : l.time ≤ 1 + l.other;
}
