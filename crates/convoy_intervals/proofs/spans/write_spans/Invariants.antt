use Rattle.std.proofs.Common.{ℕ, ◌<◌, length}
use Rattle.convoy_intervals.specs.Spans.{AreAllSpans, AreArrivals, AreSettlings}
use Rattle.convoy_intervals.proofs.spans.write_spans.Given as goal

abbrev pub invariant-loop-message : goal.invariant-loop-message
invariant-loop-message l = record {
  all : AreAllSpans l.instance l.spans;
  arrivals : (m : ℕ) → m < l.message → AreArrivals l.instance l.delay_box l.spans m (length l.instance.groups);
  settlings : (m : ℕ) → m < l.message → AreSettlings l.instance l.delay_box l.spans m (length l.instance.groups);
}
