use Rattle.std.proofs.Common.{length}
use Rattle.convoy_intervals.specs.Spans.{AreAllSpans, AreArrivals, AreOthersKept, AreSettlings}
use Rattle.convoy_intervals.proofs.spans.write_message.Given as goal

abbrev pub invariant-loop-group : goal.invariant-loop-group
invariant-loop-group l = record {
  arrivals : AreArrivals l.instance l.delay_box l.spans l.message (length l.instance.groups);
  settlings : AreSettlings l.instance l.delay_box l.spans l.message l.group;
  others : AreOthersKept l.instance l.message l.fn.spans l.spans;
  all : AreAllSpans l.instance l.spans;
}
