use Rattle.convoy_intervals.specs.Boxes.{IsBox}
use Rattle.convoy_intervals.proofs.TrackedBoxes.{stands_in_table, narrower_box, narrower_spans}
use Rattle.convoy_intervals.proofs.tracked.Tracked.with_range.Goals as goal
use Rattle.convoy_intervals.proofs.tracked.Tracked.with_range.Goals.{After-replace}

pub packet-requires : goal.packet-requires
packet-requires c =
    stands_in_table c.args.instance.now _ c.args.self c.self.inside.spans.items c.self.inside.bound c.self.invariant c.self.view_is c.requires.of_scenario c.args.packet c.requires.place c.table.result.now c.table.ensures.value

box : (c : After-replace) → IsBox c.args.instance.now c.replace.new.self
box c =
    narrower_box c.args.instance.now _ c.args.self c.self.inside.spans.items c.self.inside.bound c.self.invariant c.self.view_is c.requires.of_scenario c.args.packet c.requires.place c.args.range c.replace.new.self c.replace.ensures.replaced c.requires.holds c.requires.low c.requires.high

pub follow_packet-requires-clause-inside : goal.follow_packet-requires-clause-inside
follow_packet-requires-clause-inside c = box (goal.at.follow_packet-requires-clause-inside c).After-replace

pub of-requires-clause-inside : goal.of-requires-clause-inside
of-requires-clause-inside c = box (goal.at.of-requires-clause-inside c).After-replace

pub follow_packet-requires-clause-but : goal.follow_packet-requires-clause-but
follow_packet-requires-clause-but c =
    narrower_spans c.args.instance.now _ c.args.self c.self.inside.spans.items c.self.inside.bound c.self.invariant c.self.view_is c.requires.of_scenario c.args.packet c.requires.place c.args.range c.replace.new.self c.replace.ensures.replaced c.deref_mut.result.now c.packet.result c.table.result.now c.spans_are_carried.ensures c.table.ensures.value c.packet.ensures c.deref_mut.ensures.value
