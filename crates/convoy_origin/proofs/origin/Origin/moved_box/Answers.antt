use Rattle.std.proofs.Common.{◌≡◌, rules, sym, subst}
use Rattle.convoy_packets.proofs.Sent.{found_if_sent}
use Rattle.convoy_intervals.specs.Boxes.{IsBox}
use Rattle.convoy_scenario.specs.Widened.{widened}
use Rattle.convoy_origin.specs.WidenedBoxes.{widened_box}
use Rattle.convoy_origin.proofs.MovedRanges.{all_moved, one_moved}
use Rattle.convoy_origin.proofs.PacketDelays.{sent_at_place}
use Rattle.convoy_origin.proofs.WidenedBoxes.{box_widens}
use Rattle.convoy_origin.proofs.origin.Origin.moved_box.Goals as goal

pub moved_range-range-requires-clause-sent : goal.moved_range-range-requires-clause-sent
moved_range-range-requires-clause-sent c =
    sent_at_place found_if_sent (widened c.self.inside.instance.now) c.packet.result c.loop-place.place (search rules)

pub loop-place-preserved : goal.loop-place-preserved
loop-place-preserved c =
    rw c.replace.ensures.replaced (one_moved c.args.self.now c.args.delay_box.now c.loop-place.wide c.loop-place.place c.packet.result c.moved_range-range.result (search rules) (search rules)
    c.loop-place.invariant)

is_widened_box : (c : goal.After-loop-place) → c.loop-place.wide ≡ widened_box c.args.self.now c.args.delay_box.now
is_widened_box c =
    all_moved c.args.self.now c.args.delay_box.now c.loop-place.wide c.loop-place.place (search rules) c.loop-place.invariant

pub returns-clause-value : goal.returns-clause-value
returns-clause-value c = is_widened_box c

pub returns-clause-inside : goal.returns-clause-inside
returns-clause-inside c =
    subst (IsBox (widened c.args.self.now)) (sym (is_widened_box c)) (box_widens c.args.self.now c.args.delay_box.now c.requires.inside)
