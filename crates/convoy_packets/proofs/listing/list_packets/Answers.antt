use Rattle.std.proofs.Common.{◌≡◌, arith, append_assoc, ◌∙◌}
use Rattle.convoy_scenario.specs.Scenario.{no_message}
use Rattle.convoy_packets.specs.Packets.{message_packets, packets_of}
use Rattle.convoy_packets.proofs.Listed.{packets_within, length-packets_of-le}
use Rattle.convoy_packets.proofs.Lists.{flat_map_numbered_more, flat_map_numbered_all}
use Rattle.convoy_packets.proofs.listing.list_packets.Goals as goal

pub loop-message-preserved : goal.loop-message-preserved
loop-message-preserved c =
    let plan = c.args.scenario.now in
    let m = c.loop-message.message in
    let more = flat_map_numbered_more (λ p. message_packets plan p.0 p.1) plan.multicasts m no_message (omega arith) in
    rw (more, c.in_ok-list_proposals.ensures, c.in_ok-list_multicasts.ensures, c.in_ok-list_wait.ensures, c.loop-message.invariant)
    (simp append_assoc)

pub returns : goal.returns
unfolding packets_of
returns c =
    let plan = c.args.scenario.now in
    let lawful = c.message_count-message-end.ensures.lawful in
    let value : c.loop-message.packets.items ≡ packets_of plan =
    c.loop-message.invariant
    ∙ flat_map_numbered_all (λ p. message_packets plan p.0 p.1) plan.multicasts c.loop-message.message (omega arith) in
    record {
      value = value;
      few = rw value (length-packets_of-le plan lawful);
      known = rw value (packets_within plan lawful);
    }
