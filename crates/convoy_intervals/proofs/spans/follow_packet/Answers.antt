use Rattle.std.proofs.Common.{◌≡◌, true, subst, refl}
use Rattle.convoy_scenario.specs.Scenario.{GoesTo}
use Rattle.convoy_packets.specs.declared.packet.Packet.{Packet}
use Rattle.convoy_packets.specs.ScheduleLaws.{is_sent}
use Rattle.convoy_intervals.specs.Spans.{AreSpansBut}
use Rattle.convoy_intervals.proofs.Destinations.{message_of_goes, group_of_goes}
use Rattle.convoy_intervals.proofs.Following.{AreSpans-propose, propose_goes}
use Rattle.convoy_intervals.proofs.spans.follow_packet.Goals as goal
use Rattle.convoy_intervals.proofs.spans.follow_packet.Goals.{In-Propose}

goes : (c : In-Propose) → GoesTo c.args.instance.now c.in-Propose.message c.in-Propose.to
goes c =
    propose_goes c.args.instance.now c.in-Propose.message c.in-Propose.from c.in-Propose.to (subst (λ (p : Packet). is_sent c.args.instance.now p ≡ true) c.in-Propose.is c.requires.sent)

pub write_settling-requires-clause-group : goal.write_settling-requires-clause-group
write_settling-requires-clause-group c =
    group_of_goes c.args.instance.now c.delay-delay.ensures.lawful c.in-Propose.message c.in-Propose.to (goes (goal.at.write_settling-requires-clause-group c).In-Propose)

pub returns-in-Propose : goal.returns-in-Propose
returns-in-Propose c =
    let plan = c.args.instance.now in
    let to = goes (goal.at.returns-in-Propose c).In-Propose in
    let known = message_of_goes plan c.in-Propose.message c.in-Propose.to to in
    let group = group_of_goes plan c.delay-delay.ensures.lawful c.in-Propose.message c.in-Propose.to to in
    let but = subst (λ (p : Packet). AreSpansBut p plan c.args.delay_box.now c.args.spans.now) c.in-Propose.is c.requires.but in
    rw c.write_settling.ensures (AreSpans-propose plan c.args.delay_box.now c.args.spans.now c.in-Propose.message c.in-Propose.from c.in-Propose.to _ known group but refl refl)
