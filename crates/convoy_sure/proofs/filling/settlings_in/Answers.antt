use Rattle.std.proofs.Common.{arith}
use Rattle.convoy_scenario.specs.Scenario.{no_message}
use Rattle.convoy_packets.specs.Table.{least_of}
use Rattle.convoy_intervals.specs.Boxes.{greatest_of}
use Rattle.convoy_sure.proofs.filling.settlings_in.Goals as goal

pub returns-clause-fits : goal.returns-clause-fits
returns-clause-fits c =
    let scenario = c.args.instance.now in
    let box = c.args.delay_box.now in
    let well = c.delay-delay.ensures.lawful in
    let order = c.fixed_order_is_order.ensures scenario in
    let assigned = c.members_are_assignments.ensures scenario box in
    let least = assigned (least_of box) c.requires.inside (c.least_is_member.ensures scenario box c.requires.inside) order in
    let greatest = assigned (greatest_of box) c.requires.inside (c.greatest_is_member.ensures scenario box c.requires.inside) order in
    let low = c.committed_within_two_delays.ensures scenario (least_of box) well least c.args.message c.args.group in
    let high = c.committed_within_two_delays.ensures scenario (greatest_of box) well greatest c.args.message c.args.group in
    let message = well.messages c.args.message no_message c.requires.known in
    let first = c.issued_within_its_wait.ensures.within scenario (least_of box) least c.args.message in
    let last = c.issued_within_its_wait.ensures.within scenario (greatest_of box) greatest c.args.message in (
      omega (arith, low, first, message.at, message.wait, well.delay_high, c.settlings.ensures.least),
      omega (arith, high, last, message.at, message.wait, well.delay_high, c.settlings.ensures.greatest),
    )
