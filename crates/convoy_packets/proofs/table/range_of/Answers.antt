use Rattle.convoy_scenario.specs.declared.sender.Sender.TheVariants.{Group}
use Rattle.convoy_packets.proofs.Ranges.{between_lawful}
use Rattle.convoy_packets.proofs.table.range_of.Goals as goal

pub returns-in-Multicast-clause-lawful : goal.returns-in-Multicast-clause-lawful
returns-in-Multicast-clause-lawful c =
    rw c.range_between.ensures.value (between_lawful c.args.scenario.now c.sender_of.result c.in-Multicast.to c.range_between.ensures.lawful)

pub returns-in-Propose-clause-lawful : goal.returns-in-Propose-clause-lawful
returns-in-Propose-clause-lawful c =
    rw c.range_between-in-Propose.ensures.value (between_lawful c.args.scenario.now (Group c.in-Propose.from) c.in-Propose.to c.range_between-in-Propose.ensures.lawful)
