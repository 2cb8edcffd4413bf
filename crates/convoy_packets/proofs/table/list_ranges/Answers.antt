use Rattle.std.proofs.Common.{refl, arith}
use Rattle.std.proofs.lemmas.List.{map_more}
use Rattle.std.proofs.lemmas.List.Elements.{All-push}
use Rattle.convoy_packets.specs.declared.packet.Packet.TheVariants.{Wait}
use Rattle.convoy_packets.specs.Assignment.{range_of}
use Rattle.convoy_packets.specs.Table.{IsRange}
use Rattle.convoy_packets.proofs.table.list_ranges.Goals as goal

pub loop-packet-preserved : goal.loop-packet-preserved
loop-packet-preserved c =
    let plan = c.args.scenario.now in
    let before = c.loop-packet.invariant in
    let more = map_more (range_of plan) c.args.packets.now c.loop-packet.packet-index (Wait 0) (omega arith) in (
      rw (c.in_ok-push.ensures.items, before.0, more, c.range_of.ensures.value) refl,
      rw c.in_ok-push.ensures.items
          (All-push IsRange c.loop-packet.ranges.items c.range_of.result before.1 c.range_of.ensures.lawful),
    )
