use Rattle.std.proofs.Common.{◌≡◌, Some, map, refl, arith}
use Rattle.std.specs.Prelude.{slice_index}
use Rattle.convoy_packets.specs.Assignment.{range_of, ranges_of}
use Rattle.convoy_timeline.specs.PacketLists.{packet_line, scheduled_packets_text}
use Rattle.convoy_timeline.proofs.PacketLines.{none_left, one_more, range_at}
use Rattle.convoy_timeline.proofs.packet_list.scheduled_text.Goals as goal

pub loop-i-init : goal.loop-i-init
unfolding scheduled_packets_text
loop-i-init c = rw (c.new-text.ensures.items, c.table-table.ensures.value) refl

pub loop-i-preserved : goal.loop-i-preserved
unfolding ranges_of
loop-i-preserved c =
    let packets = c.table-table.result.now.packets in
    let same : c.table-table.result.now.ranges ≡ map (range_of c.args.instance.now) packets = rw c.table-table.ensures.value refl in
    let range = range_at (range_of c.args.instance.now) packets c.table-table.result.now.ranges c.loop-i.i c.packet.result c.range.result same c.packet.ensures c.range.ensures.value in
    let told = rw c.scenario-scenario.ensures.value at c.in_ok-line.ensures in
    let line = rw c.delay.ensures at (told range) in
    rw (c.in_ok-extend_from_slice.ensures.items, c.as_bytes.ensures.value)
    (one_more (λ p. packet_line c.args.instance.now p.0 p.1 (Some (slice_index c.args.schedule.now.delays p.0))) c.loop-i.text.items _ _ packets c.loop-i.i c.packet.result c.packet.ensures c.loop-i.invariant line)

pub returns : goal.returns
returns c =
    none_left (λ p. packet_line c.args.instance.now p.0 p.1 (Some (slice_index c.args.schedule.now.delays p.0))) c.loop-i.text.items _ c.table-table.result.now.packets c.loop-i.i (omega arith) c.loop-i.invariant
