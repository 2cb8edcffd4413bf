use Rattle.std.proofs.Common.{ℕ, refl}
use Rattle.convoy_packets.specs.declared.packet.Packet.TheVariants.{Multicast}
use Rattle.convoy_intervals.proofs.PacketDelays.{place_in_box, delay_at_end}
use Rattle.convoy_intervals.proofs.times.multicast_delays.Goals as goal

pub range_of-requires : goal.range_of-requires
range_of-requires c =
    place_in_box _ _ _ (Multicast c.args.message c.args.to) _ c.table.ensures.value c.requires.inside c.multicast_to.ensures

pub returns-clause-least : goal.returns-clause-least
returns-clause-least c =
    let e = delay_at_end c.args.instance.now c.table.result.now c.args.delay_box.now c.table.ensures.value (λ (r : ℕ × ℕ). r.0) refl (Multicast c.args.message c.args.to) in
    cc

pub returns-clause-greatest : goal.returns-clause-greatest
returns-clause-greatest c =
    let e = delay_at_end c.args.instance.now c.table.result.now c.args.delay_box.now c.table.ensures.value (λ (r : ℕ × ℕ). r.1) refl (Multicast c.args.message c.args.to) in
    cc
