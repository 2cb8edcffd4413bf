use Rattle.std.proofs.Common.{◌≡◌, drop, length, get_or, arith, ap, ◌∙◌}
use Rattle.std.proofs.lemmas.List.{take_at}
use Rattle.convoy_packets.specs.declared.packet.Packet.TheVariants.{Wait}
use Rattle.convoy_packets.proofs.Places.{HoldPlaces-more, length-with_place}
use Rattle.convoy_packets.proofs.slots.slots_for.Goals as goal

pub loop-place-preserved : goal.loop-place-preserved
loop-place-preserved c =
    let slots = c.loop-place.slots in
    let place = c.loop-place.place in
    let packet = get_or c.args.packets.now place (Wait 0) in
    let wrote = c.record_place.ensures in
    let long : length c.record_place.new.slots ≡ slots.len =
    ap length wrote ∙ length-with_place c.deref_mut.result.now packet place ∙ c.deref_mut.ensures.len in
    rw (take_at c.record_place.new.slots (drop (length c.record_place.new.slots) slots.items) slots.len long, wrote, c.deref_mut.ensures.value)
    (HoldPlaces-more slots.items c.args.packets.now place (Wait 0) (omega arith) c.loop-place.invariant)
