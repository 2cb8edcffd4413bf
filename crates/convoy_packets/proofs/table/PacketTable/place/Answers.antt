use Rattle.convoy_packets.proofs.Places.{entry_is_place}
use Rattle.convoy_packets.proofs.table.PacketTable.place.Goals as goal

pub returns : goal.returns
returns c =
    let t = c.self.inside in
    rw (c.entry_of.ensures, c.deref.ensures.value, ← c.self.view_is)
    (entry_is_place t.slots.items t.packets.items c.args.packet c.self.invariant.known c.self.invariant.held)
