use Rattle.std.proofs.Common.{not, ap, sym, ◌∙◌, arith}
use Rattle.convoy_packets.specs.Packets.{is_wait}
use Rattle.convoy_picture.specs.Pictures.{flight_of}
use Rattle.convoy_picture.proofs.Listing.{none_left, one_less, one_more}
use Rattle.convoy_picture.proofs.picture.list_flights.Goals as goal
use Rattle.convoy_picture.proofs.picture.list_flights.Goals.{then-not-is_wait+in_ok-push, else-not-is_wait}

pub loop-number-preserved : goal.loop-number-preserved
loop-number-preserved c =
    let packets = c.table-table.result.now.packets in
    let is = sym c.is_wait.ensures in
    elim c.if-not-is_wait.branch [
      | then-not-is_wait+in_ok-push w ↦
          rw (w.flights-is, w.in_ok-push.ensures.items, w.flight_of.ensures)
          (one_more (λ p. not (is_wait p.1)) (λ p. flight_of c.args.instance.now c.args.schedule.now p.0 p.1) c.loop-number.flights.items _ packets c.loop-number.number c.packet-packet.result c.packet-packet.ensures (ap not (is ∙ w.if-not-is_wait.true)) c.loop-number.invariant)
      | else-not-is_wait w ↦
          rw w.flights-is
          (one_less (λ p. not (is_wait p.1)) (λ p. flight_of c.args.instance.now c.args.schedule.now p.0 p.1) c.loop-number.flights.items _ packets c.loop-number.number c.packet-packet.result c.packet-packet.ensures (ap not (is ∙ w.if-not-is_wait.false)) c.loop-number.invariant)
    ]

pub returns : goal.returns
returns c =
    none_left (λ p. not (is_wait p.1)) (λ p. flight_of c.args.instance.now c.args.schedule.now p.0 p.1) c.loop-number.flights.items _ c.table-table.result.now.packets c.loop-number.number (omega arith) c.loop-number.invariant
