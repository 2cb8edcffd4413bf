use Rattle.convoy_packets.specs.Packets.{packets_of}
use Rattle.convoy_packets.proofs.Listed.{packets_differ}
use Rattle.convoy_packets.proofs.Places.{place_where_it_stands}
use Rattle.convoy_packets.proofs.Ranges.{delay_at_place}
use Rattle.convoy_packets.proofs.schedule_laws.delays_are_by_place.Goals as goal

pub returns : goal.returns
returns c = λ plan delays i p is at.
    delay_at_place plan delays p i (place_where_it_stands (packets_of plan) i p (packets_differ plan is) at)
