use Rattle.convoy_packets.specs.Packets.{packets_of}
use Rattle.convoy_packets.proofs.Listed.{packets_differ}
use Rattle.convoy_packets.proofs.Places.{place_where_it_stands}
use Rattle.convoy_packets.proofs.schedule_laws.packets_stand_once.Goals as goal

pub returns : goal.returns
returns c = λ plan i p is at. place_where_it_stands (packets_of plan) i p (packets_differ plan is) at
