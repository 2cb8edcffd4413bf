use Rattle.convoy_packets.specs.Packets.{packets_of}
use Rattle.convoy_packets.proofs.Places.{stands_where_found}
use Rattle.convoy_packets.proofs.schedule_laws.places_lead_back.Goals as goal

pub returns : goal.returns
returns c = λ plan i p found. stands_where_found (packets_of plan) i p found
