-- What is drawn of a run, as plain numbers.
use Rattle.std.specs.Prelude.{ℕ, ◌+◌, not, List, map, slice_index_or}
use Rattle.std.specs.List.{enumerate_from, filter}
use Rattle.convoy_scenario.specs.Scenario.{Scenario, message_at, message_numbers}
use Rattle.convoy_packets.specs.declared.packet.Packet.{Packet}
use Rattle.convoy_packets.specs.declared.packet.Packet.TheVariants.{Wait, Multicast, Propose}
use Rattle.convoy_packets.specs.Packets.{is_wait, packets_of}
use Rattle.convoy_packets.specs.Assignment.{Schedule, delay_of, sender_of}
use Rattle.convoy_sim.specs.Times.{Tick, issue, arrive}
use Rattle.convoy_timeline.specs.Timeline.{timeline_of}
use Rattle.convoy_timeline.specs.declared.entry.Entry.{Entry}
use Rattle.convoy_timeline.specs.Causes.{explanation_of}
use Rattle.convoy_timeline.specs.declared.explanation.Explanation.{Explanation}
use Rattle.convoy_picture.specs.declared.flight.Flight.{Flight}

-- the tick at which a packet is sent: a message as it is issued, and a proposal as the message arrives at the group that proposes; a wait begins where its message may first be issued
abbrev pub sent_at : Scenario → Schedule → Packet → Tick
sent_at scenario schedule (Wait m) = (message_at scenario m).at
sent_at scenario schedule (Multicast m g) = issue scenario schedule m
sent_at scenario schedule (Propose m h g) = arrive scenario schedule m h

-- a packet of that number on its way: it comes its delay after it is sent
abbrev pub flight_of : Scenario → Schedule → ℕ → Packet → Flight
flight_of scenario schedule i packet = record {
  number = i;
  packet = packet;
  from = sender_of scenario packet;
  sent = sent_at scenario schedule packet;
  arrival = sent_at scenario schedule packet + delay_of scenario schedule packet;
}

-- all packets that travel, on their way and in packet order: a wait goes nowhere
abbrev pub flights_of : Scenario → Schedule → List Flight
flights_of scenario schedule =
    map (λ p. flight_of scenario schedule p.0 p.1) (filter (λ p. not (is_wait p.1)) (enumerate_from 0 (packets_of scenario)))

-- the tick at which each message is issued
abbrev pub issues_of : Scenario → Schedule → List Tick
issues_of scenario schedule = map (issue scenario schedule) (message_numbers scenario)

-- the flights, when each message is issued, what happens at each group, and why the target is delivered when it is
pub record Picture : Type 0 where
  pub flights : List Flight
  pub issues : List Tick
  pub entries : List Entry
  pub why : Explanation

-- the tick at which a message is issued; 0 where the picture has no such message
abbrev pub issued_at : Picture → ℕ → Tick
issued_at picture m = slice_index_or picture.issues m 0

-- the picture of the run that follows from a schedule
abbrev pub picture_of : Scenario → Schedule → Picture
picture_of scenario schedule = record {
  flights = flights_of scenario schedule;
  issues = issues_of scenario schedule;
  entries = timeline_of scenario schedule;
  why = explanation_of scenario schedule;
}
