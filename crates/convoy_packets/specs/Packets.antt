-- The packets of a scenario, in the order in which schedules list their delays.
use Rattle.std.specs.Prelude.{ℕ, ◌==◌, Bool, true, false, ◌&&◌, if◌then◌else◌, List, [], ◌∷◌, ◌++◌, map, Option, position}
use Rattle.std.specs.List.{filter, flat_map, enumerate_from}
use Rattle.convoy_scenario.specs.Scenario.{Message, Scenario, stamp_takes_time, takes_time, may_wait}
use Rattle.convoy_packets.specs.declared.packet.Packet.{Packet}
use Rattle.convoy_packets.specs.declared.packet.Packet.TheVariants.{Wait, Multicast, Propose}

-- the wait of message m before its issue, where it may wait: it has a place in schedules, as packets have
abbrev pub wait_packets : ℕ → Message → List Packet
wait_packets m message = if may_wait message then Wait m ∷ [] else []

-- message m to each of its destinations, in the order of their numbers; not to the group that sends it, unless that has a link to itself
abbrev pub multicast_packets : Scenario → ℕ → Message → List Packet
multicast_packets scenario m message = map (λ g. Multicast m g) (filter (takes_time scenario message.sender) message.destinations)

-- the local stamp of the destination h of message m to each other destination, and to itself by a link that is for stamps
abbrev pub propose_packets : Scenario → ℕ → Message → ℕ → List Packet
propose_packets scenario m message h = map (λ g. Propose m h g) (filter (stamp_takes_time scenario h) message.destinations)

-- the packets of message m: its wait, the message itself, and then the stamps by (from, to)
abbrev pub message_packets : Scenario → ℕ → Message → List Packet
message_packets scenario m message =
    wait_packets m message ++ (multicast_packets scenario m message ++ flat_map (propose_packets scenario m message) message.destinations)

-- all packets of a scenario, message by message
unfoldable pub packets_of : Scenario → List Packet
packets_of scenario = flat_map (λ p. message_packets scenario p.0 p.1) (enumerate_from 0 scenario.multicasts)

-- a wait before an issue, and no packet that travels
abbrev pub is_wait : Packet → Bool
is_wait (Wait m) = true
is_wait packet = false

-- the two are one packet
abbrev pub is_packet : Packet → Packet → Bool
is_packet (Multicast m g) (Multicast n k) = (m == n) && (g == k)
is_packet (Propose m h g) (Propose n i k) = (m == n) && (h == i) && (g == k)
is_packet (Wait m) (Wait n) = m == n
is_packet (Wait m) (Multicast n k) = false
is_packet (Wait m) (Propose n i k) = false
is_packet (Multicast m g) (Wait n) = false
is_packet (Multicast m g) (Propose n i k) = false
is_packet (Propose m h g) (Wait n) = false
is_packet (Propose m h g) (Multicast n k) = false

-- the place of a packet in a list of packets, from 0
abbrev pub place_of : Packet → List Packet → Option ℕ
place_of packet packets = position (is_packet packet) packets
