-- The list of a scenario's packets and waits, as text.
use Rattle.std.specs.Prelude.{ℕ, List, [], ◌∷◌, ◌++◌, Option, Some, None, codes, decimal, slice_index}
use Rattle.std.specs.List.{flat_map, enumerate_from}
use Rattle.convoy_scenario.specs.Scenario.{Scenario, message_at, group_name_at}
use Rattle.convoy_scenario.specs.Naming.{sender_word}
use Rattle.convoy_packets.specs.declared.packet.Packet.{Packet}
use Rattle.convoy_packets.specs.declared.packet.Packet.TheVariants.{Wait, Multicast, Propose}
use Rattle.convoy_packets.specs.Packets.{packets_of}
use Rattle.convoy_packets.specs.Assignment.{Schedule, range_of}

-- what a packet is, or which message waits before its issue
unfoldable pub packet_text : Scenario → Packet → List ℕ
packet_text scenario (Wait m) = (message_at scenario m).name ++ codes " waits"
packet_text scenario (Multicast m g) =
    let message = message_at scenario m in
    message.name ++ (codes " from " ++ (sender_word scenario message.sender ++ (codes " to " ++ group_name_at scenario g)))
packet_text scenario (Propose m h g) =
    codes "proposal of " ++ ((message_at scenario m).name
    ++ (codes " from " ++ (group_name_at scenario h ++ (codes " to " ++ group_name_at scenario g))))

-- the ticks that a schedule gives it, where there is one
unfoldable pub taken_text : Option ℕ → List ℕ
taken_text None = []
taken_text (Some delay) = codes ", takes " ++ decimal delay

-- the line of a packet or a wait: its number, what it is, its range, and its ticks where a schedule gives them
unfoldable pub packet_line : Scenario → ℕ → Packet → Option ℕ → List ℕ
packet_line scenario i packet delay =
    let range = range_of scenario packet in
    codes "packet " ++ (decimal i
    ++ (codes ": " ++ (packet_text scenario packet
    ++ (codes ", " ++ (decimal range.0
    ++ (codes " to " ++ (decimal range.1
    ++ (codes " ticks" ++ (taken_text delay ++ 10 ∷ [])))))))))

-- the lines of all packets and waits of a scenario
unfoldable pub packets_text : Scenario → List ℕ
packets_text scenario = flat_map (λ p. packet_line scenario p.0 p.1 None) (enumerate_from 0 (packets_of scenario))

-- the same lines with their ticks in a schedule
unfoldable pub scheduled_packets_text : Scenario → Schedule → List ℕ
scheduled_packets_text scenario schedule =
    flat_map (λ p. packet_line scenario p.0 p.1 (Some (slice_index schedule.delays p.0))) (enumerate_from 0 (packets_of scenario))
