-- Worked rows: which share a packet has, and how shares are told.
use Rattle.std.proofs.Common.{◌≡◌, refl, true, false, [], ◌∷◌, Some, None, ℕ, List, codes}
use Rattle.std.specs.Fmt.{digits}
use Rattle.convoy_draft.specs.declared.time.Time.TheVariants.{Real}
use Rattle.convoy_scenario.specs.declared.sender.Sender.TheVariants.{Client, Group}
use Rattle.convoy_scenario.specs.Scenario.{Message, Scenario}
use Rattle.convoy_packets.specs.declared.packet.Packet.TheVariants.{Wait, Multicast, Propose}
use Rattle.convoy_packets.specs.Packets.{packets_of}
use Rattle.convoy_times.specs.Measures.{fraction, fraction_digits}
use Rattle.convoy_toml.specs.Outside.{LinkShare}
use Rattle.convoy_outside.specs.Percents.{percent_of, told_millionths}
use Rattle.convoy_outside.specs.Sums.{outside_of, outside_told, share_of}

abbrev a : List ℕ
a = codes "a"

abbrev b : List ℕ
b = codes "b"

-- a client's message to a and b, which may wait
abbrev message : Message
message = record { name = codes "t"; sender = Client 0; destinations = 0 ∷ 1 ∷ []; at = 0; longest_wait = 4 }

abbrev scenario : Scenario
scenario = record { time = Real; tick = None; delay = 3; groups = a ∷ b ∷ []; places = []; links = []; multicasts = message ∷ []; target_message = 0; target_group = 0 }

-- from the clients to both groups, and between these
abbrev from_clients : ℕ → LinkShare
from_clients billionths = record { ends = record { senders = None; to = a ∷ b ∷ []; both = false }; billionths = billionths }

abbrev between : ℕ → LinkShare
between billionths = record { ends = record { senders = Some (a ∷ []); to = b ∷ []; both = true }; billionths = billionths }

of_each : (share_of (from_clients 2 ∷ between 3 ∷ []) scenario (Multicast 0 1) ≡ 2) × (share_of (from_clients 2 ∷ between 3 ∷ []) scenario (Propose 0 0 1) ≡ 3)
    × (share_of (from_clients 2 ∷ between 3 ∷ []) scenario (Propose 0 1 0) ≡ 3) × (share_of (from_clients 2 ∷ between 3 ∷ []) scenario (Wait 0) ≡ 0)
of_each = (refl, refl, refl, refl)

-- a client at a place, from which links of their own lead
abbrev at_place : Scenario
at_place = record scenario { places = codes "eu" ∷ []; multicasts = record message { sender = Client 1 } ∷ [] }

abbrev from_place : ℕ → LinkShare
from_place billionths = record { ends = record { senders = Some (codes "eu" ∷ []); to = a ∷ b ∷ []; both = false }; billionths = billionths }

of_place : (share_of (from_clients 2 ∷ from_place 4 ∷ []) at_place (Multicast 0 1) ≡ 4) × (share_of (from_clients 2 ∷ []) at_place (Multicast 0 1) ≡ 0)
of_place = (refl, refl)

-- two packets of the client's, and two stamps
sum_of_all : outside_told (from_clients 2 ∷ between 3 ∷ []) scenario ≡ Some 10
unfolding outside_of packets_of
sum_of_all = refl

some_alone : outside_told (between 3 ∷ []) scenario ≡ Some 6
unfolding outside_of packets_of
some_alone = refl

-- a's own message to a and b, where a has a link to itself with a share of its own: two packets of the message, and two stamps
abbrev own_scenario : Scenario
own_scenario = record scenario {
  links = record { sender = Group 0; to = 0; least = 2; most = 3; stamps = false } ∷ [];
  multicasts = record message { sender = Group 0; longest_wait = 0 } ∷ [];
}

abbrev to_itself : ℕ → LinkShare
to_itself billionths = record { ends = record { senders = Some (a ∷ []); to = a ∷ []; both = false }; billionths = billionths }

-- from each of the two groups to the other, and not to itself
abbrev to_each_other : ℕ → LinkShare
to_each_other billionths = record { ends = record { senders = Some (a ∷ b ∷ []); to = a ∷ b ∷ []; both = false }; billionths = billionths }

of_own_message : (share_of (to_each_other 3 ∷ to_itself 5 ∷ []) own_scenario (Multicast 0 0) ≡ 5) × (share_of (to_each_other 3 ∷ to_itself 5 ∷ []) own_scenario (Multicast 0 1) ≡ 3)
of_own_message = (refl, refl)

own_message_counts : outside_told (to_each_other 3 ∷ to_itself 5 ∷ []) own_scenario ≡ Some 14
unfolding outside_of packets_of
own_message_counts = refl

-- where the link is for stamps, too, a's stamp to itself counts as well
own_stamp_counts : outside_told (to_each_other 3 ∷ to_itself 5 ∷ []) (record own_scenario { links = record { sender = Group 0; to = 0; least = 2; most = 3; stamps = true } ∷ [] }) ≡ Some 19
unfolding outside_of packets_of
own_stamp_counts = refl

-- without the link it takes no time, and leaves no range
own_message_at_once : outside_told (to_each_other 3 ∷ to_itself 5 ∷ []) (record own_scenario { links = [] }) ≡ Some 9
unfolding outside_of packets_of
own_message_at_once = refl

no_more_than_all : outside_told (from_clients 600000000 ∷ []) scenario ≡ Some 1000000000
unfolding outside_of packets_of
no_more_than_all = refl

none_told : outside_told [] scenario ≡ None
none_told = refl

told_whole : (percent_of 1000000000 ≡ codes "100") × (percent_of 0 ≡ codes "0")
unfolding told_millionths fraction fraction_digits digits
told_whole = (refl, refl)

told_parts : (percent_of 13000000 ≡ codes "1.3") × (percent_of 10 ≡ codes "0.000001")
unfolding told_millionths fraction fraction_digits digits
told_parts = (refl, refl)

rounded_up : (percent_of 1 ≡ codes "0.000001") × (percent_of 999999991 ≡ codes "100") × (percent_of 123456781 ≡ codes "12.345679")
unfolding told_millionths fraction fraction_digits digits
rounded_up = (refl, refl, refl)
