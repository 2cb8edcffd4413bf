-- In at most which share of runs some packet leaves its range, where links tell which share of their packets does.
use Rattle.std.specs.Prelude.{ℕ, min, Bool, false, ◌&&◌, ◌||◌, not, List, [], ◌∷◌, find, sum_by, Option, Some, None}
use Rattle.std.specs.List.{list_all}
use Rattle.std.specs.Option.{option_map_or}
use Rattle.std.specs.Str.{bytes_eq}
use Rattle.convoy_draft.specs.Checks.{is_among, is_named_alike}
use Rattle.convoy_scenario.specs.Naming.{sender_name}
use Rattle.convoy_scenario.specs.Scenario.{Scenario, group_name_at}
use Rattle.convoy_packets.specs.declared.packet.Packet.{Packet}
use Rattle.convoy_packets.specs.declared.packet.Packet.TheVariants.{Wait, Multicast, Propose}
use Rattle.convoy_packets.specs.Assignment.{sender_of}
use Rattle.convoy_packets.specs.Packets.{packets_of}
use Rattle.convoy_toml.specs.declared.share.TheConstants.{WHOLE_SHARE}
use Rattle.convoy_toml.specs.Outside.{LinkShare}
use Rattle.convoy_toml.specs.Shape.{LinkEnds}

-- the ends name the way from the one place, a group or the clients, to the other: there, or between groups back
abbrev pub name_way : LinkEnds → Option (List ℕ) → List ℕ → Bool
name_way ends sender to = from_senders ends.senders sender where
  from_senders : Option (List (List ℕ)) → Option (List ℕ) → Bool
  from_senders None None = is_among to ends.to
  from_senders (Some names) (Some name) =
      (is_among name names && is_among to ends.to) || (ends.both && (is_among name ends.to && is_among to names))
  from_senders None (Some name) = false
  from_senders (Some names) None = false

-- they name no way but that from one group to itself
abbrev pub name_home : LinkEnds → Bool
name_home ends = from_senders ends.senders where
  from_senders : Option (List (List ℕ)) → Bool
  from_senders None = false
  from_senders (Some names) = list_all (λ name. list_all (bytes_eq name) ends.to) names

-- links with these ends lead from the one place to the other; where they lead to other places, none leads from a group to itself
abbrev pub leads : LinkEnds → Option (List ℕ) → List ℕ → Bool
leads ends sender to = name_way ends sender to && (not (is_named_alike sender (Some to)) || name_home ends)

-- the share of the packets from the one place to the other: that of the links that lead there, or 0 where they tell none
abbrev pub share_between : List LinkShare → Option (List ℕ) → List ℕ → ℕ
share_between shares sender to = option_map_or (λ share. share.billionths) (find (λ share. leads share.ends sender to) shares) 0

-- the share of a packet; a message always waits as it may
abbrev pub share_of : List LinkShare → Scenario → Packet → ℕ
share_of shares scenario (Wait m) = 0
share_of shares scenario (Multicast m g) =
    share_between shares (sender_name scenario (sender_of scenario (Multicast m g))) (group_name_at scenario g)
share_of shares scenario (Propose m h g) = share_between shares (Some (group_name_at scenario h)) (group_name_at scenario g)

-- in at most so many billionths of runs some packet leaves its range: the sum of the shares of all packets, which is no more than the whole
unfoldable pub outside_of : List LinkShare → Scenario → ℕ
outside_of shares scenario = min (sum_by (share_of shares scenario) (packets_of scenario)) WHOLE_SHARE

-- the same, where some links tell a share
abbrev pub outside_told : List LinkShare → Scenario → Option ℕ
outside_told [] scenario = None
outside_told (share ∷ shares) scenario = Some (outside_of (share ∷ shares) scenario)
