-- When a message arrives at a group, and when it is committed there. No clock stands in either.
use Rattle.std.specs.Prelude.{ℕ, ◌+◌, max, List, map}
use Rattle.std.specs.List.{fold}
use Rattle.convoy_packets.specs.declared.packet.Packet.TheVariants.{Wait, Multicast, Propose}
use Rattle.convoy_scenario.specs.Scenario.{Scenario, message_at}
use Rattle.convoy_packets.specs.Assignment.{Schedule, delay_of}

-- a tick: a point of time, counted from the start of the scenario
abbrev pub Tick : Type 0
Tick = ℕ

-- the greatest of some numbers, 0 where there is none
abbrev pub greatest : List ℕ → ℕ
greatest xs = fold max 0 xs

-- the tick at which message m is issued: the first at which it may be, and its wait
abbrev pub issue : Scenario → Schedule → ℕ → Tick
issue scenario schedule m = (message_at scenario m).at + delay_of scenario schedule (Wait m)

-- Arrival, the tick at which message m arrives at group g: its issue and the delay of its packet to g. To the group that sends it there is no packet, unless that has a link to itself, so it arrives there as it is issued.
unfoldable pub arrive : Scenario → Schedule → ℕ → ℕ → Tick
arrive scenario schedule m g = issue scenario schedule m + delay_of scenario schedule (Multicast m g)

-- the tick at which group g has the stamp that group h proposes for message m
abbrev pub propose_arrive : Scenario → Schedule → ℕ → ℕ → ℕ → Tick
propose_arrive scenario schedule m g h = arrive scenario schedule m h + delay_of scenario schedule (Propose m h g)

-- Settling, the tick at which message m is committed at group g: that of the last proposal to arrive, the group's own among them.
unfoldable pub settle : Scenario → Schedule → ℕ → ℕ → Tick
settle scenario schedule m g = greatest (map (propose_arrive scenario schedule m g) (message_at scenario m).destinations)
