-- Outages: ticks at which groups may be silent, and traffic that keeps the links of a scenario but for these.
use Rattle.std.specs.Prelude.{◌≡◌, ℕ, ◌+◌, ◌-◌, ◌*◌, ◌≤◌, Bool, not, length, List, count_by, All, IsTrue}
use Rattle.std.specs.List.{range_with_len}
use Rattle.convoy_scenario.specs.Scenario.{HaveSameHomes, Scenario, message_at}
use Rattle.convoy_packets.specs.declared.packet.Packet.{Packet}
use Rattle.convoy_packets.specs.declared.packet.Packet.TheVariants.{Wait, Multicast, Propose}
use Rattle.convoy_packets.specs.Assignment.{Schedule, delay_of}
use Rattle.convoy_sim.specs.Times.{Tick, issue, arrive}
use Rattle.convoy_ceiling.specs.Ceiling.{IsOfSomeKind, range_by, travels}

-- which ticks belong to an outage, of one group or of several, once or often
abbrev pub Outages : Type 0
Outages = Tick → Bool

-- the ticks from the one up to the other, but without that
abbrev pub ticks_between : Tick → Tick → List Tick
ticks_between from to = range_with_len from (to - from)

-- how many of these belong to an outage
unfoldable pub silent_ticks : Outages → Tick → Tick → ℕ
silent_ticks down from to = count_by down (ticks_between from to)

-- how many of these do not
unfoldable pub worked_ticks : Outages → Tick → Tick → ℕ
worked_ticks down from to = count_by (λ tick. not (down tick)) (ticks_between from to)

-- the tick at which a packet is sent: a message goes as it is issued, and a stamp as its message arrives at the group that gives it; a wait begins at the first tick at which its message may be issued
abbrev pub sent_at : Scenario → Schedule → Packet → Tick
sent_at traffic schedule (Wait m) = (message_at traffic m).at
sent_at traffic schedule (Multicast m g) = issue traffic schedule m
sent_at traffic schedule (Propose m h g) = arrive traffic schedule m h

-- how many ticks a packet is on its way that belong to no outage
abbrev pub worked_of : Outages → Scenario → Schedule → Packet → ℕ
worked_of down traffic schedule packet =
    worked_ticks down (sent_at traffic schedule packet) (sent_at traffic schedule packet + delay_of traffic schedule packet)

-- traffic of a scenario's kinds of messages, in ticks so many times as fine, that keeps the links but for outages: the same groups have links to themselves, and a packet that travels is on its way, beside outages, for at most so many times the greatest delay that the scenario's links give it. After an outage what has waited may come at once, so no least delay is asked for. Messages are of any number, issued at any ticks, and wait for any time.
pub record KeepsLinksBut (down : Outages) (times : ℕ) (scenario traffic : Scenario) (schedule : Schedule) : Type 0 where
  pub groups : length traffic.groups ≡ length scenario.groups
  pub homes : HaveSameHomes scenario traffic
  pub kinds : All (IsOfSomeKind scenario) traffic.multicasts
  pub most : (packet : Packet) → IsTrue (travels traffic packet) → worked_of down traffic schedule packet ≤ times * (range_by scenario traffic packet).1
