-- The laws of outages.
use Rattle.std.specs.Prelude.{ℕ, ◌+◌, ◌*◌, ◌≤◌}
use Rattle.convoy_scenario.specs.Scenario.{Scenario, GoesTo, message_at}
use Rattle.convoy_packets.specs.Assignment.{Schedule, AreWithin, ranges_of}
use Rattle.convoy_sim.specs.Times.{Tick, issue}
use Rattle.convoy_sim.specs.Delivery.{deliver, latency_at}
use Rattle.convoy_sim.specs.Traffic.{IsTraffic}
use Rattle.convoy_ceiling.specs.Ceiling.{IsFinerTrafficOf, IsOfKind, IsUpperInTraffic, ceiling_at}
use Rattle.convoy_outages.specs.Outages.{KeepsLinksBut, Outages, silent_ticks, worked_ticks}
use Rattle.convoy_outages.specs.OutageCeiling.{IsUpperThrough, outage_ceiling_at, worked_ceiling_at}

-- In traffic that keeps the links but for outages a message is delivered after no more ticks of work than its ceiling says, whichever ticks belong to outages, and however many.
abbrev pub WorkIsWithinCeiling : Type 0
WorkIsWithinCeiling =
    (down : Outages) (times : ℕ) (scenario traffic : Scenario) (schedule : Schedule)
    → IsTraffic scenario → KeepsLinksBut down times scenario traffic schedule
    → (n m g : ℕ) → IsOfKind (message_at scenario n) (message_at traffic m) → GoesTo traffic m g
    → worked_ticks down (issue traffic schedule m) (deliver traffic schedule m g) ≤ times * worked_ceiling_at scenario n g

-- So each outage costs no more than it lasts: the latency is at most that ceiling and the silent ticks from the issue of the message to its delivery.
abbrev pub OutagesCostWhatTheyLast : Type 0
OutagesCostWhatTheyLast =
    (down : Outages) (times : ℕ) (scenario traffic : Scenario) (schedule : Schedule)
    → IsTraffic scenario → KeepsLinksBut down times scenario traffic schedule
    → (n m g : ℕ) → IsOfKind (message_at scenario n) (message_at traffic m) → GoesTo traffic m g
    → latency_at traffic schedule m g
    ≤ times * worked_ceiling_at scenario n g + silent_ticks down (issue traffic schedule m) (deliver traffic schedule m g)

-- Where outages last so many ticks in all from its issue to its delivery, no latency is above the ceiling through outages.
abbrev pub OutageCeilingHolds : Type 0
OutageCeilingHolds =
    (span : ℕ) (scenario : Scenario) → IsTraffic scenario → (n g : ℕ) → IsUpperThrough span scenario n g (outage_ceiling_at scenario span n g)

-- Nor is it where that holds of each stretch of time that is longer than that ceiling: so nothing need be known of when the message is delivered.
abbrev pub OutageCeilingHoldsOfRareOutages : Type 0
OutageCeilingHoldsOfRareOutages =
    (span : ℕ) (down : Outages) (times : ℕ) (scenario traffic : Scenario) (schedule : Schedule)
    → IsTraffic scenario → KeepsLinksBut down times scenario traffic schedule
    → (n m g : ℕ) → IsOfKind (message_at scenario n) (message_at traffic m) → GoesTo traffic m g
    → ((from : Tick) → silent_ticks down from (from + (times * outage_ceiling_at scenario span n g + 1)) ≤ times * span)
    → latency_at traffic schedule m g ≤ times * outage_ceiling_at scenario span n g

-- Traffic whose delays are in their ranges keeps the links through any outages, those that cost nothing.
abbrev pub TrafficKeepsLinks : Type 0
TrafficKeepsLinks =
    (down : Outages) (times : ℕ) (scenario traffic : Scenario) (schedule : Schedule)
    → IsFinerTrafficOf times scenario traffic → AreWithin (ranges_of traffic) schedule.delays → KeepsLinksBut down times scenario traffic schedule

-- The ceiling through outages is no less than the ceiling, however short they are, ..
abbrev pub OutageCeilingIsNoLess : Type 0
OutageCeilingIsNoLess = (scenario : Scenario) (m g : ℕ) → ceiling_at scenario m g ≤ worked_ceiling_at scenario m g

-- .. and it holds where nothing is silent.
abbrev pub OutageCeilingHoldsWithoutOutages : Type 0
OutageCeilingHoldsWithoutOutages =
    (scenario : Scenario) → IsTraffic scenario → (n g : ℕ) → IsUpperInTraffic scenario n g (worked_ceiling_at scenario n g)
