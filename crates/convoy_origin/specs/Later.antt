-- A run that is another one, so many ticks later.
use Rattle.std.specs.Prelude.{◌≡◌, ℕ, ◌+◌, length, map, IsFalse}
use Rattle.convoy_scenario.specs.Scenario.{Scenario, GoesTo, message_at}
use Rattle.convoy_packets.specs.declared.packet.Packet.{Packet}
use Rattle.convoy_packets.specs.Packets.{is_wait}
use Rattle.convoy_packets.specs.Assignment.{Schedule, delay_of}
use Rattle.convoy_sim.specs.declared.moment.Moment.{Moment}
use Rattle.convoy_sim.specs.Times.{issue, arrive, settle}
use Rattle.convoy_sim.specs.Moments.{moments_of}
use Rattle.convoy_sim.specs.Stamps.{local_stamp, final_stamp}
use Rattle.convoy_sim.specs.Delivery.{deliver, latency_at}

-- scenarios in which time goes in one way, with as many groups and as many messages, which go to the same groups
pub record AreAlike (scenario other : Scenario) : Type 0 where
  pub time : other.time ≡ scenario.time
  pub groups : length other.groups ≡ length scenario.groups
  pub count : length other.multicasts ≡ length scenario.multicasts
  pub destinations : (m : ℕ) → (message_at other m).destinations ≡ (message_at scenario m).destinations

-- the second schedule issues each message so many ticks later than the first, and has the same delays and the same order of ties
pub record IssuesLater (by : ℕ) (scenario : Scenario) (schedule : Schedule) (other : Scenario) (later : Schedule) : Type 0 where
  pub alike : AreAlike scenario other
  pub issues : (m g : ℕ) → GoesTo scenario m g → issue other later m ≡ issue scenario schedule m + by
  pub delays : (packet : Packet) → IsFalse (is_wait packet) → delay_of other later packet ≡ delay_of scenario schedule packet
  pub order : later.order ≡ schedule.order

-- the moment, so many ticks later
abbrev pub moment_later : ℕ → Moment → Moment
moment_later by x = record { tick = x.tick + by; rank = x.rank; kind = x.kind; message = x.message; group = x.group }

-- the second run is the first so many ticks later: the moments are the same in the same order, all stamps are the same, and so is each latency
pub record RunsLater (by : ℕ) (scenario : Scenario) (schedule : Schedule) (other : Scenario) (later : Schedule) : Type 0 where
  pub arrivals : (m g : ℕ) → GoesTo scenario m g → arrive other later m g ≡ arrive scenario schedule m g + by
  pub commits : (m g : ℕ) → GoesTo scenario m g → settle other later m g ≡ settle scenario schedule m g + by
  pub moments : moments_of other later ≡ map (moment_later by) (moments_of scenario schedule)
  pub locals : (m g : ℕ) → local_stamp other later m g ≡ local_stamp scenario schedule m g
  pub finals : (m : ℕ) → final_stamp other later m ≡ final_stamp scenario schedule m
  pub deliveries : (m g : ℕ) → GoesTo scenario m g → deliver other later m g ≡ deliver scenario schedule m g + by
  pub latencies : (m g : ℕ) → GoesTo scenario m g → latency_at other later m g ≡ latency_at scenario schedule m g

-- Where all issues are so many ticks later, and all else is the same, the whole run is.
abbrev pub RunsShift : Type 0
RunsShift =
    (by : ℕ) (scenario : Scenario) (schedule : Schedule) (other : Scenario) (later : Schedule)
    → IssuesLater by scenario schedule other later
    → RunsLater by scenario schedule other later
