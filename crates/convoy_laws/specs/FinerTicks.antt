-- One scenario in ticks and in ticks that are a number of times as fine, and why whole ticks are enough in real time.
use Rattle.std.specs.Prelude.{◌≡◌, ℕ, ◌+◌, ◌*◌, ◌≤◌, length, All, IsFalse, IsTrue}
use Rattle.std.specs.List.{AllZip}
use Rattle.convoy_draft.specs.declared.time.Time.TheVariants.{Real}
use Rattle.convoy_draft.specs.declared.limits.TheConstants.{MOST_GROUPS, MOST_MULTICASTS}
use Rattle.convoy_scenario.specs.Scenario.{GoesTo, HaveSameHomes, Message, Scenario}
use Rattle.convoy_scenario.specs.WellFormed.{IsMulticast, IsScenario}
use Rattle.convoy_packets.specs.declared.packet.Packet.{Packet}
use Rattle.convoy_packets.specs.Packets.{is_wait}
use Rattle.convoy_packets.specs.Assignment.{Schedule, IsAssignment, range_of}
use Rattle.convoy_packets.specs.ScheduleLaws.{is_sent}
use Rattle.convoy_sim.specs.Delivery.{latency_of}
use Rattle.convoy_sim.specs.Greatest.{IsUpper, IsGreatest}

-- a message with the issue told in ticks so many times as fine: its sender and its destinations are the same, and it is issued at none but the times at which it may be in ticks
pub record IsFinerMessage (times : ℕ) (message finer : Message) : Type 0 where
  pub sender : finer.sender ≡ message.sender
  pub destinations : finer.destinations ≡ message.destinations
  pub at : times * message.at ≤ finer.at
  pub until : finer.at + finer.longest_wait ≤ times * (message.at + message.longest_wait)

-- a range in ticks so many times as fine lies within a range in ticks
abbrev pub IsInRange : ℕ → ℕ × ℕ → ℕ × ℕ → Type 0
IsInRange times range finer = (times * range.0 ≤ finer.0) × (finer.1 ≤ times * range.1)

-- a scenario told in ticks so many times as fine: it has as many groups, the same messages and the same target, the same groups have links to themselves, and the range of each packet that travels lies within the one that it has in ticks
pub record IsFiner (times : ℕ) (scenario finer : Scenario) : Type 0 where
  pub some : 1 ≤ times
  pub groups : length finer.groups ≡ length scenario.groups
  pub messages : AllZip (IsFinerMessage times) scenario.multicasts finer.multicasts
  pub homes : HaveSameHomes scenario finer
  pub ranges : (packet : Packet) → IsTrue (is_sent scenario packet) → IsFalse (is_wait packet) → IsInRange times (range_of scenario packet) (range_of finer packet)
  pub target_message : finer.target_message ≡ scenario.target_message
  pub target_group : finer.target_group ≡ scenario.target_group

-- a range told in ticks so many times as fine
abbrev pub finer_range : ℕ → ℕ × ℕ → ℕ × ℕ
finer_range times range = (times * range.0, times * range.1)

-- the packets have the very ranges that they have in ticks, and so have the waits of messages
abbrev pub AreSameRanges : ℕ → Scenario → Scenario → Type 0
AreSameRanges times scenario finer = (packet : Packet) → IsTrue (is_sent scenario packet) → range_of finer packet ≡ finer_range times (range_of scenario packet)

-- what rounding rests on, of all that makes a scenario well formed; the target may wait, too
pub record IsRoundable (scenario : Scenario) : Type 0 where
  pub groups_high : length scenario.groups ≤ MOST_GROUPS
  pub multicasts_high : length scenario.multicasts ≤ MOST_MULTICASTS
  pub messages : All (IsMulticast (length scenario.groups) (length scenario.places)) scenario.multicasts
  pub addressed : GoesTo scenario scenario.target_message scenario.target_group

-- Well-formed scenarios are roundable.
abbrev pub ScenariosAreRoundable : Type 0
ScenariosAreRoundable = (scenario : Scenario) → IsScenario scenario → IsRoundable scenario

-- In real time there is for each run in finer ticks one in whole ticks that is at least as late.
abbrev pub FinerRunsAreMatched : Type 0
FinerRunsAreMatched =
    (times : ℕ) (scenario finer : Scenario) (schedule : Schedule)
    → IsRoundable scenario → scenario.time ≡ Real → IsFiner times scenario finer → IsAssignment finer schedule
    → (whole : Schedule) × IsAssignment scenario whole × (latency_of finer schedule ≤ times * latency_of scenario whole)

-- In real time whole ticks are enough: no run in finer ticks has a greater latency than the runs in whole ticks allow.
abbrev pub WholeTicksAreEnough : Type 0
WholeTicksAreEnough =
    (times : ℕ) (scenario finer : Scenario) (latency : ℕ)
    → IsRoundable scenario → scenario.time ≡ Real → IsFiner times scenario finer → IsUpper scenario latency
    → IsUpper finer (times * latency)

-- In real time the greatest latency is the same however fine the ticks are in which it is told: in finer ticks it is as many times the number.
abbrev pub GreatestInFinerTicks : Type 0
GreatestInFinerTicks =
    (times : ℕ) (scenario finer : Scenario) (latency : ℕ)
    → IsRoundable scenario → scenario.time ≡ Real → finer.time ≡ Real → IsFiner times scenario finer → AreSameRanges times scenario finer
    → IsGreatest scenario latency
    → IsGreatest finer (times * latency)

-- In real time the greatest latency is a whole number of ticks, even if it is looked for in finer ones.
abbrev pub GreatestIsWhole : Type 0
GreatestIsWhole =
    (times : ℕ) (scenario finer : Scenario) (greatest : ℕ)
    → IsRoundable scenario → scenario.time ≡ Real → finer.time ≡ Real → IsFiner times scenario finer → AreSameRanges times scenario finer
    → IsGreatest finer greatest
    → (latency : ℕ) × (greatest ≡ times * latency) × IsGreatest scenario latency
