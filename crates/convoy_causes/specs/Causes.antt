-- Messages that follow others: each is issued some time after an event of another message, its cause. A run in which they do is a run of the scenario under a schedule whose waits are such.
use Rattle.std.specs.Prelude.{◌≡◌, ℕ, ◌+◌, ◌-◌, ◌<◌, ◌≤◌, List, length, All}
use Rattle.convoy_scenario.specs.Scenario.{Scenario, GoesTo}
use Rattle.convoy_packets.specs.Assignment.{Schedule, IsAssignment}
use Rattle.convoy_sim.specs.Times.{Tick, issue, arrive, settle}
use Rattle.convoy_sim.specs.Delivery.{deliver}
use Rattle.convoy_causes.specs.declared.cause.Cause.{Cause}
use Rattle.convoy_causes.specs.declared.event.Event.{Event}
use Rattle.convoy_causes.specs.declared.event.Event.TheVariants.{Issue, Arrival, Commit, Delivery}

-- the tick of an event of message x at group g: its issue, whatever the group, or when it arrives at the group, is committed there or is delivered there
abbrev pub event_tick : Scenario → Schedule → Event → ℕ → ℕ → Tick
event_tick scenario schedule Issue x g = issue scenario schedule x
event_tick scenario schedule Arrival x g = arrive scenario schedule x g
event_tick scenario schedule Commit x g = settle scenario schedule x g
event_tick scenario schedule Delivery x g = deliver scenario schedule x g

-- the tick of the event that a message follows
abbrev pub tick_of_cause : Scenario → Schedule → Cause → Tick
tick_of_cause scenario schedule cause = event_tick scenario schedule cause.event cause.message cause.group

-- under the schedule the message is issued no sooner after the event than is said, and no later
pub record IsFollowing (scenario : Scenario) (schedule : Schedule) (cause : Cause) : Type 0 where
  pub soonest : tick_of_cause scenario schedule cause + cause.least ≤ issue scenario schedule cause.effect
  pub latest : issue scenario schedule cause.effect ≤ tick_of_cause scenario schedule cause + cause.most

-- the cause speaks of messages of the scenario, one of which goes to the group of the event
pub record IsCause (scenario : Scenario) (cause : Cause) : Type 0 where
  pub effect : cause.effect < length scenario.multicasts
  pub message : cause.message < length scenario.multicasts
  pub addressed : GoesTo scenario cause.message cause.group

-- each of them does
abbrev pub AreCauses : Scenario → List Cause → Type 0
AreCauses scenario causes = All (IsCause scenario) causes

-- a run in which messages follow their causes: its schedule is an assignment of the scenario, and each message follows
pub record IsCaused (scenario : Scenario) (causes : List Cause) (schedule : Schedule) : Type 0 where
  pub assignment : IsAssignment scenario schedule
  pub following : All (IsFollowing scenario schedule) causes

-- the time from the issue of message x to the delivery of the target: its latency, where x is the target itself, and else that of all that goes from x to it
abbrev pub time_from : Scenario → ℕ → Schedule → ℕ
time_from scenario x schedule = deliver scenario schedule scenario.target_message scenario.target_group - issue scenario schedule x

-- in no such run the time from the issue of message x to the delivery of the target is greater
abbrev pub IsUpperOfCaused : Scenario → List Cause → ℕ → ℕ → Type 0
IsUpperOfCaused scenario causes x most =
    (schedule : Schedule) → IsCaused scenario causes schedule → time_from scenario x schedule ≤ most

-- in some such run it is so great
abbrev pub IsCausedReached : Scenario → List Cause → ℕ → ℕ → Type 0
IsCausedReached scenario causes x least =
    (schedule : Schedule) × IsCaused scenario causes schedule × (time_from scenario x schedule ≡ least)

-- the greatest time from the issue of message x to the delivery of the target, where messages follow their causes
pub record IsGreatestCaused (scenario : Scenario) (causes : List Cause) (x latency : ℕ) : Type 0 where
  pub reached : IsCausedReached scenario causes x latency
  pub upper : IsUpperOfCaused scenario causes x latency
