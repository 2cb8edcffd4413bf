-- The laws of the protocol: what holds of each scenario and each schedule of delays.
use Rattle.std.specs.Prelude.{◌≡◌, ◌≢◌, ◌⊎◌, ℕ, ◌+◌, ◌*◌, ◌<◌, ◌≤◌, nat_le, List, ◌∷◌, length, IsTrue, IsFalse}
use Rattle.std.specs.List.{filter}
use Rattle.convoy_scenario.specs.Scenario.{Scenario, GoesTo, message_at, takes_time}
use Rattle.convoy_scenario.specs.WellFormed.{IsScenario}
use Rattle.convoy_packets.specs.Assignment.{Schedule, IsAssignment, in_fixed_order}
use Rattle.convoy_sim.specs.Times.{Tick, issue, arrive, settle}
use Rattle.convoy_sim.specs.Moments.{is_before, arrival_of, arrival_rank, commit_of, commit_rank}
use Rattle.convoy_sim.specs.Stamps.{is_less, local_stamp, final_stamp}
use Rattle.convoy_sim.specs.Delivery.{addressed_to, is_free, last_commit, deliver, latency_at, latency_of}

-- the messages that stand before message m in the order of group g: their local stamps there are less than the final stamp of m
abbrev pub ahead_of : Scenario → Schedule → ℕ → ℕ → List ℕ
ahead_of scenario schedule m g =
    filter (λ n. is_less (local_stamp scenario schedule n g) (final_stamp scenario schedule m)) (addressed_to scenario g)

-- the messages that arrive at group g no later than message m is committed there
abbrev pub arrive_by : Scenario → Schedule → ℕ → ℕ → List ℕ
arrive_by scenario schedule m g = filter (λ n. nat_le (arrive scenario schedule n g) (settle scenario schedule m g)) (addressed_to scenario g)

-- the tick is the least from the commit of message m at group g on at which no message holds it back there
pub record IsLeastFree (scenario : Scenario) (schedule : Schedule) (m g : ℕ) (tick : Tick) : Type 0 where
  pub committed : settle scenario schedule m g ≤ tick
  pub free : IsTrue (is_free scenario schedule m g tick)
  pub least : (sooner : Tick) → settle scenario schedule m g ≤ sooner → IsTrue (is_free scenario schedule m g sooner) → tick ≤ sooner

-- A message is delivered at a group at the least tick from its commit there on at which no message holds it back.
abbrev pub DeliveryIsLeast : Type 0
DeliveryIsLeast =
    (scenario : Scenario) (schedule : Schedule) → IsScenario scenario → (m g : ℕ) → GoesTo scenario m g
    → IsLeastFree scenario schedule m g (deliver scenario schedule m g)

-- Delivery: a message is delivered at a group as it and all that are ahead of it are committed there.
abbrev pub DeliveryLaw : Type 0
DeliveryLaw =
    (scenario : Scenario) (schedule : Schedule) → IsScenario scenario → (m g : ℕ) → GoesTo scenario m g
    → deliver scenario schedule m g ≡ last_commit scenario schedule g (m ∷ ahead_of scenario schedule m g)

-- A message that is ahead of another at a group arrives there no later than the other is committed there.
abbrev pub EarlierArrivesBeforeCommit : Type 0
EarlierArrivesBeforeCommit =
    (scenario : Scenario) (schedule : Schedule) → IsScenario scenario → (n m g : ℕ) → GoesTo scenario n g → GoesTo scenario m g
    → IsTrue (is_less (local_stamp scenario schedule n g) (final_stamp scenario schedule m))
    → arrive scenario schedule n g ≤ settle scenario schedule m g

-- What holds a message back at a group has arrived there by the time that the message is committed: this bounds its delivery, with no stamp in it.
abbrev pub DeliveryBound : Type 0
DeliveryBound =
    (scenario : Scenario) (schedule : Schedule) → IsScenario scenario → (m g : ℕ) → GoesTo scenario m g
    → deliver scenario schedule m g ≤ last_commit scenario schedule g (m ∷ arrive_by scenario schedule m g)

-- No message is delivered at a group past the last commit there.
abbrev pub DeliveredByLastCommit : Type 0
DeliveredByLastCommit =
    (scenario : Scenario) (schedule : Schedule) → IsScenario scenario → (m g : ℕ) → GoesTo scenario m g
    → deliver scenario schedule m g ≤ last_commit scenario schedule g (addressed_to scenario g)

-- A message is issued from the first tick on at which it may be.
abbrev pub IssuedFromItsTick : Type 0
IssuedFromItsTick = (scenario : Scenario) (schedule : Schedule) → (m : ℕ) → (message_at scenario m).at ≤ issue scenario schedule m

-- A message is issued within its longest wait from that tick.
abbrev pub IssuedWithinItsWait : Type 0
IssuedWithinItsWait =
    (scenario : Scenario) (schedule : Schedule) → IsAssignment scenario schedule → (m : ℕ)
    → issue scenario schedule m ≤ (message_at scenario m).at + (message_at scenario m).longest_wait

-- A message that does not wait is issued at its tick, in every schedule.
abbrev pub IssuedAtItsTick : Type 0
IssuedAtItsTick =
    (scenario : Scenario) (schedule : Schedule) → (m : ℕ) → (message_at scenario m).longest_wait ≡ 0
    → issue scenario schedule m ≡ (message_at scenario m).at

-- A message arrives at a group no sooner than it is issued.
abbrev pub ArrivesAfterIssue : Type 0
ArrivesAfterIssue =
    (scenario : Scenario) (schedule : Schedule) → (m g : ℕ) → issue scenario schedule m ≤ arrive scenario schedule m g

-- A message is delivered at a group no sooner than it is committed there.
abbrev pub DeliveredAfterCommit : Type 0
DeliveredAfterCommit =
    (scenario : Scenario) (schedule : Schedule) → IsScenario scenario → (m g : ℕ) → GoesTo scenario m g
    → settle scenario schedule m g ≤ deliver scenario schedule m g

-- A message is delivered at a group no sooner than it is issued: so no latency is cut off at 0.
abbrev pub LatencyIsNeverNegative : Type 0
LatencyIsNeverNegative =
    (scenario : Scenario) (schedule : Schedule) → IsScenario scenario → (m g : ℕ) → GoesTo scenario m g
    → issue scenario schedule m ≤ deliver scenario schedule m g

-- A message arrives at each of its destinations no later than it is committed at any of them.
abbrev pub ArrivesBeforeCommit : Type 0
ArrivesBeforeCommit =
    (scenario : Scenario) (schedule : Schedule) → (m g h : ℕ) → GoesTo scenario m h → arrive scenario schedule m h ≤ settle scenario schedule m g

-- Messages are delivered in the order of their final stamps, at each group that both go to.
abbrev pub OrderLaw : Type 0
OrderLaw =
    (scenario : Scenario) (schedule : Schedule) → IsScenario scenario → (m n : ℕ)
    → IsTrue (is_less (final_stamp scenario schedule m) (final_stamp scenario schedule n))
    → (g : ℕ) → GoesTo scenario m g → GoesTo scenario n g
    → deliver scenario schedule m g ≤ deliver scenario schedule n g

-- A message arrives at the group that sends it as it is issued, unless that has a link to itself.
abbrev pub SenderHasItAtOnce : Type 0
SenderHasItAtOnce =
    (scenario : Scenario) (schedule : Schedule) (m g : ℕ) → IsFalse (takes_time scenario (message_at scenario m).sender g)
    → arrive scenario schedule m g ≡ issue scenario schedule m

-- A message arrives at a group within D ticks of its issue.
abbrev pub ArrivesWithinOneDelay : Type 0
ArrivesWithinOneDelay =
    (scenario : Scenario) (schedule : Schedule) → IsScenario scenario → IsAssignment scenario schedule → (m g : ℕ)
    → arrive scenario schedule m g ≤ issue scenario schedule m + scenario.delay

-- A message is committed at a group within 2 D ticks of its issue.
abbrev pub CommittedWithinTwoDelays : Type 0
CommittedWithinTwoDelays =
    (scenario : Scenario) (schedule : Schedule) → IsScenario scenario → IsAssignment scenario schedule → (m g : ℕ)
    → settle scenario schedule m g ≤ issue scenario schedule m + 2 * scenario.delay

-- The latency of a message at a group is at most 4 D.
abbrev pub LatencyWithinFourDelays : Type 0
LatencyWithinFourDelays =
    (scenario : Scenario) (schedule : Schedule) → IsScenario scenario → IsAssignment scenario schedule → (m g : ℕ) → GoesTo scenario m g
    → latency_at scenario schedule m g ≤ 4 * scenario.delay

-- The latency that a scenario asks for is at most 4 D.
abbrev pub TargetLatencyWithinFourDelays : Type 0
TargetLatencyWithinFourDelays =
    (scenario : Scenario) (schedule : Schedule) → IsScenario scenario → IsAssignment scenario schedule → latency_of scenario schedule ≤ 4 * scenario.delay

-- The latency of a message at a group to which no other message goes is at most 2 D.
abbrev pub LoneLatencyWithinTwoDelays : Type 0
LoneLatencyWithinTwoDelays =
    (scenario : Scenario) (schedule : Schedule) → IsScenario scenario → IsAssignment scenario schedule → (m g : ℕ) → GoesTo scenario m g
    → ((n : ℕ) → GoesTo scenario n g → n ≡ m) → latency_at scenario schedule m g ≤ 2 * scenario.delay

-- With ties in the fixed order each rank is 0.
abbrev pub FixedRanksAreNone : Type 0
FixedRanksAreNone =
    (scenario : Scenario) (delays : List ℕ) (m g : ℕ)
    → (arrival_rank scenario (in_fixed_order delays) m g ≡ 0)
    × (commit_rank scenario (in_fixed_order delays) m g ≡ 0)

-- Of two messages that arrive at one group, the one that arrives first has the local stamp of lesser time there.
abbrev pub StampsRise : Type 0
StampsRise =
    (scenario : Scenario) (schedule : Schedule) → IsScenario scenario → (n z g : ℕ) → GoesTo scenario n g → GoesTo scenario z g
    → IsTrue (is_before (arrival_of scenario schedule n g) (arrival_of scenario schedule z g))
    → (local_stamp scenario schedule n g).time < (local_stamp scenario schedule z g).time

-- A message that arrives at a group after another is committed there has a local stamp of greater time than the final stamp of that one.
abbrev pub StampsRisePastCommit : Type 0
StampsRisePastCommit =
    (scenario : Scenario) (schedule : Schedule) → IsScenario scenario → (q z g : ℕ) → GoesTo scenario q g → GoesTo scenario z g
    → IsTrue (is_before (commit_of scenario schedule q g) (arrival_of scenario schedule z g))
    → (final_stamp scenario schedule q).time < (local_stamp scenario schedule z g).time

-- A local stamp names the group that gave it.
abbrev pub LocalStampNamesGroup : Type 0
LocalStampNamesGroup =
    (scenario : Scenario) (schedule : Schedule) → IsScenario scenario → (m g : ℕ) → GoesTo scenario m g
    → (local_stamp scenario schedule m g).group ≡ g

-- The final stamp of a message is its local stamp at one of its destinations, ..
abbrev pub FinalStampIsLocal : Type 0
FinalStampIsLocal =
    (scenario : Scenario) (schedule : Schedule) → IsScenario scenario → (m : ℕ) → m < length scenario.multicasts
    → (g : ℕ) × GoesTo scenario m g × (local_stamp scenario schedule m g ≡ final_stamp scenario schedule m)

-- .. and no local stamp of it is greater.
abbrev pub NoLocalStampIsGreater : Type 0
NoLocalStampIsGreater =
    (scenario : Scenario) (schedule : Schedule) → IsScenario scenario → (m g : ℕ) → GoesTo scenario m g
    → IsFalse (is_less (final_stamp scenario schedule m) (local_stamp scenario schedule m g))

-- Two messages have two final stamps.
abbrev pub FinalStampsDiffer : Type 0
FinalStampsDiffer =
    (scenario : Scenario) (schedule : Schedule) → IsScenario scenario → (m n : ℕ) → m < length scenario.multicasts → n < length scenario.multicasts
    → m ≢ n → final_stamp scenario schedule m ≢ final_stamp scenario schedule n

-- Of two messages one has the lesser final stamp.
abbrev pub FinalStampsAreOrdered : Type 0
FinalStampsAreOrdered =
    (scenario : Scenario) (schedule : Schedule) → IsScenario scenario → (m n : ℕ) → m < length scenario.multicasts → n < length scenario.multicasts
    → m ≢ n
    → IsTrue (is_less (final_stamp scenario schedule m) (final_stamp scenario schedule n))
    ⊎ IsTrue (is_less (final_stamp scenario schedule n) (final_stamp scenario schedule m))
