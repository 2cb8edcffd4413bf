-- What is proved of causes. Each is the one clause of the function of its name in the crate's module `cause_laws`.
use Rattle.std.specs.Prelude.{◌≡◌, ℕ, ◌+◌, ◌<◌, List, length, IsTrue}
use Rattle.convoy_scenario.specs.Scenario.{Scenario, message_at}
use Rattle.convoy_scenario.specs.Targets.{with_target}
use Rattle.convoy_scenario.specs.WellFormed.{IsScenario}
use Rattle.convoy_packets.specs.Assignment.{Schedule, IsAssignment}
use Rattle.convoy_sim.specs.Times.{Tick}
use Rattle.convoy_sim.specs.Delivery.{deliver}
use Rattle.convoy_sure.specs.Windows.{EnclosesAll, Windows, tables_by}
use Rattle.convoy_causes.specs.declared.cause.Cause.{Cause}
use Rattle.convoy_causes.specs.declared.event.Event.TheVariants.{Delivery}
use Rattle.convoy_causes.specs.Causes.{AreCauses, IsCause, IsCaused, IsCausedReached, IsGreatestCaused, IsUpperOfCaused, time_from}
use Rattle.convoy_causes.specs.CauseWindows.{EncloseCaused, FollowsToo, IsDeliveredBy, closes_by, has_room_from, is_before, scenario_from, with_causes, with_effect_after, with_issue_since, with_issue_until}

-- Where windows enclose a run in which messages follow their causes, they do so when they are cut by these.
abbrev pub CausesCut : Type 0
CausesCut =
    (scenario : Scenario) (schedule : Schedule) (causes : List Cause) (windows : Windows)
    → IsScenario scenario
    → AreCauses scenario causes
    → IsCaused scenario causes schedule
    → EnclosesAll scenario schedule (tables_by windows)
    → EnclosesAll scenario schedule (tables_by (with_causes scenario causes windows))

-- Where windows that enclose an assignment say that the target is delivered before a tick, it is.
abbrev pub DeliveredBefore : Type 0
DeliveredBefore =
    (scenario : Scenario) (schedule : Schedule) (windows : Windows) (tick : Tick)
    → IsScenario scenario
    → IsAssignment scenario schedule
    → EnclosesAll scenario schedule (tables_by windows)
    → IsTrue (is_before scenario windows tick)
    → deliver scenario schedule scenario.target_message scenario.target_group < tick

-- Windows that enclose each run in which messages follow their causes do so when they are cut by what one of these says of the message that follows, ..
abbrev pub EffectsCut : Type 0
EffectsCut =
    (scenario : Scenario) (causes : List Cause) (cause : Cause) (windows : Windows)
    → IsScenario scenario
    → IsCause scenario cause
    → FollowsToo scenario causes cause
    → EncloseCaused scenario causes windows
    → EncloseCaused scenario causes (with_effect_after scenario cause windows)

-- .. and by a tick at which what it follows is delivered at the latest
abbrev pub DeliveriesCut : Type 0
DeliveriesCut =
    (scenario : Scenario) (causes : List Cause) (cause : Cause) (windows : Windows) (tick : Tick)
    → IsScenario scenario
    → IsCause scenario cause
    → FollowsToo scenario causes cause
    → cause.event ≡ Delivery
    → IsDeliveredBy scenario causes cause.message cause.group tick
    → EncloseCaused scenario causes windows
    → EncloseCaused scenario causes (with_issue_until scenario cause.effect (tick + cause.most) windows)

-- Where such windows say that a message is delivered at a group before the next tick, each such run has it by that tick.
abbrev pub DeliveriesEnd : Type 0
DeliveriesEnd =
    (scenario : Scenario) (causes : List Cause) (windows : Windows) (m g : ℕ) (tick : Tick)
    → IsScenario (with_target scenario m g)
    → EncloseCaused scenario causes windows
    → IsTrue (is_before (with_target scenario m g) windows (tick + 1))
    → IsDeliveredBy scenario causes m g tick

-- It is enough that they say so where they are cut by this: what follows that delivery is issued after the next tick then, and by all causes.
abbrev pub LateDeliveriesEnd : Type 0
LateDeliveriesEnd =
    (scenario : Scenario) (causes : List Cause) (cause : Cause) (windows : Windows) (tick : Tick)
    → IsScenario scenario
    → IsScenario (with_target scenario cause.message cause.group)
    → AreCauses scenario causes
    → FollowsToo scenario causes cause
    → cause.event ≡ Delivery
    → EncloseCaused scenario causes windows
    → IsTrue (is_before (with_target scenario cause.message cause.group) (with_causes scenario causes (with_issue_since scenario cause.effect (tick + 1 + cause.least) windows)) (tick + 1))
    → IsDeliveredBy scenario causes cause.message cause.group tick

-- The scenario in which the issue of a message is known is well formed where there is room for it, ..
abbrev pub KnownIsScenario : Type 0
KnownIsScenario =
    (scenario : Scenario) (x : ℕ) → IsScenario scenario → x < length scenario.multicasts → IsTrue (has_room_from scenario x) → IsScenario (scenario_from scenario x)

-- .. as there always is for the target, ..
abbrev pub TargetsHaveRoom : Type 0
TargetsHaveRoom = (scenario : Scenario) → IsScenario scenario → IsTrue (has_room_from scenario scenario.target_message)

-- .. and each run in which messages follow their causes is one of it, of the same time from that issue to the delivery of the target.
abbrev pub CausedRunsMove : Type 0
CausedRunsMove =
    (scenario : Scenario) (causes : List Cause) (x : ℕ) (schedule : Schedule)
    → IsScenario scenario
    → AreCauses scenario causes
    → x < length scenario.multicasts
    → IsCaused scenario causes schedule
    → IsCausedReached (scenario_from scenario x) causes x (time_from scenario x schedule)

-- Where such windows of the scenario in which the issue of a message is known say that the target is delivered within a time from there, no run in which messages follow their causes has a greater one.
abbrev pub ClosedOverCaused : Type 0
ClosedOverCaused =
    (scenario : Scenario) (causes : List Cause) (x most : ℕ) (windows : Windows)
    → IsScenario scenario
    → AreCauses scenario causes
    → x < length scenario.multicasts
    → IsScenario (scenario_from scenario x)
    → EncloseCaused (scenario_from scenario x) causes windows
    → IsTrue (is_before (scenario_from scenario x) windows ((message_at (scenario_from scenario x) x).at + most + 1))
    → IsUpperOfCaused scenario causes x most

-- So in a scenario that is closed for a time from the issue of a message, no run in which messages follow their causes has a greater one.
abbrev pub ClosedByCauses : Type 0
ClosedByCauses =
    (scenario : Scenario) (causes : List Cause) (x : ℕ) (within : List ℕ) (most : ℕ)
    → IsScenario scenario
    → AreCauses scenario causes
    → x < length scenario.multicasts
    → IsTrue (closes_by scenario causes x within most)
    → IsUpperOfCaused scenario causes x most

-- And where some run has such a time, it is the greatest.
abbrev pub MetUpperIsGreatest : Type 0
MetUpperIsGreatest =
    (scenario : Scenario) (causes : List Cause) (x latency : ℕ)
    → IsCausedReached scenario causes x latency
    → IsUpperOfCaused scenario causes x latency
    → IsGreatestCaused scenario causes x latency
