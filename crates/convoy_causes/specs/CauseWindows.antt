-- Windows of the runs in which messages follow their causes: those of all runs, cut by what each cause says of its event and of the message that follows it.
use Rattle.std.specs.Prelude.{ℕ, ◌+◌, ◌-◌, ◌*◌, ◌≤◌, min, nat_lt, Bool, true, false, ◌&&◌, ◌||◌, List, zip, ◌∷◌, length, map, reverse, if◌then◌else◌}
use Rattle.std.specs.List.{fold, list_all}
use Rattle.convoy_draft.specs.declared.limits.TheConstants.{GREATEST_UNTIL}
use Rattle.convoy_scenario.specs.Scenario.{Scenario, message_at}
use Rattle.convoy_scenario.specs.Targets.{may_be_target, with_target}
use Rattle.convoy_scenario.specs.Widened.{widened}
use Rattle.convoy_packets.specs.declared.packet.Packet.TheVariants.{Multicast}
use Rattle.convoy_packets.specs.Assignment.{Schedule, delay_of}
use Rattle.convoy_packets.specs.Table.{least_of}
use Rattle.convoy_sim.specs.Times.{Tick, greatest}
use Rattle.convoy_sim.specs.Delivery.{deliver}
use Rattle.convoy_intervals.specs.Boxes.{root_of}
use Rattle.convoy_intervals.specs.Bounds.{rivals}
use Rattle.convoy_sure.specs.Windows.{EnclosesAll, Windows, tables_by, windows_of, with_arrival, with_arrival_by, with_commit, with_commit_by}
use Rattle.convoy_leads.specs.Closing.{is_behind_late}
use Rattle.convoy_causes.specs.declared.cause.Cause.{Cause}
use Rattle.convoy_causes.specs.declared.event.Event.{Event}
use Rattle.convoy_causes.specs.declared.event.Event.TheVariants.{Issue, Arrival, Commit, Delivery}
use Rattle.convoy_causes.specs.Causes.{IsCaused, IsFollowing}

-- the least delay of message m on its way to group g
abbrev pub least_way : Scenario → ℕ → ℕ → ℕ
least_way scenario m g = delay_of scenario (least_of (root_of scenario)) (Multicast m g)

-- ---- when a message is issued, by windows of its arrivals
-- no sooner than this tick: it comes to each of its destinations within the greatest delay to there
abbrev pub earliest_issue : Scenario → Windows → ℕ → Tick
earliest_issue scenario windows m =
    let tables = tables_by windows in
    greatest (map (λ g. tables.times.least_arrival m g - tables.greatest_multicast m g) (message_at scenario m).destinations)

-- no later than this tick: to each of its destinations it takes the least delay at least; and no message is issued past the last tick of all
abbrev pub latest_issue : Scenario → Windows → ℕ → Tick
latest_issue scenario windows m =
    fold min GREATEST_UNTIL
    (map (λ g. (tables_by windows).times.greatest_arrival m g - least_way scenario m g) (message_at scenario m).destinations)

-- ---- cuts
-- the windows cut: message m is issued at that tick or later; no message is issued past the last tick of all
abbrev pub with_issue_since : Scenario → ℕ → Tick → Windows → Windows
with_issue_since scenario m tick windows =
    fold (λ cut g. with_arrival scenario cut m g (min GREATEST_UNTIL tick + least_way scenario m g)) windows (message_at scenario m).destinations

-- the last tick at which message m is committed at group g, by windows of its arrivals: its last stamp comes there then
abbrev pub latest_commit : Scenario → Windows → ℕ → ℕ → Tick
latest_commit scenario windows m g =
    greatest (map (λ h. (tables_by windows).times.greatest_arrival m h + (tables_by windows).greatest_proposal m h g) (message_at scenario m).destinations)

-- the windows cut: message m is committed at each group no later than that
abbrev pub with_latest_commits : Scenario → ℕ → Windows → Windows
with_latest_commits scenario m windows =
    fold (λ cut g. with_commit_by scenario cut m g (latest_commit scenario cut m g)) windows (message_at scenario m).destinations

-- the windows cut: message m is issued by that tick
abbrev pub with_issue_until : Scenario → ℕ → Tick → Windows → Windows
with_issue_until scenario m tick windows =
    with_latest_commits scenario m
    (fold (λ cut g. with_arrival_by scenario cut m g (min GREATEST_UNTIL tick + (tables_by cut).greatest_multicast m g)) windows (message_at scenario m).destinations)

-- the windows cut: the event of message x at group g comes at that tick or later. A delivery that does tells nothing: it may be late where the commit is not
abbrev pub with_event_since : Scenario → Event → ℕ → ℕ → Tick → Windows → Windows
with_event_since scenario Issue x g tick windows = with_issue_since scenario x tick windows
with_event_since scenario Arrival x g tick windows = with_arrival scenario windows x g tick
with_event_since scenario Commit x g tick windows = with_commit windows x g tick
with_event_since scenario Delivery x g tick windows = windows

-- the windows cut: it comes by that tick. What is delivered by then is committed by then
abbrev pub with_event_until : Scenario → Event → ℕ → ℕ → Tick → Windows → Windows
with_event_until scenario Issue x g tick windows = with_issue_until scenario x tick windows
with_event_until scenario Arrival x g tick windows = with_latest_commits scenario x (with_arrival_by scenario windows x g tick)
with_event_until scenario Commit x g tick windows = with_latest_commits scenario x (with_commit_by scenario windows x g tick)
with_event_until scenario Delivery x g tick windows = with_latest_commits scenario x (with_commit_by scenario windows x g tick)

-- ---- when an event comes, by windows
abbrev pub earliest_event : Scenario → Windows → Event → ℕ → ℕ → Tick
earliest_event scenario windows Issue x g = earliest_issue scenario windows x
earliest_event scenario windows Arrival x g = (tables_by windows).times.least_arrival x g
earliest_event scenario windows Commit x g = (tables_by windows).times.least_settling x g
earliest_event scenario windows Delivery x g = (tables_by windows).times.least_settling x g

-- a message is delivered within four times the greatest delay from its issue
abbrev pub latest_event : Scenario → Windows → Event → ℕ → ℕ → Tick
latest_event scenario windows Issue x g = latest_issue scenario windows x
latest_event scenario windows Arrival x g = (tables_by windows).times.greatest_arrival x g
latest_event scenario windows Commit x g = (tables_by windows).times.greatest_settling x g
latest_event scenario windows Delivery x g = latest_issue scenario windows x + 4 * scenario.delay

-- ---- what a cause says
-- of its event: the message that follows is issued after it, within what is said
abbrev pub with_event_before : Scenario → Cause → Windows → Windows
with_event_before scenario cause windows =
    with_event_until scenario cause.event cause.message cause.group (latest_issue scenario windows cause.effect - cause.least)
    (with_event_since scenario cause.event cause.message cause.group (earliest_issue scenario windows cause.effect - cause.most) windows)

-- of the message that follows: it is issued so long after the event
abbrev pub with_effect_after : Scenario → Cause → Windows → Windows
with_effect_after scenario cause windows =
    with_issue_until scenario cause.effect (latest_event scenario windows cause.event cause.message cause.group + cause.most)
    (with_issue_since scenario cause.effect (earliest_event scenario windows cause.event cause.message cause.group + cause.least) windows)

-- the windows cut by all causes: from the last that follows to the first, what is said of events, and from the first to the last, what is said of the messages that follow
abbrev pub with_causes : Scenario → List Cause → Windows → Windows
with_causes scenario causes windows =
    fold (λ cut cause. with_effect_after scenario cause cut)
    (fold (λ cut cause. with_event_before scenario cause cut) windows (reverse causes)) causes

-- ---- what is closed
-- the target is delivered before that tick, by windows: it is committed, and each rival that is not is behind
abbrev pub is_before : Scenario → Windows → Tick → Bool
is_before scenario windows tick =
    nat_lt ((tables_by windows).times.greatest_settling scenario.target_message scenario.target_group) tick
    && list_all (is_behind_late scenario windows tick) (rivals scenario (tables_by windows).times)

-- the last commit of the target and its rivals at its group, by windows
abbrev pub last_settling : Scenario → Windows → Tick
last_settling scenario windows =
    greatest (map (λ n. (tables_by windows).times.greatest_settling n scenario.target_group)
    (scenario.target_message ∷ rivals scenario (tables_by windows).times))

-- the windows of all assignments
abbrev pub all_windows : Scenario → Windows
all_windows scenario = windows_of scenario (root_of scenario)

-- ---- when what a message follows is delivered at the latest
-- an event is a delivery
abbrev pub is_delivery : Event → Bool
is_delivery Delivery = true
is_delivery other = false

-- the last of so many ticks from the first at which message x may be issued
abbrev pub tick_within : Scenario → ℕ → ℕ → Tick
tick_within scenario x within = (message_at scenario x).at + within

-- what a cause follows is delivered at its group within so many ticks, by windows as they are, or cut by what is so if it is not: what follows that delivery is issued after the next tick then, and by all causes
abbrev pub is_delivered_within : Scenario → List Cause → Cause → ℕ → Windows → Bool
is_delivered_within scenario causes cause within windows =
    let goal = with_target scenario cause.message cause.group in
    let tick = tick_within scenario cause.message within in
    is_before goal windows (tick + 1)
    || is_before goal (with_causes scenario causes (with_issue_since scenario cause.effect (tick + 1 + cause.least) windows)) (tick + 1)

-- a message follows a delivery that can be asked about
abbrev pub follows_delivery : Scenario → Cause → Bool
follows_delivery scenario cause = is_delivery cause.event && may_be_target scenario cause.message

-- the windows cut by when the message that follows is issued at the latest: where it follows a delivery that comes within so many ticks, by that; and else by what windows say of its event
abbrev pub with_effect_within : Scenario → List Cause → Windows → Cause → ℕ → Windows
with_effect_within scenario causes windows cause within =
    if follows_delivery scenario cause && is_delivered_within scenario causes cause within windows
    then with_issue_until scenario cause.effect (tick_within scenario cause.message within + cause.most) windows
    else with_effect_after scenario cause windows

-- the windows of all runs in which messages follow their causes: cut by all of these, then by each in turn with its number of ticks, and by all of them again
abbrev pub narrowed : Scenario → List Cause → List ℕ → Windows
narrowed scenario causes within =
    with_causes scenario causes
    (fold (λ cut step. with_effect_within scenario causes cut step.0 step.1) (with_causes scenario causes (all_windows scenario)) (zip causes within))

-- the scenario in which the issue of message x is known: that is issued at the end of its window, and each other message may wait longer by as much as it might
abbrev pub scenario_from : Scenario → ℕ → Scenario
scenario_from scenario x = with_target (widened (with_target scenario x scenario.target_group)) scenario.target_message scenario.target_group

-- that one is within the limits of scenarios
abbrev pub has_room_from : Scenario → ℕ → Bool
has_room_from scenario x = may_be_target scenario x && may_be_target (widened (with_target scenario x scenario.target_group)) scenario.target_message

-- the message is one of the scenario, and there is room to know its issue
abbrev pub may_be_origin : Scenario → ℕ → Bool
may_be_origin scenario x = nat_lt x (length scenario.multicasts) && has_room_from scenario x

-- the scenario is closed for a time from the issue of message x, where each delivery that is followed comes within so many ticks: there is room to know that issue, and no run in which messages follow their causes has a greater one
unfoldable pub closes_by : Scenario → List Cause → ℕ → List ℕ → ℕ → Bool
closes_by scenario causes x within most =
    let known = scenario_from scenario x in
    has_room_from scenario x && is_before known (narrowed known causes within) ((message_at known x).at + most + 1)

-- ---- of each run in which messages follow their causes
-- the windows enclose it
abbrev pub EncloseCaused : Scenario → List Cause → Windows → Type 0
EncloseCaused scenario causes windows =
    (schedule : Schedule) → IsCaused scenario causes schedule → EnclosesAll scenario schedule (tables_by windows)

-- in it a message follows by that cause, too
abbrev pub FollowsToo : Scenario → List Cause → Cause → Type 0
FollowsToo scenario causes cause = (schedule : Schedule) → IsCaused scenario causes schedule → IsFollowing scenario schedule cause

-- in it message m is delivered at group g by that tick
abbrev pub IsDeliveredBy : Scenario → List Cause → ℕ → ℕ → Tick → Type 0
IsDeliveredBy scenario causes m g tick = (schedule : Schedule) → IsCaused scenario causes schedule → deliver scenario schedule m g ≤ tick
