-- Worked rows: what the definitions of the reader give for some tables.
use Rattle.std.proofs.Common.{◌≡◌, refl, true, false, pos, negsuc, [], ◌∷◌, Option, Some, None, ℕ, ℤ, List, Result, Ok, Err, codes}
use Rattle.toml.specs.Data.{Data, Items, no_items, item, Members, no_members, member, string, integer, boolean, array, table}
use Rattle.convoy_draft.specs.declared.fault.ScenarioFault.{ScenarioFault}
use Rattle.convoy_draft.specs.declared.fault.ScenarioFault.TheVariants.{Shape, NotWhole, OverLimit, NoDestination, NoRange}
use Rattle.convoy_draft.specs.declared.fault.Key.TheVariants as key
use Rattle.convoy_draft.specs.declared.fault.Limit.TheVariants as limit
use Rattle.convoy_scenario.specs.declared.sender.Sender.TheVariants.{Client, Group}
use Rattle.convoy_draft.specs.declared.time.Time.{Time}
use Rattle.convoy_draft.specs.declared.time.Time.TheVariants.{Ticks, Real}
use Rattle.convoy_draft.specs.Durations.{duration_of}
use Rattle.convoy_scenario.specs.Scenario.{Link, Scenario, message_at}
use Rattle.convoy_scenario.specs.Widened.{target_wait}
use Rattle.convoy_scenario.proofs.RowScenarios.{of_two}
use Rattle.convoy_lines.specs.Results.{◌>>=◌}
use Rattle.convoy_toml.specs.Reading.{as_written, input_of_table, of_any_target, scenario_of_input}
use Rattle.convoy_toml.specs.Shape.{link_of_table}
use Rattle.convoy_toml.specs.Times.{divisor_within}

-- a table of one message, with further members at the top, in the message and in the target
abbrev message_table : Members → Members
message_table more = member (codes "at") (integer (pos 0)) (member (codes "name") (string (codes "t")) (member (codes "to") (array (item (string (codes "a")) no_items)) more))

abbrev target_table : Members → Members
target_table more = member (codes "group") (string (codes "a")) (member (codes "message") (string (codes "t")) more)

abbrev top : Items → Members → Members → Members
top messages target more = member (codes "delay") (integer (pos 3)) (member (codes "groups") (array (item (string (codes "a")) no_items))
    (member (codes "multicast") (array messages) (member (codes "target") (table target) more)))

abbrev one : Members → Items
one message = item (table message) no_items

abbrev odd : Members
odd = member (codes "zone") (boolean true) no_members

-- the scenario of a table
abbrev scenario_of_table : Members → Result Scenario ScenarioFault
scenario_of_table members = scenario_of_input (input_of_table as_written members)

-- these groups, and one message of a client to the group of that number, at which its latency is asked
abbrev lone : List (List ℕ) → ℕ → Scenario
lone groups group =
    record (of_two Ticks 3 (record { name = codes "t"; sender = Client 0; destinations = group ∷ []; at = 0; longest_wait = 0 } ∷ []) 0 group) {
      groups = groups;
    }

table_read : scenario_of_table (top (one (message_table no_members)) (target_table no_members) no_members) ≡ Ok (lone (codes "a" ∷ []) 0)
table_read = refl

empty_table : scenario_of_table no_members ≡ Err (Shape key.Delay)
empty_table = refl

no_target : scenario_of_table (member (codes "delay") (integer (pos 0)) (member (codes "groups") (array no_items) (member (codes "multicast") (array no_items) odd))) ≡ Err (Shape key.Target)
no_target = refl

message_no_table : scenario_of_table (top (item (table odd) (item (boolean true) no_items)) no_members odd) ≡ Err (Shape key.Multicast)
message_no_table = refl

sender_no_text : scenario_of_table (top (one (member (codes "from") (boolean true) (message_table odd))) no_members odd) ≡ Err (Shape key.From)
sender_no_text = refl

odd_in_message : scenario_of_table (top (one (message_table odd)) no_members odd) ≡ Err (Shape key.Unknown)
odd_in_message = refl

odd_in_target : scenario_of_table (top (one (message_table no_members)) (target_table odd) no_members) ≡ Err (Shape key.Unknown)
odd_in_target = refl

odd_at_top : scenario_of_table (top no_items (target_table no_members) odd) ≡ Err (Shape key.Unknown)
odd_at_top = refl

-- the members of a schedule, before further members
abbrev given : Items → Members → Members
given delays more = member (codes "schedule") (array delays) more

schedule_given : input_of_table as_written (top (one (message_table no_members)) (target_table no_members) (given (item (integer (pos 3)) (item (integer (negsuc 4)) no_items)) no_members)) ≡ Ok (record {
  scenario = lone (codes "a" ∷ []) 0;
  schedule = Some (pos 3 ∷ negsuc 4 ∷ []);
  order = None;
})
schedule_given = refl

schedule_no_array : scenario_of_table (top no_items (target_table no_members) (member (codes "schedule") (integer (pos 3)) odd)) ≡ Err (Shape key.Schedule)
schedule_no_array = refl

schedule_of_texts : scenario_of_table (top no_items (target_table no_members) (given (item (integer (pos 3)) (item (string (codes "a")) no_items)) odd)) ≡ Err (Shape key.Schedule)
schedule_of_texts = refl

schedule_after_target : scenario_of_table (top no_items (target_table odd) (member (codes "schedule") (integer (pos 3)) no_members)) ≡ Err (Shape key.Unknown)
schedule_after_target = refl

schedule_in_target : scenario_of_table (top no_items (target_table (given no_items no_members)) no_members) ≡ Err (Shape key.Unknown)
schedule_in_target = refl

schedule_before_limits : scenario_of_table (top no_items (target_table no_members) (given (item (boolean true) no_items) no_members)) ≡ Err (Shape key.Schedule)
schedule_before_limits = refl

no_multicast : scenario_of_table (top no_items (target_table no_members) no_members) ≡ Err (OverLimit limit.Multicasts)
no_multicast = refl

-- the members of links, after those of a scenario of one message
abbrev links_given : Items → Members
links_given links = top (one (message_table no_members)) (target_table no_members) (member (codes "link") (array links) no_members)

link_no_table : scenario_of_table (links_given (item (table odd) (item (boolean true) no_items))) ≡ Err (Shape key.Link)
link_no_table = refl

link_without_most : scenario_of_table (links_given (one (member (codes "least") (integer (pos 1)) (member (codes "to") (string (codes "a")) odd)))) ≡ Err (Shape key.Most)
unfolding link_of_table
link_without_most = refl

link_after_target : scenario_of_table (top no_items (target_table odd) (member (codes "link") (boolean true) no_members)) ≡ Err (Shape key.Unknown)
link_after_target = refl

link_before_schedule : scenario_of_table (top no_items (target_table no_members) (member (codes "link") (array (one odd)) (member (codes "schedule") (boolean true) odd))) ≡ Err (Shape key.To)
unfolding link_of_table
link_before_schedule = refl

-- ---- several links in one table

-- what a table with this target of a link and further members gives
abbrev linked : Data → Members → Result Scenario ScenarioFault
linked to more = scenario_of_table (links_given (one (member (codes "to") to (member (codes "least") (integer (pos 1)) (member (codes "most") (integer (pos 2)) more)))))

link_to_nothing : linked (array no_items) odd ≡ Err (Shape key.To)
unfolding link_of_table
link_to_nothing = refl

link_to_number : linked (array (item (string (codes "a")) (item (integer (pos 1)) no_items))) odd ≡ Err (Shape key.To)
unfolding link_of_table
link_to_number = refl

link_from_nothing : linked (integer (pos 1)) (member (codes "from") (array no_items) odd) ≡ Err (Shape key.From)
unfolding link_of_table
link_from_nothing = refl

both_no_flag : linked (string (codes "a")) (member (codes "both") (string (codes "true")) odd) ≡ Err (Shape key.Both)
unfolding link_of_table
both_no_flag = refl

both_of_clients : linked (string (codes "a")) (member (codes "both") (boolean true) odd) ≡ Err (Shape key.Both)
unfolding link_of_table
both_of_clients = refl

both_before_unknown : linked (string (codes "a")) (member (codes "both") (boolean false) odd) ≡ Err (Shape key.Unknown)
unfolding link_of_table
both_before_unknown = refl

stamps_no_flag : linked (string (codes "a")) (member (codes "stamps") (integer (pos 1)) odd) ≡ Err (Shape key.Stamps)
unfolding link_of_table
stamps_no_flag = refl

stamps_of_itself : linked (string (codes "a")) (member (codes "from") (string (codes "a")) (member (codes "stamps") (boolean true) no_members))
    ≡ Ok (record (lone (codes "a" ∷ []) 0) { links = record { sender = Group 0; to = 0; least = 1; most = 2; stamps = true } ∷ [] })
unfolding link_of_table
stamps_of_itself = refl

-- a link to another place is for no stamps of its sender to itself
stamps_from_clients : linked (string (codes "a")) (member (codes "stamps") (boolean true) no_members)
    ≡ Ok (record (lone (codes "a" ∷ []) 0) { links = record { sender = Client 0; to = 0; least = 1; most = 2; stamps = false } ∷ [] })
unfolding link_of_table
stamps_from_clients = refl

link_to_itself_alone : linked (array (item (string (codes "a")) no_items)) (member (codes "from") (string (codes "a")) (member (codes "both") (boolean false) no_members))
    ≡ Ok (record (lone (codes "a" ∷ []) 0) { links = record { sender = Group 0; to = 0; least = 1; most = 2; stamps = false } ∷ [] })
unfolding link_of_table
link_to_itself_alone = refl

-- ---- the target left out

-- a scenario of one message without a target, whatever else stands there
abbrev untargeted : Members → Members
untargeted more = member (codes "delay") (integer (pos 3)) (member (codes "groups") (array (item (string (codes "b")) (item (string (codes "a")) no_items)))
    (member (codes "multicast") (array (one (message_table no_members))) more))

target_left_out : scenario_of_input (input_of_table of_any_target (untargeted no_members)) ≡ Ok (lone (codes "b" ∷ codes "a" ∷ []) 1)
target_left_out = refl

-- the first message is left out as the target where it has a window, unless each has one
first_without_window : scenario_of_input (input_of_table of_any_target (member (codes "delay") (integer (pos 3)) (member (codes "groups") (array (item (string (codes "a")) no_items))
    (member (codes "multicast") (array (item (table (message_table (member (codes "until") (integer (pos 1)) no_members))) (one (member (codes "name") (string (codes "y")) (member (codes "at") (integer (pos 2)) (member (codes "to") (array (item (string (codes "a")) no_items)) no_members)))))) no_members))))
    >>= (λ scenario. Ok scenario.target_message) ≡ Ok 1
first_without_window = refl

first_with_window : scenario_of_input (input_of_table of_any_target (member (codes "delay") (integer (pos 3)) (member (codes "groups") (array (item (string (codes "a")) no_items))
    (member (codes "multicast") (array (one (message_table (member (codes "until") (integer (pos 1)) no_members)))) no_members))))
    >>= (λ scenario. Ok (target_wait scenario)) ≡ Ok 1
first_with_window = refl

target_needed : scenario_of_table (untargeted no_members) ≡ Err (Shape key.Target)
target_needed = refl

target_no_table : scenario_of_input (input_of_table of_any_target (untargeted (member (codes "target") (boolean true) no_members))) ≡ Err (Shape key.Target)
target_no_table = refl

target_without_destination :
    scenario_of_input (input_of_table of_any_target (member (codes "delay") (integer (pos 3)) (member (codes "groups") (array (item (string (codes "a")) no_items))
    (member (codes "multicast") (array (one (member (codes "at") (integer (pos 0)) (member (codes "name") (string (codes "t")) (member (codes "to") (array no_items) no_members))))) no_members)))) ≡ Err NoDestination
target_without_destination = refl

-- ---- how time goes

-- how time goes by a text that has this value at the key, before all that a scenario has besides
abbrev timed : Data → Members
timed value = member (codes "time") value (top (one (message_table no_members)) (target_table no_members) no_members)

abbrev time_read : Members → Result Time ScenarioFault
time_read members = scenario_of_table members >>= λ scenario. Ok scenario.time

-- the least delay of what goes by no link, before further members
abbrev least_of : Data → Members → Members
least_of least more = member (codes "least") least more

time_real : time_read (least_of (integer (pos 1)) (timed (string (codes "real")))) ≡ Ok Real
time_real = refl

time_ticks : time_read (timed (string (codes "ticks"))) ≡ Ok Ticks
time_ticks = refl

time_of_no_kind : time_read (timed (string (codes "reals"))) ≡ Err (Shape key.Time)
time_of_no_kind = refl

time_in_capitals : time_read (timed (string (codes "Real"))) ≡ Err (Shape key.Time)
time_in_capitals = refl

time_no_text : time_read (timed (boolean true)) ≡ Err (Shape key.Time)
time_no_text = refl

-- ---- ranges in real time

no_range : time_read (timed (string (codes "real"))) ≡ Err NoRange
no_range = refl

-- the links of a scenario
abbrev links_read : Members → Result (List Link) ScenarioFault
links_read members = scenario_of_table members >>= λ scenario. Ok scenario.links

-- from clients to the first group, with this range
abbrev from_clients : ℕ → ℕ → Link
from_clients least most = record { sender = Client 0; to = 0; least = least; most = most; stamps = false }

least_of_all : links_read (least_of (integer (pos 2)) (timed (string (codes "real")))) ≡ Ok (from_clients 2 3 ∷ [])
least_of_all = refl

least_of_a_tick : links_read (least_of (integer (pos 1)) (timed (string (codes "real")))) ≡ Ok []
least_of_a_tick = refl

least_of_nothing : links_read (least_of (integer (pos 0)) (timed (string (codes "real")))) ≡ Err (OverLimit limit.Least)
least_of_nothing = refl

least_above_delay : links_read (least_of (integer (pos 4)) (timed (string (codes "real")))) ≡ Err (OverLimit limit.Least)
least_above_delay = refl

least_in_whole_ticks : links_read (least_of (integer (pos 1)) (timed (string (codes "ticks")))) ≡ Err (Shape key.Least)
least_in_whole_ticks = refl

-- a group that sends to itself alone, in real time
to_itself : time_read (member (codes "time") (string (codes "real")) (top (one (member (codes "from") (string (codes "a")) (message_table no_members))) (target_table no_members) no_members)) ≡ Ok Real
to_itself = refl

-- a message of a client in real time, without a greatest delay, with a link that has a range, and further members
abbrev linked_alone : Members → Members
linked_alone more =
    member (codes "time") (string (codes "real")) (member (codes "groups") (array (item (string (codes "a")) no_items))
    (member (codes "multicast") (array (one (message_table no_members))) (member (codes "target") (table (target_table no_members))
    (member (codes "link") (array (one (member (codes "least") (integer (pos 2)) (member (codes "most") (integer (pos 5)) (member (codes "to") (string (codes "a")) no_members))))) more))))

-- D of a scenario
abbrev delay_read : Members → Result ℕ ScenarioFault
delay_read members = scenario_of_table members >>= λ scenario. Ok scenario.delay

greatest_of_links : (delay_read (linked_alone no_members) ≡ Ok 5) × (links_read (linked_alone no_members) ≡ Ok (from_clients 2 5 ∷ []))
unfolding link_of_table
greatest_of_links = (refl, refl)

delay_beside_least : links_read (linked_alone (least_of (integer (pos 1)) no_members)) ≡ Err (Shape key.Delay)
delay_beside_least = refl

time_before_delay : time_read (member (codes "time") (integer (pos 0)) no_members) ≡ Err (Shape key.Time)
time_before_delay = refl

time_in_message : scenario_of_table (top (one (message_table (member (codes "time") (string (codes "real")) no_members))) (target_table no_members) no_members) ≡ Err (Shape key.Unknown)
time_in_message = refl

-- ---- the order of ties

-- the order that a text gives beside the scenario
abbrev order_read : Members → Result (Option (List ℤ)) ScenarioFault
order_read more = input_of_table as_written (top (one (message_table no_members)) (target_table no_members) more) >>= λ input. Ok input.order

order_given : order_read (member (codes "order") (array (item (integer (pos 1)) (item (integer (negsuc 4)) no_items))) no_members) ≡ Ok (Some (pos 1 ∷ negsuc 4 ∷ []))
order_given = refl

order_empty : order_read (member (codes "order") (array no_items) no_members) ≡ Ok (Some [])
order_empty = refl

order_absent : order_read no_members ≡ Ok None
order_absent = refl

order_no_array : order_read (member (codes "order") (integer (pos 1)) odd) ≡ Err (Shape key.Order)
order_no_array = refl

order_of_texts : order_read (member (codes "order") (array (item (string (codes "a")) no_items)) odd) ≡ Err (Shape key.Order)
order_of_texts = refl

order_after_schedule : order_read (member (codes "order") (boolean true) (member (codes "schedule") (boolean true) odd)) ≡ Err (Shape key.Schedule)
order_after_schedule = refl

-- ---- durations

-- a scenario of one message in real time, with this D, which each packet takes, this tick of issue and further members at the top
abbrev lasting : Data → Data → Members → Members
lasting delay at more =
    member (codes "time") (string (codes "real")) (member (codes "delay") delay (least_of delay (member (codes "groups") (array (item (string (codes "a")) no_items))
    (member (codes "multicast") (array (one (member (codes "at") at (member (codes "name") (string (codes "t")) (member (codes "to") (array (item (string (codes "a")) no_items)) no_members)))))
    (member (codes "target") (table (target_table no_members)) more)))))

-- the nanoseconds of a tick, D and the tick of issue
abbrev ticks_read : Members → Result (Option ℕ × ℕ × ℕ) ScenarioFault
ticks_read members = scenario_of_table members >>= λ scenario. Ok (scenario.tick, scenario.delay, (message_at scenario 0).at)

-- a member that tells the length of a tick
abbrev tick_of : List ℕ → Members
tick_of text = member (codes "tick") (string text) no_members

greatest_divisor : ticks_read (lasting (string (codes "0.08 us")) (string (codes "35ns")) no_members) ≡ Ok (Some 5, 16, 7)
unfolding duration_of divisor_within
greatest_divisor = refl

tick_given : ticks_read (lasting (string (codes "80 ms")) (string (codes "0 s")) (tick_of (codes "10 us"))) ≡ Ok (Some 10_000, 8_000, 0)
unfolding duration_of divisor_within
tick_given = refl

numbers_with_tick : ticks_read (lasting (integer (pos 3)) (string (codes "1 ms")) (tick_of (codes "500 us"))) ≡ Ok (Some 500_000, 3, 2)
unfolding duration_of divisor_within
numbers_with_tick = refl

numbers_alone : ticks_read (lasting (integer (pos 65_535)) (integer (pos 9)) no_members) ≡ Ok (None, 65_535, 9)
unfolding duration_of divisor_within
numbers_alone = refl

no_whole_number : ticks_read (lasting (string (codes "80 ms")) (string (codes "0.35 ms")) (tick_of (codes "100 us"))) ≡ Err (NotWhole key.At)
unfolding duration_of divisor_within
no_whole_number = refl

mixed : ticks_read (lasting (integer (pos 3)) (string (codes "1 ms")) no_members) ≡ Err (Shape key.Tick)
unfolding duration_of divisor_within
mixed = refl

tick_of_nothing : ticks_read (lasting (string (codes "80")) (boolean true) (tick_of (codes "0 ms"))) ≡ Err (Shape key.Tick)
unfolding duration_of divisor_within
tick_of_nothing = refl

without_unit : ticks_read (lasting (string (codes "80")) (boolean true) no_members) ≡ Err (Shape key.Delay)
unfolding duration_of divisor_within
without_unit = refl

too_many_ticks : ticks_read (lasting (string (codes "80 ms")) (string (codes "1 us")) (tick_of (codes "1 us"))) ≡ Err (OverLimit limit.Delay)
unfolding duration_of divisor_within
too_many_ticks = refl

tick_in_whole_ticks : scenario_of_table (member (codes "tick") (string (codes "1 ms")) no_members) ≡ Err (Shape key.Tick)
tick_in_whole_ticks = refl

duration_in_whole_ticks : scenario_of_table (member (codes "delay") (string (codes "1 ms")) no_members) ≡ Err (Shape key.Delay)
duration_in_whole_ticks = refl

-- ---- windows

-- a message that may be issued from the one time until the other, with further members
abbrev window_table : Data → Data → Members → Members
window_table at until more = member (codes "at") at (member (codes "name") (string (codes "y")) (member (codes "to") (array (item (string (codes "a")) no_items)) (member (codes "until") until more)))

-- the target's message, and this one
abbrev with_rival : Members → Items
with_rival rival = item (table (message_table no_members)) (one rival)

-- in whole ticks, the first tick at which the second message may be issued, and how long it waits at most
abbrev window_read : Members → Result (ℕ × ℕ) ScenarioFault
window_read rival = scenario_of_table (top (with_rival rival) (target_table no_members) no_members) >>= λ scenario. Ok ((message_at scenario 1).at, (message_at scenario 1).longest_wait)

window : window_read (window_table (integer (pos 2)) (integer (pos 10)) no_members) ≡ Ok (2, 8)
window = refl

window_of_one_tick : window_read (window_table (integer (pos 2)) (integer (pos 2)) no_members) ≡ Ok (2, 0)
window_of_one_tick = refl

widest_window : window_read (window_table (integer (pos 1_000_000)) (integer (pos 1_065_535)) no_members) ≡ Ok (1_000_000, 65_535)
widest_window = refl

too_wide : window_read (window_table (integer (pos 0)) (integer (pos 65_536)) no_members) ≡ Err (OverLimit limit.Until)
too_wide = refl

until_before_at : window_read (window_table (integer (pos 2)) (integer (pos 1)) no_members) ≡ Err (OverLimit limit.Until)
until_before_at = refl

at_over_limit_first : window_read (window_table (integer (pos 1_000_001)) (integer (pos 1)) no_members) ≡ Err (OverLimit limit.At)
at_over_limit_first = refl

until_no_time : window_read (window_table (integer (pos 2)) (string (codes "x")) odd) ≡ Err (Shape key.Until)
until_no_time = refl

until_after_at : window_read (window_table (boolean true) (string (codes "x")) odd) ≡ Err (Shape key.At)
until_after_at = refl

until_before_unknown : window_read (window_table (integer (pos 2)) (integer (pos 10)) odd) ≡ Err (Shape key.Unknown)
until_before_unknown = refl

until_in_whole_ticks : window_read (window_table (integer (pos 2)) (string (codes "10 ms")) no_members) ≡ Err (Shape key.Until)
until_in_whole_ticks = refl

until_at_top : scenario_of_table (top (one (message_table no_members)) (target_table no_members) (member (codes "until") (integer (pos 10)) no_members)) ≡ Err (Shape key.Unknown)
until_at_top = refl

-- how long the target waits at most, where it may be issued from tick 0 until the first tick, and the second message from tick 0 until the other
abbrev target_wait_read : ℕ → ℕ → Result ℕ ScenarioFault
target_wait_read until other =
    scenario_of_table (top (item (table (message_table (member (codes "until") (integer (pos until)) no_members))) (one (window_table (integer (pos 0)) (integer (pos other)) no_members)))
    (target_table no_members) no_members)
    >>= λ scenario. Ok (target_wait scenario)

target_with_until : target_wait_read 1 65_534 ≡ Ok 1
target_with_until = refl

target_without_room : target_wait_read 2 65_534 ≡ Err (OverLimit limit.Until)
target_without_room = refl

target_until_its_tick : scenario_of_table (top (one (message_table (member (codes "until") (integer (pos 0)) no_members))) (target_table no_members) no_members) ≡ scenario_of_table (top (one (message_table no_members)) (target_table no_members) no_members)
target_until_its_tick = refl

-- in real time, the nanoseconds of a tick, the first tick at which the second message may be issued, and how long it waits at most
abbrev lasting_window : Data → Data → Members → Result (Option ℕ × ℕ × ℕ) ScenarioFault
lasting_window at until more =
    scenario_of_table (member (codes "time") (string (codes "real")) (member (codes "delay") (string (codes "80 ns")) (least_of (string (codes "80 ns")) (member (codes "groups") (array (item (string (codes "a")) no_items))
    (member (codes "multicast")
    (array (item (table (member (codes "at") (string (codes "0 s")) (member (codes "name") (string (codes "t")) (member (codes "to") (array (item (string (codes "a")) no_items)) no_members)))) (one (window_table at until no_members))))
    (member (codes "target") (table (target_table no_members)) more))))))
    >>= λ scenario. Ok (scenario.tick, (message_at scenario 1).at, (message_at scenario 1).longest_wait)

divisor_of_window : lasting_window (string (codes "20 ns")) (string (codes "35 ns")) no_members ≡ Ok (Some 5, 4, 3)
unfolding duration_of divisor_within
divisor_of_window = refl

until_in_ticks : lasting_window (string (codes "20 ns")) (integer (pos 30)) (tick_of (codes "10 ns")) ≡ Ok (Some 10, 2, 28)
unfolding duration_of divisor_within
until_in_ticks = refl

until_mixed : lasting_window (string (codes "20 ns")) (integer (pos 30)) no_members ≡ Err (Shape key.Tick)
unfolding duration_of divisor_within
until_mixed = refl

no_whole_until : lasting_window (string (codes "20 ns")) (string (codes "35 ns")) (tick_of (codes "10 ns")) ≡ Err (NotWhole key.Until)
unfolding duration_of divisor_within
no_whole_until = refl

at_whole_first : lasting_window (string (codes "25 ns")) (string (codes "35 ns")) (tick_of (codes "10 ns")) ≡ Err (NotWhole key.At)
unfolding duration_of divisor_within
at_whole_first = refl
