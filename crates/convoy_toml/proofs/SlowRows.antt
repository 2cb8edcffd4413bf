-- Worked rows: slow messages, each of which is sent from a place of its own.
use Rattle.std.proofs.Common.{◌≡◌, refl, false, pos, negsuc, [], ◌∷◌, map, None, ℕ, List, Result, Ok, Err, codes}
use Rattle.toml.specs.Data.{Data, no_items, item, Members, no_members, member, string, integer, array, table}
use Rattle.toml.specs.View.{items_of}
use Rattle.convoy_lines.specs.Results.{◌>>=◌}
use Rattle.convoy_draft.specs.declared.fault.Key.TheVariants as key
use Rattle.convoy_draft.specs.declared.fault.Limit.TheVariants as limit
use Rattle.convoy_draft.specs.declared.fault.ScenarioFault.{ScenarioFault}
use Rattle.convoy_draft.specs.declared.fault.ScenarioFault.TheVariants.{DoubleName, NoRange, OverLimit, Shape}
use Rattle.convoy_draft.specs.declared.time.Time.TheVariants.{Ticks}
use Rattle.convoy_draft.specs.Durations.{duration_of}
use Rattle.convoy_scenario.specs.declared.sender.Sender.{Sender}
use Rattle.convoy_scenario.specs.declared.sender.Sender.TheVariants.{Client, Group}
use Rattle.convoy_scenario.specs.Scenario.{Link, Scenario}
use Rattle.convoy_toml.specs.Reading.{as_written, input_of_table, scenario_of_input}
use Rattle.convoy_toml.specs.Shape.{link_of_table}
use Rattle.convoy_toml.specs.Times.{divisor_within}

-- ---- tables

-- the key `least` and the key `most`, before further members
abbrev ranged : Data → Data → Members → Members
ranged least most more = member (codes "least") least (member (codes "most") most more)

-- a message of that name to these groups, with further members
abbrev message_table : List ℕ → List (List ℕ) → Members → Data
message_table name to more =
    table (member (codes "at") (integer (pos 0)) (member (codes "name") (string name) (member (codes "to") (array (items_of (map string to))) more)))

abbrev from_b : Members → Members
from_b more = member (codes "from") (string (codes "b")) more

-- a table of links from there to there
abbrev link_table : List (List ℕ) → List (List ℕ) → Members → Data
link_table from to more = table (member (codes "from") (array (items_of (map string from))) (member (codes "to") (array (items_of (map string to))) more))

abbrev linked : List Data → Members → Members
linked links more = member (codes "link") (array (items_of links)) more

-- the groups a and b, that greatest delay, that message, with its latency asked at a, and further members
abbrev top : Data → List ℕ → List (List ℕ) → Members → Members → Members
top delay name to message more =
    member (codes "delay") delay (member (codes "groups") (array (items_of (map string (codes "a" ∷ codes "b" ∷ []))))
    (member (codes "multicast") (array (item (message_table name to message) no_items))
    (member (codes "target") (table (member (codes "group") (string (codes "a")) (member (codes "message") (string name) no_members))) more)))

abbrev real : Members → Members
real more = member (codes "time") (string (codes "real")) more

abbrev count : ℕ → Data
count ticks = integer (pos ticks)

abbrev lasting : List ℕ → Data
lasting text = string text

abbrev both_groups : List (List ℕ)
both_groups = codes "a" ∷ codes "b" ∷ []

abbrev scenario_of_table : Members → Result Scenario ScenarioFault
scenario_of_table members = scenario_of_input (input_of_table as_written members)

abbrev links_read : Members → Result (List Link) ScenarioFault
links_read members = scenario_of_table members >>= λ scenario. Ok scenario.links

abbrev link : Sender → ℕ → ℕ → ℕ → Link
link sender to least most = record { sender = sender; to = to; least = least; most = most; stamps = false }

-- ---- slow messages

-- b sends a message to a and to itself that takes 2 to 4 ticks longer: than the link from b to a, and than nothing from b to itself; stamps from b to a go by the link as it is
from_group : scenario_of_table (top (count 9) (codes "t") both_groups (from_b (ranged (count 2) (count 4) no_members)) (linked (link_table (codes "b" ∷ []) (codes "a" ∷ []) (ranged (count 1) (count 3) no_members) ∷ []) no_members)) ≡ Ok (record {
  time = Ticks;
  tick = None;
  delay = 9;
  groups = both_groups;
  places = codes "t" ∷ [];
  links = link (Client 1) 0 3 7 ∷ link (Client 1) 1 2 4 ∷ link (Group 1) 0 1 3 ∷ [];
  multicasts = record { name = codes "t"; sender = Client 1; destinations = 0 ∷ 1 ∷ []; at = 0; longest_wait = 0 } ∷ [];
  target_message = 0;
  target_group = 0;
})
unfolding link_of_table
from_group = refl

-- of several tables the first counts, and in none a link from a group to itself beside others
first_table : links_read (top (count 9) (codes "t") both_groups (from_b (ranged (count 2) (count 4) no_members)) (linked (link_table both_groups both_groups (ranged (count 1) (count 3) no_members) ∷ []) no_members))
    ≡ Ok (link (Client 1) 0 3 7 ∷ link (Client 1) 1 2 4 ∷ link (Group 0) 1 1 3 ∷ link (Group 1) 0 1 3 ∷ [])
unfolding link_of_table
first_table = refl

-- a link from b to itself alone
from_itself : links_read (top (count 9) (codes "t") (codes "b" ∷ codes "a" ∷ []) (from_b (ranged (count 2) (count 2) no_members)) (linked (link_table (codes "b" ∷ []) (codes "b" ∷ []) (ranged (count 1) (count 3) no_members) ∷ link_table (codes "b" ∷ []) (codes "a" ∷ []) (ranged (count 2) (count 2) no_members) ∷ []) no_members))
    ≡ Ok (link (Client 1) 0 4 4 ∷ link (Client 1) 1 3 5 ∷ link (Group 1) 0 2 2 ∷ link (Group 1) 1 1 3 ∷ [])
unfolding link_of_table
from_itself = refl

-- what goes by no link takes 1 to D, and longer than D nothing may take
over_delay : links_read (top (count 9) (codes "t") (codes "a" ∷ []) (ranged (count 0) (count 1) no_members) no_members) ≡ Err (OverLimit limit.Link)
over_delay = refl

not_longer : links_read (top (count 9) (codes "t") (codes "a" ∷ []) (ranged (count 8) (count 0) no_members) no_members) ≡ Err (OverLimit limit.Link)
not_longer = refl

-- by no link, and no longer: what goes by none needs no link
by_no_link : links_read (top (count 9) (codes "t") (codes "a" ∷ []) (ranged (count 0) (count 0) no_members) no_members) ≡ Ok []
by_no_link = refl

-- durations in real time: 1 to 3 ms by the link, and 2 to 4 ms longer
in_durations : links_read (real (top (lasting (codes "9 ms")) (codes "t") (codes "a" ∷ []) (from_b (ranged (lasting (codes "2 ms")) (lasting (codes "4 ms")) no_members))
    (member (codes "tick") (lasting (codes "500 us")) (linked (link_table (codes "b" ∷ []) (codes "a" ∷ []) (ranged (lasting (codes "1 ms")) (lasting (codes "3 ms")) no_members) ∷ []) no_members))))
    ≡ Ok (link (Client 1) 0 6 14 ∷ link (Group 1) 0 2 6 ∷ [])
unfolding link_of_table duration_of divisor_within
in_durations = refl

-- ---- faults

least_alone : links_read (top (count 9) (codes "t") (codes "a" ∷ []) (member (codes "least") (count 1) no_members) no_members) ≡ Err (Shape key.Most)
least_alone = refl

most_alone : links_read (top (count 9) (codes "t") (codes "a" ∷ []) (member (codes "most") (count 1) no_members) no_members) ≡ Err (Shape key.Least)
most_alone = refl

below_zero : links_read (top (count 9) (codes "t") (codes "a" ∷ []) (ranged (integer (negsuc 0)) (count 1) no_members) (linked (table (member (codes "to") (string (codes "a")) (ranged (count 2) (count 3) no_members)) ∷ []) no_members)) ≡ Err (OverLimit limit.Link)
unfolding link_of_table
below_zero = refl

-- in real time the range from its sender has to be written
no_range : links_read (real (top (count 9) (codes "t") (codes "a" ∷ []) (ranged (count 1) (count 1) no_members) (linked (link_table (codes "b" ∷ []) (codes "a" ∷ []) (ranged (count 1) (count 3) no_members) ∷ []) no_members))) ≡ Err NoRange
unfolding link_of_table
no_range = refl

-- a duration is written beside durations
mixed_least : links_read (real (top (lasting (codes "9 ms")) (codes "t") (codes "a" ∷ []) (ranged (count 1) (count 1) no_members) (member (codes "least") (lasting (codes "1 ms")) no_members))) ≡ Err (Shape key.Least)
unfolding duration_of
mixed_least = refl

mixed_most : links_read (real (top (lasting (codes "9 ms")) (codes "t") (codes "a" ∷ []) (ranged (lasting (codes "1 ms")) (count 1) no_members) (member (codes "least") (lasting (codes "1 ms")) no_members))) ≡ Err (Shape key.Most)
unfolding duration_of
mixed_most = refl

-- a share of packets outside a range
beside_share : links_read (top (count 9) (codes "t") (codes "a" ∷ []) (ranged (count 1) (count 1) no_members) (linked (table (member (codes "to") (string (codes "a")) (ranged (count 2) (count 3) (member (codes "outside") (string (codes "0.1")) no_members))) ∷ []) no_members)) ≡ Err (Shape key.Link)
unfolding link_of_table
beside_share = refl

-- its place has a name of its own
named_as_group : links_read (top (count 9) (codes "b") (codes "a" ∷ []) (ranged (count 0) (count 0) no_members) no_members) ≡ Err DoubleName
named_as_group = refl

named_as_place : links_read (top (count 9) (codes "t") (codes "a" ∷ []) (ranged (count 0) (count 0) no_members) (member (codes "places") (array (item (string (codes "t")) no_items)) no_members)) ≡ Err DoubleName
named_as_place = refl
