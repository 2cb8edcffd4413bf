-- The document of a scenario with a schedule: its lines as they are written, and the table that they are.
use Rattle.std.proofs.Common.{ℕ, ◌+◌, Bool, true, false, if◌then◌else◌, List, [], ◌∷◌, ◌++◌, map, codes, pos, Option, Some, None, option_map}
use Rattle.std.specs.List.{flat_map}
use Rattle.toml.specs.Data.{Data, string, integer, boolean, array, table, Members, no_members, member}
use Rattle.toml.specs.Tables.{Expression, key_value, std_table, array_table}
use Rattle.toml.specs.View.{items_of}
use Rattle.convoy_scenario.specs.declared.sender.Sender.{Sender}
use Rattle.convoy_draft.specs.declared.time.Time.{Time}
use Rattle.convoy_draft.specs.declared.time.Time.TheVariants.{Ticks, Real}
use Rattle.convoy_scenario.specs.Naming.{sender_name}
use Rattle.convoy_scenario.specs.Scenario.{Link, Message, Scenario, group_name_at, may_wait, message_at}
use Rattle.convoy_packets.specs.Assignment.{Schedule}
use Rattle.convoy_packets.specs.Order.{Order}
use Rattle.convoy_packets.specs.OrderLists.{is_no_order, ranks_of}
use Rattle.convoy_toml_writer.proofs.Durations.{duration_text}

-- ---- values

abbrev pub number : ℕ → Data
number n = integer (pos n)

abbrev pub numbers : List ℕ → Data
numbers ns = array (items_of (map number ns))

abbrev pub strings : List (List ℕ) → Data
strings names = array (items_of (map string names))

abbrev pub tables : List Members → Data
tables rows = array (items_of (map table rows))

-- a member that may be left out, before others
abbrev pub with_member : List ℕ → Option Data → Members → Members
with_member key None rest = rest
with_member key (Some d) rest = member key d rest

-- tables under one key, if there are any
abbrev pub some_tables : List Members → Option Data
some_tables [] = None
some_tables (row ∷ rows) = Some (tables (row ∷ rows))

-- ---- lines

-- the line of a key and its value
abbrev pub pair : List ℕ → Data → Expression
pair key d = (([], key), key_value d)

-- a line that may be left out, before others
abbrev pub with_pair : List ℕ → Option Data → List Expression → List Expression
with_pair key None rest = rest
with_pair key (Some d) rest = pair key d ∷ rest

-- the lines of pairs, some of which may be left out
abbrev pub Pairs : Type 0
Pairs = List (List ℕ × Option Data)

abbrev pub pair_lines : Pairs → List Expression
pair_lines [] = []
pair_lines (p ∷ ps) = with_pair p.0 p.1 (pair_lines ps)

-- the lines of one of several tables under a key
abbrev pub array_lines : List ℕ → Pairs → List Expression
array_lines key ps = (([], key), array_table) ∷ pair_lines ps

-- ---- a scenario's values

abbrev pub time_data : Time → Option Data
time_data Ticks = None
time_data Real = Some (string (codes "real"))

-- the least delay of what goes by no link
abbrev pub least_data : Time → Option Data
least_data Ticks = None
least_data Real = Some (number 1)

abbrev pub tick_data : Option ℕ → Option Data
tick_data None = None
tick_data (Some tick) = Some (string (duration_text tick))

abbrev pub order_data : Scenario → Order → Option Data
order_data scenario order = if is_no_order order then None else Some (numbers (ranks_of scenario order))

abbrev pub sender_data : Scenario → Sender → Option Data
sender_data scenario sender = option_map string (sender_name scenario sender)

-- that a group's own stamps go by a link, too
abbrev pub stamps_data : Bool → Option Data
stamps_data true = Some (boolean true)
stamps_data false = None

abbrev pub until_data : Message → Option Data
until_data message = if may_wait message then Some (number (message.at + message.longest_wait)) else None

abbrev pub names_data : Scenario → List ℕ → Data
names_data scenario groups = strings (map (group_name_at scenario) groups)

-- the places of clients, where there are any
abbrev pub places_data : List (List ℕ) → Option Data
places_data [] = None
places_data (place ∷ places) = Some (strings (place ∷ places))

-- the values of the keys above all tables
pub record Head : Type 0 where
  pub time : Option Data
  pub tick : Option Data
  pub delay : Data
  pub least : Option Data
  pub groups : Data
  pub places : Option Data
  pub schedule : Data
  pub order : Option Data

abbrev pub head_of : Scenario → Schedule → Head
head_of scenario schedule = record {
  time = time_data scenario.time;
  tick = tick_data scenario.tick;
  delay = number scenario.delay;
  least = least_data scenario.time;
  groups = strings scenario.groups;
  places = places_data scenario.places;
  schedule = numbers schedule.delays;
  order = order_data scenario schedule.order;
}

-- ---- in the order in which they are written

abbrev pub head_pairs : Head → Pairs
head_pairs head =
    (codes "time", head.time) ∷ (codes "tick", head.tick) ∷ (codes "delay", Some head.delay) ∷ (codes "least", head.least)
    ∷ (codes "groups", Some head.groups) ∷ (codes "places", head.places) ∷ (codes "schedule", Some head.schedule) ∷ (codes "order", head.order) ∷ []

abbrev pub link_pairs : Scenario → Link → Pairs
link_pairs scenario link =
    (codes "from", sender_data scenario link.sender) ∷ (codes "to", Some (string (group_name_at scenario link.to)))
    ∷ (codes "least", Some (number link.least)) ∷ (codes "most", Some (number link.most)) ∷ (codes "stamps", stamps_data link.stamps) ∷ []

abbrev pub message_pairs : Scenario → Message → Pairs
message_pairs scenario message =
    (codes "name", Some (string message.name)) ∷ (codes "from", sender_data scenario message.sender)
    ∷ (codes "to", Some (names_data scenario message.destinations)) ∷ (codes "at", Some (number message.at))
    ∷ (codes "until", until_data message) ∷ []

abbrev pub target_pairs : Scenario → Pairs
target_pairs scenario =
    (codes "message", Some (string (message_at scenario scenario.target_message).name))
    ∷ (codes "group", Some (string (group_name_at scenario scenario.target_group))) ∷ []

-- all lines
abbrev pub document_lines : Scenario → Schedule → List Expression
document_lines scenario schedule =
    pair_lines (head_pairs (head_of scenario schedule))
    ++ (flat_map (λ link. array_lines (codes "link") (link_pairs scenario link)) scenario.links
    ++ (flat_map (λ message. array_lines (codes "multicast") (message_pairs scenario message)) scenario.multicasts
    ++ (([], codes "target"), std_table) ∷ pair_lines (target_pairs scenario)))

-- ---- in the order of tables

-- the table of a link with these values, and that of a message
abbrev pub link_row : Option Data → Data → Data → Option Data → Data → Members
link_row sender least most stamps to =
    with_member (codes "from") sender (member (codes "least") least (member (codes "most") most (with_member (codes "stamps") stamps (member (codes "to") to no_members))))

abbrev pub message_row : Data → Option Data → Data → Data → Option Data → Members
message_row at sender name to until =
    member (codes "at") at (with_member (codes "from") sender (member (codes "name") name (member (codes "to") to (with_member (codes "until") until no_members))))

abbrev pub link_table : Scenario → Link → Members
link_table scenario link =
    link_row (sender_data scenario link.sender) (number link.least) (number link.most) (stamps_data link.stamps) (string (group_name_at scenario link.to))

abbrev pub message_table : Scenario → Message → Members
message_table scenario message =
    message_row (number message.at) (sender_data scenario message.sender) (string message.name) (names_data scenario message.destinations) (until_data message)

abbrev pub target_table : Scenario → Members
target_table scenario =
    member (codes "group") (string (group_name_at scenario scenario.target_group))
    (member (codes "message") (string (message_at scenario scenario.target_message).name) no_members)

-- the whole table, where the tables of links, of messages and of the target are these
abbrev pub whole_table : Head → List Members → List Members → Members → Members
whole_table head links messages target =
    member (codes "delay") head.delay (member (codes "groups") head.groups (with_member (codes "least") head.least (with_member (codes "link") (some_tables links)
    (with_member (codes "multicast") (some_tables messages) (with_member (codes "order") head.order (with_member (codes "places") head.places
    (member (codes "schedule") head.schedule (member (codes "target") (table target) (with_member (codes "tick") head.tick (with_member (codes "time") head.time no_members))))))))))

abbrev pub document_table : Scenario → Schedule → Members
document_table scenario schedule =
    whole_table (head_of scenario schedule) (map (link_table scenario) scenario.links) (map (message_table scenario) scenario.multicasts) (target_table scenario)
