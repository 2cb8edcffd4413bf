-- What a scenario's table has to hold, key by key: what is written there, or the first key that is at fault.
use Rattle.std.specs.Borrow.{Bor}
use Rattle.std.specs.BTreeMap.{BTreeMap}
use Rattle.std.specs.declared.alloc.Global.{Global}
use Rattle.toml.specs.View.{table_view}
use Rattle.toml.specs.declared.value.Value.{Value}
use Rattle.std.specs.Prelude.{Vec, String, map, flat_map, ℕ, nat_le, ◌/◌, ◌%◌, Bool, true, false, not, ◌&&◌, ◌||◌, if◌then◌else◌, ℤ, pos, int_le, List, [], ◌∷◌, length, slice_index_or, find, codes, Option, Some, None, is_some, is_none, option_map, option_and_then, ok_or, unwrap_or, Result, Ok, Err}
use Rattle.std.specs.List.{list_all, list_any, slice_get}
use Rattle.std.specs.Option.{option_map_or, option_or}
use Rattle.std.specs.Result.{result_ok}
use Rattle.std.specs.Str.{bytes_eq}
use Rattle.toml.specs.Data.{Data, Items, no_items, item, Members, no_members, member, get_member, as_str, as_integer, as_bool, as_array, as_table}
use Rattle.convoy_lines.specs.Results.{◌>>=◌}
use Rattle.convoy_draft.specs.declared.fault.Key.{Key}
use Rattle.convoy_draft.specs.declared.fault.Key.TheVariants.{Time, Tick, Delay, Groups, Places, Multicast, Name, From, To, At, Until, Within, Target, Message, Group, Link, Least, Most, Both, Stamps, Agree, Steps, Replicas, Reply, Outage, Schedule, Order, Unknown}
use Rattle.convoy_draft.specs.declared.fault.ScenarioFault.{ScenarioFault}
use Rattle.convoy_draft.specs.declared.fault.ScenarioFault.TheVariants.{DoubleName, Shape, UnknownGroup}
use Rattle.convoy_draft.specs.declared.time.Time.{Time as AnyTime}
use Rattle.convoy_draft.specs.declared.time.Time.TheVariants.{Ticks, Real}
use Rattle.convoy_draft.specs.Checks.{all_differ, is_among}
use Rattle.convoy_draft.specs.Durations.{duration_of, unit_of_text}
use Rattle.convoy_draft.specs.declared.duration.TimeUnit.{TimeUnit}
use Rattle.convoy_draft.specs.Keys.{key_word, time_named}
use Rattle.convoy_toml.specs.declared.asked.Asked.{Asked}
use Rattle.convoy_toml.specs.declared.target.TargetKey.{TargetKey}
use Rattle.convoy_toml.specs.declared.target.TargetKey.TheVariants.{Named, Required, Optional}
use Rattle.convoy_toml.specs.declared.written.WrittenRange.{WrittenRange}
use Rattle.convoy_toml.specs.declared.written.WrittenTime.{WrittenTime}
use Rattle.convoy_toml.specs.declared.written.WrittenTime.TheVariants.{Count, Lasting}
use Rattle.convoy_toml.specs.Shares.{as_share, outside_word}

-- a message as it is written: its name, the group that sends it or the place of the client that does (none for a client of no named place), the groups that it goes to, the first time at which it may be issued, and the last where that is written, its deadline where it has one, and how much longer than a link says its packets take from its sender where that is written
pub record WrittenMessage : Type 0 where
  pub name : List ℕ
  pub sender : Option (List ℕ)
  pub to : List (List ℕ)
  pub at : WrittenTime
  pub until : Option WrittenTime
  pub within : Option WrittenTime
  pub longer : Option WrittenRange

-- where the links of a table lead: from the groups and places that send (none where the clients of no named place do) to these groups, and perhaps back as well
pub record LinkEnds : Type 0 where
  pub senders : Option (List (List ℕ))
  pub to : List (List ℕ)
  pub both : Bool

-- a table of links as it is written: where they lead, the least and the greatest delay, and whether a group's own stamps go by those from a group to itself, too
pub record WrittenLink : Type 0 where
  pub ends : LinkEnds
  pub least : WrittenTime
  pub most : WrittenTime
  pub stamps : Bool

-- what the replicas of groups need to agree as it is written: the groups, the least and the greatest time from an entry given to the leader until it is applied there, and whether they agree twice: once more before a message is committed
pub record WrittenAgreement : Type 0 where
  pub groups : List (List ℕ)
  pub least : WrittenTime
  pub most : WrittenTime
  pub twice : Bool

-- groups that are replicated by white box as it is written, and what a packet between the leader of one and its replicas takes at most
pub record WrittenAcceptance : Type 0 where
  pub groups : List (List ℕ)
  pub replicas : WrittenTime

-- a target as it is written: the message of which the latency is asked, and the group
pub record WrittenTarget : Type 0 where
  pub message : List ℕ
  pub group : List ℕ

-- a scenario as it is written, with the length of a tick in nanoseconds, D, and the least delay of what goes by no link, each where its key is there
pub record WrittenScenario : Type 0 where
  pub time : AnyTime
  pub tick : Option ℕ
  pub delay : Option WrittenTime
  pub least : Option WrittenTime
  pub groups : List (List ℕ)
  pub places : List (List ℕ)
  pub links : List WrittenLink
  pub agreements : List WrittenAgreement
  pub messages : List WrittenMessage
  pub target_message : List ℕ
  pub target_group : List ℕ

-- what `kind` gives of each item, where it gives something of all
abbrev pub all_of : {A : Type 0} → (Data → Option A) → Items → Option (List A)
all_of kind no_items = Some []
all_of kind (item d ds) = option_and_then (λ x. option_map (λ xs. x ∷ xs) (all_of kind ds)) (kind d)

-- the value of a key that has to be there, of its kind
abbrev pub need : {A : Type 0} → Key → (Data → Option A) → Members → Result A ScenarioFault
need key kind table = ok_or (option_and_then kind (get_member (key_word key) table)) (Shape key)

-- what stands in an array that has to be there, each item of its kind
abbrev pub need_all : {A : Type 0} → Key → (Data → Option A) → Members → Result (List A) ScenarioFault
need_all key kind table = need key as_array table >>= λ items. ok_or (all_of kind items) (Shape key)

-- the value of a key that may be absent, of its kind
abbrev pub wish : {A : Type 0} → Key → (Data → Option A) → Members → Result (Option A) ScenarioFault
wish {A} key kind table = if_there (get_member (key_word key) table) where
  if_there : Option Data → Result (Option A) ScenarioFault
  if_there None = Ok None
  if_there (Some d) = ok_or (option_map Some (kind d)) (Shape key)

-- what stands in an array that may be absent, each item of its kind
abbrev pub wish_all : {A : Type 0} → Key → (Data → Option A) → Members → Result (Option (List A)) ScenarioFault
wish_all key kind table = wish key (λ d. option_and_then (all_of kind) (as_array d)) table

-- each key of the table is one of these
abbrev pub has_only : List Key → Members → Bool
has_only keys no_members = true
has_only keys (member word d rest) = list_any (λ key. bytes_eq (key_word key) word) keys && has_only keys rest

-- an unknown key is a fault
abbrev pub need_only : List Key → Members → Result (Unit {0}) ScenarioFault
need_only keys table = if has_only keys table then Ok tt else Err (Shape Unknown)

-- how time goes, where a value names it
abbrev pub as_time : Data → Option AnyTime
as_time value = option_and_then time_named (as_str value)

-- how time goes by a scenario's table: in whole ticks where the key is absent
abbrev pub time_of_table : Members → Result AnyTime ScenarioFault
time_of_table table = wish Time as_time table >>= λ time. Ok (unwrap_or time Ticks)

-- the nanoseconds of the duration that a text tells, where time is real
abbrev pub as_duration : AnyTime → Data → Option ℕ
as_duration Ticks value = None
as_duration Real value = option_and_then duration_of (as_str value)

-- a time as it is written: an integer counts ticks, and where time is real a text may tell a duration
abbrev pub as_when : AnyTime → Data → Option WrittenTime
as_when time value = option_or (option_map Count (as_integer value)) (option_map Lasting (as_duration time value))

-- a value is a number below 0
abbrev pub is_below_zero : Data → Bool
is_below_zero value = option_map_or (λ number. not (int_le (pos 0) number)) (as_integer value) false

-- how long something lasts: a time that is none below 0
abbrev pub as_long : AnyTime → Data → Option WrittenTime
as_long time value = if is_below_zero value then None else as_when time value

-- the length of a tick: a duration above 0, where time is real
abbrev pub as_tick : AnyTime → Data → Option ℕ
as_tick time value = option_and_then (λ length. if nat_le 1 length then Some length else None) (as_duration time value)

-- whether D has to be written: in real time it may be left out where links are written, and no least delay of what goes by none
abbrev pub needs_delay : AnyTime → Members → Bool
needs_delay Ticks table = true
needs_delay Real table = is_none (get_member (key_word Link) table) || is_some (get_member (key_word Least) table)

-- D of a scenario's table, where it is written
abbrev pub delay_of_table : AnyTime → Members → Result (Option WrittenTime) ScenarioFault
delay_of_table time table =
    if needs_delay time table
    then (need Delay (as_when time) table >>= λ delay. Ok (Some delay))
    else wish Delay (as_when time) table

-- the least delay of what goes by no link: a time, where time is real
abbrev pub as_least : AnyTime → Data → Option WrittenTime
as_least Ticks value = None
as_least Real value = as_when Real value

-- the least and the greatest time, where both are written; one alone is a fault of the other
abbrev pub both_or_none : Option WrittenTime → Option WrittenTime → Result (Option WrittenRange) ScenarioFault
both_or_none None None = Ok None
both_or_none None (Some most) = Err (Shape Least)
both_or_none (Some least) None = Err (Shape Most)
both_or_none (Some least) (Some most) = Ok (Some (record { least = least; most = most }))

-- how much longer than a link says the packets of a message take from its sender, where that is written
abbrev pub longer_of_table : AnyTime → Members → Result (Option WrittenRange) ScenarioFault
longer_of_table time table = do
  least ← wish Least (as_when time) table
  most ← wish Most (as_when time) table
  both_or_none least most

-- the list, if it has an item
abbrev pub filled : {A : Type 0} → List A → Option (List A)
filled xs = if nat_le 1 (length xs) then Some xs else None

-- the names in an array, which has to have one
abbrev pub names_in : Items → Option (List (List ℕ))
names_in items = option_and_then filled (all_of as_str items)

-- the names that a value tells: a text tells one, and an array of texts those in it
abbrev pub as_names : Data → Option (List (List ℕ))
as_names value = option_or (option_map (λ name. name ∷ []) (as_str value)) (option_and_then names_in (as_array value))

-- the names that the table of a message has at the key of its sender, where it has some
abbrev pub senders_of_table : Members → Option (List (List ℕ))
senders_of_table table = option_and_then as_names (get_member (key_word From) table)

-- how many may send the message of a table: one where none is named
abbrev pub sender_count : Members → ℕ
sender_count table = option_map_or length (senders_of_table table) 1

-- who of several sends in that case
abbrev pub sender_in : ℕ → List (List ℕ) → Option (List ℕ)
sender_in case names = slice_get names (case % length names)

-- who sends the message of a table: where no case is asked about it names one at most, and else the one of that case
abbrev pub sender_of_table : Option ℕ → Members → Result (Option (List ℕ)) ScenarioFault
sender_of_table None table = wish From as_str table
sender_of_table (Some case) table = wish From as_names table >>= λ names. Ok (option_and_then (sender_in case) names)

-- the case of the messages below that of a table: who sends changes fastest in the first message
abbrev pub case_after : Option ℕ → Members → Option ℕ
case_after case table = option_map (λ n. n / sender_count table) case

-- a message as it is written, sent as in that case
abbrev pub message_of_table : Option ℕ → AnyTime → Members → Result WrittenMessage ScenarioFault
message_of_table case time table = do
  name ← need Name as_str table
  sender ← sender_of_table case table
  to ← need_all To as_str table
  at ← need At (as_when time) table
  until ← wish Until (as_when time) table
  within ← wish Within (as_when time) table
  longer ← longer_of_table time table
  _ ← need_only (Name ∷ From ∷ To ∷ At ∷ Until ∷ Within ∷ Least ∷ Most ∷ []) table
  Ok (record { name = name; sender = sender; to = to; at = at; until = until; within = within; longer = longer })

-- the messages, unless one is at fault
abbrev pub messages_of : Option ℕ → AnyTime → List Members → Result (List WrittenMessage) ScenarioFault
messages_of case time [] = Ok []
messages_of case time (table ∷ tables) = do
  message ← message_of_table case time table
  messages ← messages_of (case_after case table) time tables
  Ok (message ∷ messages)

-- whether links lead back as well: only where it is named who sends, since nothing is sent to other clients
abbrev pub as_both : Bool → Data → Option Bool
as_both named_send value = option_and_then (λ both. if both && not named_send then None else Some both) (as_bool value)

-- whether the links of a table lead back as well; they do not where the key is absent
abbrev pub both_of_table : Bool → Members → Result Bool ScenarioFault
both_of_table named_send table = wish Both (as_both named_send) table >>= λ both. Ok (unwrap_or both false)

-- where the links of a table lead
abbrev pub ends_of_table : Members → Result LinkEnds ScenarioFault
ends_of_table table = do
  senders ← wish From as_names table
  to ← need To as_names table
  both ← both_of_table (is_some senders) table
  Ok (record { senders = senders; to = to; both = both })

-- the share of the packets by the links of a table that may be outside their range, in billionths, where that is written; what is no share is a fault of the table
abbrev pub share_of_table : Members → Result (Option ℕ) ScenarioFault
share_of_table table = if_there (get_member outside_word table) where
  if_there : Option Data → Result (Option ℕ) ScenarioFault
  if_there None = Ok None
  if_there (Some d) = ok_or (option_map Some (as_share d)) (Shape Link)

-- whether a group's own stamps go by the links of a table from a group to itself, too; they do not where the key is absent
abbrev pub stamps_of_table : Members → Result Bool ScenarioFault
stamps_of_table table = wish Stamps as_bool table >>= λ stamps. Ok (unwrap_or stamps false)

-- the word is a key of a table of links
abbrev pub is_link_word : List ℕ → Bool
is_link_word word = list_any (λ key. bytes_eq (key_word key) word) (From ∷ To ∷ Both ∷ Least ∷ Most ∷ Stamps ∷ []) || bytes_eq outside_word word

-- each key of the table is one of these
abbrev pub has_link_words : Members → Bool
has_link_words no_members = true
has_link_words (member word d rest) = is_link_word word && has_link_words rest

-- an unknown key of a table of links is a fault
abbrev pub need_link_words : Members → Result (Unit {0}) ScenarioFault
need_link_words table = if has_link_words table then Ok tt else Err (Shape Unknown)

-- a table of links as it is written
unfoldable pub link_of_table : AnyTime → Members → Result WrittenLink ScenarioFault
link_of_table time table = do
  ends ← ends_of_table table
  least ← need Least (as_when time) table
  most ← need Most (as_when time) table
  stamps ← stamps_of_table table
  _ ← share_of_table table
  _ ← need_link_words table
  Ok (record { ends = ends; least = least; most = most; stamps = stamps })

-- the tables of links, unless one is at fault
abbrev pub links_of : AnyTime → List Members → Result (List WrittenLink) ScenarioFault
links_of time [] = Ok []
links_of time (table ∷ tables) = do
  link ← link_of_table time table
  links ← links_of time tables
  Ok (link ∷ links)

-- the tables of links of a scenario's table; none where the key is absent
abbrev pub links_of_table : AnyTime → Members → Result (List WrittenLink) ScenarioFault
links_of_table time table = wish_all Link as_table table >>= λ tables. links_of time (unwrap_or tables [])

-- the least and the greatest time, which are all that an array has
abbrev pub range_in : AnyTime → Items → Option (WrittenTime × WrittenTime)
range_in time no_items = None
range_in time (item least no_items) = None
range_in time (item least (item most no_items)) = option_and_then (λ l. option_map (λ m. (l, m)) (as_when time most)) (as_when time least)
range_in time (item least (item most (item other others))) = None

-- the least and the greatest time that an array of just two tells
abbrev pub as_range : AnyTime → Data → Option (WrittenTime × WrittenTime)
as_range time value = option_and_then (range_in time) (as_array value)

-- whether replicas agree twice, by the word for it
abbrev pub twice_named : List ℕ → Option Bool
twice_named word =
    if bytes_eq word (codes "log") then Some false
    else if bytes_eq word (codes "twice") then Some true
    else None

-- whether they agree twice, where a value names it
abbrev pub as_steps : Data → Option Bool
as_steps value = option_and_then twice_named (as_str value)

-- whether the replicas of a table's groups agree twice; they do not where the key is absent
abbrev pub steps_of_table : Members → Result Bool ScenarioFault
steps_of_table table = wish Steps as_steps table >>= λ twice. Ok (unwrap_or twice false)

-- what the replicas of groups need to agree as it is written
unfoldable pub agreement_of_table : AnyTime → Members → Result WrittenAgreement ScenarioFault
agreement_of_table time table = do
  groups ← need Name as_names table
  range ← need Agree (as_range time) table
  twice ← steps_of_table table
  _ ← need_only (Name ∷ Agree ∷ Steps ∷ []) table
  Ok (record { groups = groups; least = range.0; most = range.1; twice = twice })

-- what replicas agree on by the tables of groups, unless one is at fault
abbrev pub agreements_in : AnyTime → List Members → Result (List WrittenAgreement) ScenarioFault
agreements_in time [] = Ok []
agreements_in time (table ∷ tables) = do
  agreement ← agreement_of_table time table
  agreements ← agreements_in time tables
  Ok (agreement ∷ agreements)

-- the word for groups that are replicated by white box
abbrev pub accept_word : List ℕ
accept_word = codes "accept"

-- a table says so of its groups
abbrev pub is_accepting : Members → Bool
is_accepting table = option_map_or (bytes_eq accept_word) (option_and_then as_str (get_member (key_word Steps) table)) false

-- it has to say so
abbrev pub need_accept : Members → Result (Unit {0}) ScenarioFault
need_accept table = if is_accepting table then Ok tt else Err (Shape Steps)

-- groups that are replicated by white box as it is written
unfoldable pub acceptance_of_table : AnyTime → Members → Result WrittenAcceptance ScenarioFault
acceptance_of_table time table = do
  groups ← need Name as_names table
  _ ← need_accept table
  replicas ← need Replicas (as_long time) table
  _ ← need_only (Name ∷ Steps ∷ Replicas ∷ []) table
  Ok (record { groups = groups; replicas = replicas })

-- the tables of groups, each of which says so, unless one is at fault
abbrev pub acceptances_in : AnyTime → List Members → Result (List WrittenAcceptance) ScenarioFault
acceptances_in time [] = Ok []
acceptances_in time (table ∷ tables) = do
  acceptance ← acceptance_of_table time table
  acceptances ← acceptances_in time tables
  Ok (acceptance ∷ acceptances)

-- the tables of groups of a scenario's table; none where the key is absent
abbrev pub group_tables : Members → Result (List Members) ScenarioFault
group_tables table = wish_all Group as_table table >>= λ tables. Ok (unwrap_or tables [])

-- what replicas agree on by the tables of groups of a scenario's table
abbrev pub agreements_of_table : AnyTime → Members → Result (List WrittenAgreement) ScenarioFault
agreements_of_table time table = group_tables table >>= agreements_in time

-- the groups of which tables say that they are replicated by white box
abbrev pub accepting_groups : List WrittenAcceptance → List (List ℕ)
accepting_groups acceptances = flat_map (λ acceptance. acceptance.groups) acceptances

-- each of them is one of the groups, and is named once
abbrev pub need_accepting : List (List ℕ) → List (List ℕ) → Result (Unit {0}) ScenarioFault
need_accepting groups accepting =
    if not (list_all (λ name. is_among name groups) accepting) then Err UnknownGroup
    else if not (all_differ accepting) then Err DoubleName
    else Ok tt

-- what the replicas of groups need to agree; where groups may be replicated by white box and one table says so all have to, and there is nothing that they need to
abbrev pub agreements_unless : Bool → AnyTime → List (List ℕ) → List Members → Result (List WrittenAgreement) ScenarioFault
agreements_unless accepted time groups tables =
    if accepted && list_any is_accepting tables
    then (acceptances_in time tables >>= λ acceptances. need_accepting groups (accepting_groups acceptances) >>= λ _. Ok [])
    else agreements_in time tables

-- the groups that are replicated by white box by the tables of groups, if one says so; none where one is at fault
abbrev pub acceptances_told : AnyTime → List Members → List WrittenAcceptance
acceptances_told time tables = if list_any is_accepting tables then unwrap_or (result_ok (acceptances_in time tables)) [] else []

-- the same of a scenario's table
abbrev pub acceptances_of_table : Members → List WrittenAcceptance
acceptances_of_table table = unwrap_or (result_ok (time_of_table table >>= λ time. group_tables table >>= λ tables. Ok (acceptances_told time tables))) []

-- some table of groups of a scenario's table says that they are replicated by white box
abbrev pub accepts_by_table : Members → Bool
accepts_by_table table = option_map_or (list_any is_accepting) (result_ok (group_tables table)) false

-- the target that is written in a scenario's table
abbrev pub written_target : Members → Result WrittenTarget ScenarioFault
written_target table = do
  target ← need Target as_table table
  message ← need Message as_str target
  group ← need Group as_str target
  _ ← wish Reply as_str target
  _ ← need_only (Message ∷ Group ∷ Reply ∷ []) target
  Ok (record { message = message; group = group })

-- the word for all groups of a message
abbrev pub all_groups : List ℕ
all_groups = codes "*"

-- the first group that a message goes to, or the first of all where it goes to none
abbrev pub first_group : List (List ℕ) → WrittenMessage → List ℕ
first_group groups message = slice_index_or message.to 0 (slice_index_or groups 0 [])

-- the first group of the message of that name
abbrev pub first_group_of : List (List ℕ) → List WrittenMessage → List ℕ → List ℕ
first_group_of groups messages name = option_map_or (first_group groups) (find (λ message. bytes_eq message.name name) messages) []

-- the target at one group: the first one where it is asked for at all of them
abbrev pub at_one_group : List (List ℕ) → List WrittenMessage → WrittenTarget → WrittenTarget
at_one_group groups messages target =
    if bytes_eq target.group all_groups then record target { group = first_group_of groups messages target.message } else target

-- the first message that is issued at a time that is written, or the first of all where there is none such
abbrev pub first_known : List WrittenMessage → Option WrittenMessage
first_known messages = option_or (find (λ message. is_none message.until) messages) (slice_get messages 0)

-- that message, at the first group that it goes to; where it goes nowhere, at the first group of all
abbrev pub first_target : List (List ℕ) → List WrittenMessage → WrittenTarget
first_target groups messages = of_message (first_known messages) where
  of_message : Option WrittenMessage → WrittenTarget
  of_message None = record { message = []; group = [] }
  of_message (Some message) = record { message = message.name; group = first_group groups message }

-- the target of a scenario's table: what is written, or where that may be left out the first target if it is, and one group if all are asked for, or the target that is named beside it
abbrev pub target_of_table : TargetKey → Members → List (List ℕ) → List WrittenMessage → Result WrittenTarget ScenarioFault
target_of_table Required table groups messages = written_target table
target_of_table Optional table groups messages =
    if is_some (get_member (key_word Target) table)
    then (written_target table >>= λ target. Ok (at_one_group groups messages target))
    else Ok (first_target groups messages)
target_of_table (Named message group) table groups messages = Ok (record { message = message; group = group })

-- the places of clients in a scenario's table; none where the key is absent
abbrev pub places_of_table : Members → Result (List (List ℕ)) ScenarioFault
places_of_table table = wish_all Places as_str table >>= λ places. Ok (unwrap_or places [])

-- the scenario as it is written, sent as in that case, but for what the replicas of groups need to agree, whatever else stands in the table
abbrev pub scenario_of_table : Option ℕ → TargetKey → Members → Result WrittenScenario ScenarioFault
scenario_of_table case key table = do
  time ← time_of_table table
  tick ← wish Tick (as_tick time) table
  delay ← delay_of_table time table
  least ← wish Least (as_least time) table
  groups ← need_all Groups as_str table
  places ← places_of_table table
  tables ← need_all Multicast as_table table
  messages ← messages_of case time tables
  target ← target_of_table key table groups messages
  links ← links_of_table time table
  Ok (record { time = time; tick = tick; delay = delay; least = least; groups = groups; places = places; links = links; agreements = []; messages = messages; target_message = target.message; target_group = target.group })

-- what a table writes beside messages and a target, whatever else stands there: how time goes, the length of a tick, D, the least delay of what goes by no link, the groups, the places of clients, the links, and what the replicas of groups need to agree
abbrev pub setting_of_table : Members → Result WrittenScenario ScenarioFault
setting_of_table table = do
  time ← time_of_table table
  tick ← wish Tick (as_tick time) table
  delay ← delay_of_table time table
  least ← wish Least (as_least time) table
  groups ← need_all Groups as_str table
  places ← places_of_table table
  links ← links_of_table time table
  agreements ← agreements_of_table time table
  Ok (record { time = time; tick = tick; delay = delay; least = least; groups = groups; places = places; links = links; agreements = agreements; messages = []; target_message = []; target_group = [] })

-- what is written in a scenario's table: the scenario, and the delays of a schedule and the ranks of its moments where they are given
pub record Written : Type 0 where
  pub scenario : WrittenScenario
  pub schedule : Option (List ℤ)
  pub order : Option (List ℤ)

-- how long the outages last in all through which latencies are told as well, as it is written; none where the key is absent
abbrev pub outage_of_table : AnyTime → Members → Result (Option WrittenTime) ScenarioFault
outage_of_table time table = wish Outage (as_long time) table

-- what is written in the table, which has no other key, with each message sent by who is written to send it, or in the case that is asked about by who does then
abbrev pub shape_of_table : Asked → Members → Result Written ScenarioFault
shape_of_table asked table = do
  scenario ← scenario_of_table asked.case asked.target table
  groups ← group_tables table
  agreements ← agreements_unless asked.accept scenario.time scenario.groups groups
  schedule ← wish_all Schedule as_integer table
  order ← wish_all Order as_integer table
  _ ← outage_of_table scenario.time table
  _ ← need_only (Time ∷ Tick ∷ Delay ∷ Least ∷ Groups ∷ Places ∷ Multicast ∷ Target ∷ Link ∷ Group ∷ Outage ∷ Schedule ∷ Order ∷ []) table
  Ok (record { scenario = record scenario { agreements = agreements }; schedule = schedule; order = order })

-- the unit in which a value tells a duration
abbrev pub unit_in : Data → Option TimeUnit
unit_in value = option_and_then unit_of_text (as_str value)

-- the unit in which a table writes D, where it writes that as a duration
abbrev pub unit_of_table : Members → Option TimeUnit
unit_of_table table = option_and_then unit_in (get_member (key_word Delay) table)

-- how a call's answer is seen: a vector as the list that it holds
abbrev pub listed : {A : Type 0} → Result (Vec A Global) ScenarioFault → Result (List A) ScenarioFault
listed (Ok xs) = Ok xs.items
listed (Err fault) = Err fault

-- a vector that may be absent as the list that it holds
abbrev pub listed_if_there : {A : Type 0} → Result (Option (Vec A Global)) ScenarioFault → Result (Option (List A)) ScenarioFault
listed_if_there (Ok xs) = Ok (option_map (λ v. v.items) xs)
listed_if_there (Err fault) = Err fault

-- and a vector of tables as the list of their members
abbrev pub tables_listed : Result (Vec (Bor (BTreeMap (String Global) Value)) Global) ScenarioFault → Result (List Members) ScenarioFault
tables_listed (Ok tables) = Ok (map (λ t. table_view t.now) tables.items)
tables_listed (Err fault) = Err fault
