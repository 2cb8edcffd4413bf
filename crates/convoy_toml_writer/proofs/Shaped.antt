-- What is written in the document's table.
use Rattle.std.proofs.Common.{◌≡◌, ℕ, ◌+◌, ◌≤◌, Bool, true, false, if◌then◌else◌, List, [], ◌∷◌, map, codes, pos, ℤ, Option, Some, None, option_map, Ok, refl, sym, ap, ◌∙◌, IfSome, inl, inr}
use Rattle.std.specs.List.{list_any}
use Rattle.std.specs.Option.{unwrap_or}
use Rattle.std.proofs.lemmas.Bool.{cases_Bool, le-leb}
use Rattle.std.proofs.lemmas.List.{map-id}
use Rattle.toml.specs.Data.{Data, string, array, table, Items, Members, get_member, as_str, as_integer, as_table}
use Rattle.toml.specs.View.{items_of}
use Rattle.convoy_lines.specs.Results.{◌>>=◌}
use Rattle.convoy_draft.specs.declared.fault.Key.{Key}
use Rattle.convoy_draft.specs.declared.fault.Key.TheVariants.{Time, Tick, Delay, Least, Groups, Places, Multicast, Target, Link, Schedule, Order}
use Rattle.convoy_draft.specs.declared.fault.Key.TheVariants as key
use Rattle.convoy_draft.specs.declared.time.Time.{Time as AnyTime}
use Rattle.convoy_draft.specs.declared.time.Time.TheVariants.{Ticks, Real}
use Rattle.convoy_draft.specs.Durations.{duration_of}
use Rattle.convoy_draft.specs.Keys.{key_word}
use Rattle.convoy_scenario.specs.Naming.{sender_name}
use Rattle.convoy_scenario.specs.Scenario.{Link as ScenarioLink, Message, Scenario, group_name_at, may_wait, message_at}
use Rattle.convoy_packets.specs.Assignment.{Schedule as ScenarioSchedule}
use Rattle.convoy_packets.specs.Order.{Order as ScenarioOrder}
use Rattle.convoy_packets.specs.OrderLists.{is_no_order, ranks_of}
use Rattle.convoy_toml.specs.declared.written.WrittenTime.{WrittenTime}
use Rattle.convoy_toml.specs.declared.written.WrittenTime.TheVariants.{Count}
use Rattle.convoy_toml.specs.Shape.{all_of, need, need_all, wish, wish_all, has_only, time_of_table, as_time, as_tick, as_when, delay_of_table, needs_delay, as_least, LinkEnds, WrittenMessage, WrittenLink, WrittenScenario, WrittenTarget, message_of_table, messages_of, link_of_table, links_of, places_of_table, written_target}
use Rattle.convoy_toml.specs.Reading.{as_written}
use Rattle.convoy_toml.specs.Slow.{is_slow, written_of_table}
use Rattle.convoy_toml_writer.specs.WrittenTextLaws.{ranks_for}
use Rattle.convoy_toml_writer.proofs.Document.{number, names_data, stamps_data, until_data, some_tables, time_data, least_data, tick_data, order_data, places_data, head_of, link_row, message_row, link_table, message_table, target_table, document_table}
use Rattle.convoy_toml_writer.proofs.Durations.{duration_text}
use Rattle.convoy_toml_writer.proofs.Looked.{delay_found, least_found, groups_found, places_found, time_found, tick_found, order_found, schedule_found, target_found, messages_found, links_found, group_found, outage_found, only_known}

-- ---- one key

module _ {A : Type 0} (key : Key) (kind : Data → Option A) (rows : Members) where
  need_found : (d : Data) (x : A) → get_member (key_word key) rows ≡ Some d → kind d ≡ Some x → need key kind rows ≡ Ok x
  need_found d x e k = rw (e, k) refl

  need_all_found : (items : Items) (xs : List A) → get_member (key_word key) rows ≡ Some (array items) → all_of kind items ≡ Some xs → need_all key kind rows ≡ Ok xs
  need_all_found items xs e k = rw (e, k) refl

  wish_none : get_member (key_word key) rows ≡ None → wish key kind rows ≡ Ok None
  wish_none e = rw e refl

  wish_found : (d : Data) (x : A) → get_member (key_word key) rows ≡ Some d → kind d ≡ Some x → wish key kind rows ≡ Ok (Some x)
  wish_found d x e k = rw (e, k) refl

  wish_all_none : get_member (key_word key) rows ≡ None → wish_all key kind rows ≡ Ok None
  wish_all_none e = rw e refl

  wish_all_found : (items : Items) (xs : List A) → get_member (key_word key) rows ≡ Some (array items) → all_of kind items ≡ Some xs → wish_all key kind rows ≡ Ok (Some xs)
  wish_all_found items xs e k = rw (e, k) refl

-- what each of some values gives
all_given : {A B : Type 0} (kind : Data → Option B) (data_of : A → Data) (given : A → B) (xs : List A) → ((x : A) → kind (data_of x) ≡ Some (given x)) → all_of kind (items_of (map data_of xs)) ≡ Some (map given xs)
all_given kind data_of given [] each = refl
all_given kind data_of given (x ∷ xs) each = rw (each x, all_given kind data_of given xs each) refl

-- texts give what they are
strings_given : (names : List (List ℕ)) → all_of as_str (items_of (map string names)) ≡ Some names
strings_given names = all_given as_str string (λ name. name) names (λ name. refl) ∙ ap Some (map-id names)

-- ---- messages and links

-- the last time at which a message may be issued, where that is written
abbrev pub written_until : Message → Option WrittenTime
written_until message = if may_wait message then Some (Count (pos (message.at + message.longest_wait))) else None

abbrev pub written_message : Scenario → Message → WrittenMessage
written_message scenario message = record {
  name = message.name;
  sender = sender_name scenario message.sender;
  to = map (group_name_at scenario) message.destinations;
  at = Count (pos message.at);
  until = written_until message;
  within = None;
  longer = None;
}

-- where one link leads
abbrev pub written_ends : Option (List ℕ) → List ℕ → LinkEnds
written_ends sender to = record { senders = option_map (λ name. name ∷ []) sender; to = to ∷ []; both = false }

abbrev pub written_link : Scenario → ScenarioLink → WrittenLink
written_link scenario link = record {
  ends = written_ends (sender_name scenario link.sender) (group_name_at scenario link.to);
  least = Count (pos link.least);
  most = Count (pos link.most);
  stamps = link.stamps;
}

message_shaped : (time : AnyTime) (scenario : Scenario) (message : Message) → message_of_table None time (message_table scenario message) ≡ Ok (written_message scenario message)
message_shaped time scenario message = by_sender (sender_name scenario message.sender) where
  to_given : all_of as_str (items_of (map string (map (group_name_at scenario) message.destinations))) ≡ Some (map (group_name_at scenario) message.destinations)
  to_given = strings_given (map (group_name_at scenario) message.destinations)

  by_sender : (sender : Option (List ℕ)) → message_of_table None time (message_row (number message.at) (option_map string sender) (string message.name) (names_data scenario message.destinations) (until_data message))
      ≡ Ok (record (written_message scenario message) { sender = sender })
  by_sender None = elim (cases_Bool (may_wait message)) [ inl waits ↦ rw (waits, to_given) refl | inr known ↦ rw (known, to_given) refl ]
  by_sender (Some name) = elim (cases_Bool (may_wait message)) [ inl waits ↦ rw (waits, to_given) refl | inr known ↦ rw (known, to_given) refl ]

messages_shaped : (time : AnyTime) (scenario : Scenario) (messages : List Message) → messages_of None time (map (message_table scenario) messages) ≡ Ok (map (written_message scenario) messages)
messages_shaped time scenario [] = refl
messages_shaped time scenario (m ∷ ms) = rw (message_shaped time scenario m, messages_shaped time scenario ms) refl

-- none has a range of its own
none_slow : (scenario : Scenario) (messages : List Message) → list_any is_slow (map (written_message scenario) messages) ≡ false
none_slow scenario [] = refl
none_slow scenario (m ∷ ms) = none_slow scenario ms

link_shaped : (time : AnyTime) (scenario : Scenario) (link : ScenarioLink) → link_of_table time (link_table scenario link) ≡ Ok (written_link scenario link)
unfolding link_of_table
link_shaped time scenario link = by_sender (sender_name scenario link.sender) link.stamps where
  by_sender : (sender : Option (List ℕ)) (stamps : Bool) → link_of_table time (link_row (option_map string sender) (number link.least) (number link.most) (stamps_data stamps) (string (group_name_at scenario link.to)))
      ≡ Ok (record { ends = written_ends sender (group_name_at scenario link.to); least = Count (pos link.least); most = Count (pos link.most); stamps = stamps })
  by_sender None true = refl
  by_sender None false = refl
  by_sender (Some name) true = refl
  by_sender (Some name) false = refl

links_shaped : (time : AnyTime) (scenario : Scenario) (links : List ScenarioLink) → links_of time (map (link_table scenario) links) ≡ Ok (map (written_link scenario) links)
links_shaped time scenario [] = refl
links_shaped time scenario (link ∷ links) = rw (link_shaped time scenario link, links_shaped time scenario links) refl

-- ---- tables under a key

tables_needed : (rows : Members) (first_table : Members) (others : List Members) → get_member (codes "multicast") rows ≡ some_tables (first_table ∷ others) → need_all Multicast as_table rows ≡ Ok (first_table ∷ others)
tables_needed rows first_table others e = need_all_found Multicast as_table rows _ _ e (all_given as_table table (λ t. t) (first_table ∷ others) (λ t. refl) ∙ ap Some (map-id (first_table ∷ others)))

tables_wished : (rows : Members) (all : List Members) → get_member (codes "link") rows ≡ some_tables all → (o : Option (List Members)) × (wish_all Link as_table rows ≡ Ok o) × (unwrap_or o [] ≡ all)
tables_wished rows [] e = (None, wish_all_none Link as_table rows e, refl)
tables_wished rows (t ∷ ts) e = (Some (t ∷ ts), wish_all_found Link as_table rows _ _ e (all_given as_table table (λ x. x) (t ∷ ts) (λ x. refl) ∙ ap Some (map-id (t ∷ ts))), refl)

-- ---- the head

time_shaped : (time : AnyTime) (rows : Members) → get_member (codes "time") rows ≡ time_data time → time_of_table rows ≡ Ok time
time_shaped Ticks rows e = rw (wish_none Time as_time rows e) refl
time_shaped Real rows e = rw (wish_found Time as_time rows (string (codes "real")) Real e refl) refl

-- D is read as it is, whether it may be left out or not
delay_shaped : (time : AnyTime) (delay : ℕ) (rows : Members) → get_member (codes "delay") rows ≡ Some (number delay) → delay_of_table time rows ≡ Ok (Some (Count (pos delay)))
delay_shaped time delay rows e = by_need (needs_delay time rows) where
  by_need : (needed : Bool) → (if needed then (need Delay (as_when time) rows >>= λ d. Ok (Some d)) else wish Delay (as_when time) rows) ≡ Ok (Some (Count (pos delay)))
  by_need true = rw (need_found Delay (as_when time) rows (number delay) (Count (pos delay)) e refl) refl
  by_need false = wish_found Delay (as_when time) rows (number delay) (Count (pos delay)) e refl

-- the least delay of what goes by no link, where it is written
abbrev pub written_least : AnyTime → Option WrittenTime
written_least Ticks = None
written_least Real = Some (Count (pos 1))

least_shaped : (time : AnyTime) (rows : Members) → get_member (codes "least") rows ≡ least_data time → wish Least (as_least time) rows ≡ Ok (written_least time)
least_shaped Ticks rows e = wish_none Least (as_least Ticks) rows e
least_shaped Real rows e = wish_found Least (as_least Real) rows (number 1) (Count (pos 1)) e refl

-- a tick's length that is known is one of real time, and is read as it is
pub record IsReadable (time : AnyTime) (tick : ℕ) : Type 0 where
  pub real : time ≡ Real
  pub some : 1 ≤ tick
  pub read : duration_of (duration_text tick) ≡ Some tick

tick_shaped : (time : AnyTime) (tick : Option ℕ) (rows : Members) → IfSome tick (IsReadable time) → get_member (codes "tick") rows ≡ tick_data tick → wish Tick (as_tick time) rows ≡ Ok tick
tick_shaped time None rows is e = wish_none Tick (as_tick time) rows e
tick_shaped time (Some tick) rows is e =
    let kind : as_tick Real (string (duration_text tick)) ≡ Some tick = rw (is.read, le-leb 1 tick is.some) refl in
    wish_found Tick (as_tick time) rows (string (duration_text tick)) tick e (rw (is.real) kind)

places_shaped : (places : List (List ℕ)) (rows : Members) → get_member (codes "places") rows ≡ places_data places → places_of_table rows ≡ Ok places
places_shaped [] rows e = rw (wish_all_none Places as_str rows e) refl
places_shaped (place ∷ places) rows e = rw (wish_all_found Places as_str rows _ (place ∷ places) e (strings_given (place ∷ places))) refl

order_shaped : (scenario : Scenario) (order : ScenarioOrder) (rows : Members) → get_member (codes "order") rows ≡ order_data scenario order → wish_all Order as_integer rows ≡ Ok (ranks_for scenario order)
order_shaped scenario order rows e =
    elim (cases_Bool (is_no_order order)) [
      | inl none ↦ rw none (wish_all_none Order as_integer rows (rw none at e))
      | inr some ↦ rw some (wish_all_found Order as_integer rows _ _ (rw some at e) (all_given as_integer number pos (ranks_of scenario order) (λ n. refl)))
    ]

-- ---- the whole

-- what is written of a scenario
abbrev pub written_scenario : Scenario → WrittenScenario
written_scenario scenario = record {
  time = scenario.time;
  tick = scenario.tick;
  delay = Some (Count (pos scenario.delay));
  least = written_least scenario.time;
  groups = scenario.groups;
  places = scenario.places;
  links = map (written_link scenario) scenario.links;
  agreements = [];
  messages = map (written_message scenario) scenario.multicasts;
  target_message = (message_at scenario scenario.target_message).name;
  target_group = group_name_at scenario scenario.target_group;
}

-- step by step, from what each key gives
in_steps : (rows : Members) (scenario : WrittenScenario) (message_rows : List Members) (target : WrittenTarget) (schedule order : Option (List ℤ)) (rows_of_links : Option (List Members))
    → time_of_table rows ≡ Ok scenario.time → wish Tick (as_tick scenario.time) rows ≡ Ok scenario.tick → delay_of_table scenario.time rows ≡ Ok scenario.delay → wish Least (as_least scenario.time) rows ≡ Ok scenario.least → need_all Groups as_str rows ≡ Ok scenario.groups → places_of_table rows ≡ Ok scenario.places
    → need_all Multicast as_table rows ≡ Ok message_rows → messages_of None scenario.time message_rows ≡ Ok scenario.messages → written_target rows ≡ Ok target
    → wish_all Link as_table rows ≡ Ok rows_of_links → links_of scenario.time (unwrap_or rows_of_links []) ≡ Ok scenario.links
    → get_member (codes "group") rows ≡ None → get_member (codes "outage") rows ≡ None
    → wish_all Schedule as_integer rows ≡ Ok schedule → wish_all Order as_integer rows ≡ Ok order → has_only (Time ∷ Tick ∷ Delay ∷ Least ∷ Groups ∷ Places ∷ Multicast ∷ Target ∷ Link ∷ key.Group ∷ key.Outage ∷ Schedule ∷ Order ∷ []) rows ≡ true
    → target.message ≡ scenario.target_message → target.group ≡ scenario.target_group → list_any is_slow scenario.messages ≡ false
    → written_of_table as_written rows ≡ Ok (record { scenario = record scenario { agreements = [] }; schedule = schedule; order = order })
in_steps rows scenario message_rows target schedule order rows_of_links time tick delay least groups places tables_there messages target_there links_there links no_groups no_outage scheduled ordered known named at_group quick =
    rw (time, tick, delay, least, groups, places, tables_there, messages, target_there, links_there, links, no_groups, scheduled, ordered, no_outage, known, named, at_group, quick) refl

-- what is written in the document's table
pub document_shaped : (scenario : Scenario) (schedule : ScenarioSchedule) (first_message : Message) (others : List Message) → scenario.multicasts ≡ first_message ∷ others → IfSome scenario.tick (IsReadable scenario.time)
    → written_of_table as_written (document_table scenario schedule) ≡ Ok (record { scenario = written_scenario scenario; schedule = Some (map pos schedule.delays); order = ranks_for scenario schedule.order })
document_shaped scenario schedule first_message others some tick =
    let head = head_of scenario schedule in
    let links = map (link_table scenario) scenario.links in
    let messages = map (message_table scenario) scenario.multicasts in
    let target = target_table scenario in
    let rows = document_table scenario schedule in
    let (rows_of_links, links_there, all_links) = tables_wished rows links (links_found head links messages target) in
    let message_rows : some_tables messages ≡ some_tables (message_table scenario first_message ∷ map (message_table scenario) others) = ap (λ ms. some_tables (map (message_table scenario) ms)) some in
    let same_rows : messages ≡ message_table scenario first_message ∷ map (message_table scenario) others = ap (map (message_table scenario)) some in
    in_steps rows (written_scenario scenario) messages (record { message = (message_at scenario scenario.target_message).name; group = group_name_at scenario scenario.target_group })
    (Some (map pos schedule.delays)) (ranks_for scenario schedule.order) rows_of_links
    (time_shaped scenario.time rows (time_found head links messages target))
    (tick_shaped scenario.time scenario.tick rows tick (tick_found head links messages target))
    (delay_shaped scenario.time scenario.delay rows (delay_found head links messages target))
    (least_shaped scenario.time rows (least_found head links messages target))
    (need_all_found Groups as_str rows _ scenario.groups (groups_found head links messages target) (strings_given scenario.groups))
    (places_shaped scenario.places rows (places_found head links messages target))
    (tables_needed rows (message_table scenario first_message) (map (message_table scenario) others) (messages_found head links messages target ∙ message_rows) ∙ ap Ok (sym same_rows))
    (messages_shaped scenario.time scenario scenario.multicasts)
    (need_target rows target (target_found head links messages target) refl)
    links_there
    (ap (links_of scenario.time) all_links ∙ links_shaped scenario.time scenario scenario.links)
    (group_found head links messages target)
    (outage_found head links messages target)
    (wish_all_found Schedule as_integer rows _ _ (schedule_found head links messages target) (all_given as_integer number pos schedule.delays (λ n. refl)))
    (order_shaped scenario schedule.order rows (order_found head links messages target))
    (only_known head links messages target) refl refl (none_slow scenario scenario.multicasts)
  where
    need_target : (rows target : Members) → get_member (codes "target") rows ≡ Some (table target) → target ≡ target_table scenario → written_target rows ≡ Ok (record { message = (message_at scenario scenario.target_message).name; group = group_name_at scenario scenario.target_group })
    need_target rows target e same = rw (e, same) refl
