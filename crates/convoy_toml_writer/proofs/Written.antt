-- The text of a scenario with a schedule has the lines of its document.
use Rattle.std.proofs.Common.{◌≡◌, ℕ, ◌+◌, ◌<◌, ◌^◌, Bool, true, false, List, [], ◌∷◌, ◌++◌, map, codes, decimal, Option, Some, None, option_map, refl, append_assoc, arith, IfSome, inl, inr}
use Rattle.std.specs.Fmt.{digits}
use Rattle.std.specs.List.{AllByRecursion}
use Rattle.std.proofs.lemmas.Bool.{cases_Bool}
use Rattle.toml.specs.Data.{Data, string, boolean}
use Rattle.toml.specs.Tables.{Expression, std_table}
use Rattle.toml.specs.Text.{IsValueText}
use Rattle.convoy_scenario.specs.declared.sender.Sender.{Sender}
use Rattle.convoy_draft.specs.declared.time.Time.{Time}
use Rattle.convoy_draft.specs.declared.time.Time.TheVariants.{Ticks, Real}
use Rattle.convoy_draft.specs.Durations.{count_of, unit_of, unit_word}
use Rattle.convoy_scenario.specs.Naming.{sender_name}
use Rattle.convoy_scenario.specs.Scenario.{Link, Message, Scenario, group_name_at, may_wait, message_at}
use Rattle.convoy_packets.specs.Assignment.{Schedule}
use Rattle.convoy_packets.specs.Order.{Order}
use Rattle.convoy_packets.specs.OrderLists.{is_no_order, ranks_of}
use Rattle.convoy_toml_writer.specs.Text.{names_text, quoted, time_text, least_text, tick_text, order_text, places_text, lists_text, head_text, sender_text, link_text, stamps_text, until_text, message_text, target_text, toml_text}
use Rattle.convoy_toml_writer.proofs.Plain.{are_plain}
use Rattle.convoy_toml_writer.proofs.Durations.{duration_text}
use Rattle.convoy_toml_writer.proofs.Items.{each}
use Rattle.convoy_toml_writer.proofs.Document.{number, pair, with_pair, pair_lines, array_lines, time_data, least_data, tick_data, order_data, places_data, stamps_data, until_data, head_of, head_pairs, link_pairs, message_pairs, target_pairs, document_lines}
use Rattle.convoy_toml_writer.proofs.Lines.{AreLines, no_lines, number_text, numbers_are, names_are, pair_line, text_line, array_line, array_header, table_header, more_lines, all_lines}

-- numbers of 32 bits
abbrev pub AreSmall : List ℕ → Type 0
AreSmall ns = AllByRecursion (λ n. n < 2 ^ 32) ns

pub record IsWritableLink (link : Link) : Type 0 where
  pub least : link.least < 2 ^ 32
  pub most : link.most < 2 ^ 32

pub record IsWritableMessage (message : Message) : Type 0 where
  pub name : are_plain message.name ≡ true
  pub at : message.at < 2 ^ 32
  pub until : message.at + message.longest_wait < 2 ^ 32

-- what the text asks of a scenario with a schedule: names with no byte that would have to be escaped, and numbers of 32 bits
pub record IsWritable (scenario : Scenario) (schedule : Schedule) : Type 0 where
  pub tick : IfSome scenario.tick (λ tick. are_plain (duration_text tick) ≡ true)
  pub delay : scenario.delay < 2 ^ 32
  pub groups : AllByRecursion (λ name. are_plain name ≡ true) scenario.groups
  pub group_names : (g : ℕ) → are_plain (group_name_at scenario g) ≡ true
  pub places : AllByRecursion (λ name. are_plain name ≡ true) scenario.places
  pub senders : (sender : Sender) → IfSome (sender_name scenario sender) (λ name. are_plain name ≡ true)
  pub links : AllByRecursion IsWritableLink scenario.links
  pub messages : AllByRecursion IsWritableMessage scenario.multicasts
  pub target : are_plain (message_at scenario scenario.target_message).name ≡ true
  pub delays : AreSmall schedule.delays
  pub ranks : AreSmall (ranks_of scenario schedule.order)

-- ---- the lines above all tables

time_line : (time : Time) (rest : List ℕ) (es : List Expression) → AreLines true es rest → AreLines true (with_pair (codes "time") (time_data time) es) (time_text time ++ rest)
time_line Ticks rest es more = more
time_line Real rest es more = text_line true (codes "time") (codes "real") rest es refl refl more

least_line : (time : Time) (rest : List ℕ) (es : List Expression) → AreLines true es rest → AreLines true (with_pair (codes "least") (least_data time) es) (least_text time ++ rest)
unfolding digits
least_line Ticks rest es more = more
least_line Real rest es more = pair_line true (codes "least") (codes "1") rest (number 1) es refl (number_text 1 (omega arith)) more

regroup : (a b c d rest : List ℕ) → (a ++ (b ++ (c ++ d))) ++ rest ≡ (a ++ (b ++ c)) ++ (d ++ rest)
regroup a b c d rest = simp append_assoc refl

tick_line : (tick : Option ℕ) (rest : List ℕ) (es : List Expression) → IfSome tick (λ t. are_plain (duration_text t) ≡ true) → AreLines true es rest
    → AreLines true (with_pair (codes "tick") (tick_data tick) es) (tick_text tick ++ rest)
unfolding tick_text
tick_line None rest es plain more = more
tick_line (Some tick) rest es plain more =
    let parts = regroup (decimal (count_of tick)) (codes " ") (unit_word (unit_of tick)) (codes "\"\n") rest in
    rw parts (text_line true (codes "tick") (duration_text tick) rest es refl plain more)

order_line : (scenario : Scenario) (order : Order) → AreSmall (ranks_of scenario order) → AreLines true (with_pair (codes "order") (order_data scenario order) []) (order_text scenario order)
unfolding order_text
order_line scenario order small =
    elim (cases_Bool (is_no_order order)) [
      | inl none ↦ rw none no_lines
      | inr some ↦ rw some (array_line number decimal true (codes "order") [] (ranks_of scenario order) [] refl (numbers_are (ranks_of scenario order) small) no_lines)
    ]

places_line : (places : List (List ℕ)) (rest : List ℕ) (es : List Expression) → AllByRecursion (λ name. are_plain name ≡ true) places → AreLines true es rest
    → AreLines true (with_pair (codes "places") (places_data places) es) (places_text places ++ rest)
unfolding places_text
places_line [] rest es plain more = more
places_line (place ∷ places) rest es plain more =
    let parts = append_assoc (names_text (place ∷ places)) (codes "]\n") rest in
    rw parts (array_line string quoted true (codes "places") rest (place ∷ places) es refl (names_are (place ∷ places) plain) more)

head_lines : (scenario : Scenario) (schedule : Schedule) → IsWritable scenario schedule → AreLines true (pair_lines (head_pairs (head_of scenario schedule))) (head_text scenario schedule)
unfolding head_text lists_text
head_lines scenario schedule is =
    let after_schedule = order_line scenario schedule.order is.ranks in
    let after_groups = array_line number decimal true (codes "schedule") (order_text scenario schedule.order) schedule.delays _ refl (numbers_are schedule.delays is.delays) after_schedule in
    let after_least = array_line string quoted true (codes "groups") _ scenario.groups _ refl (names_are scenario.groups is.groups) (places_line scenario.places _ _ is.places after_groups) in
    let after_delay = least_line scenario.time _ _ after_least in
    let after_tick = pair_line true (codes "delay") (decimal scenario.delay) _ (number scenario.delay) _ refl (number_text scenario.delay is.delay) after_delay in
    time_line scenario.time _ _ (tick_line scenario.tick _ _ is.tick after_tick)

-- ---- tables

sender_line : (sender : Option (List ℕ)) (rest : List ℕ) (es : List Expression) → IfSome sender (λ name. are_plain name ≡ true) → AreLines true es rest
    → AreLines true (with_pair (codes "from") (option_map string sender) es) (sender_text sender ++ rest)
unfolding sender_text
sender_line None rest es plain more = more
sender_line (Some name) rest es plain more =
    let parts = append_assoc name (codes "\"\n") rest in
    rw parts (text_line true (codes "from") name rest es refl plain more)

-- the text of a truth value
flag_text : IsValueText false (boolean true) (codes "true")
flag_text = refl

stamps_line : (stamps : Bool) → AreLines true (with_pair (codes "stamps") (stamps_data stamps) []) (stamps_text stamps)
stamps_line true = pair_line true (codes "stamps") (codes "true") [] (boolean true) [] refl flag_text no_lines
stamps_line false = no_lines

link_lines : (scenario : Scenario) (link : Link) → ((g : ℕ) → are_plain (group_name_at scenario g) ≡ true) → IfSome (sender_name scenario link.sender) (λ name. are_plain name ≡ true) → IsWritableLink link
    → AreLines true (array_lines (codes "link") (link_pairs scenario link)) (link_text scenario link)
unfolding link_text
link_lines scenario link plain sender is =
    let after_least = pair_line true (codes "most") (decimal link.most) _ (number link.most) _ refl (number_text link.most is.most) (stamps_line link.stamps) in
    let after_to = pair_line true (codes "least") (decimal link.least) _ (number link.least) _ refl (number_text link.least is.least) after_least in
    let after_from = text_line true (codes "to") (group_name_at scenario link.to) _ _ refl (plain link.to) after_to in
    array_header (codes "link") _ _ refl (sender_line (sender_name scenario link.sender) _ _ sender after_from)

until_line : (message : Message) → IsWritableMessage message → AreLines true (with_pair (codes "until") (until_data message) []) (until_text message)
unfolding until_text
until_line message is =
    let until = message.at + message.longest_wait in
    elim (cases_Bool (may_wait message)) [
      | inl waits ↦ rw waits (pair_line true (codes "until") (decimal until) [] (number until) [] refl (number_text until is.until) no_lines)
      | inr known ↦ rw known no_lines
    ]

-- the names of some groups
pub all_plain : (scenario : Scenario) → ((g : ℕ) → are_plain (group_name_at scenario g) ≡ true) → (groups : List ℕ) → AllByRecursion (λ name. are_plain name ≡ true) (map (group_name_at scenario) groups)
all_plain scenario plain [] = tt
all_plain scenario plain (g ∷ gs) = (plain g, all_plain scenario plain gs)

message_lines : (scenario : Scenario) (message : Message) → ((g : ℕ) → are_plain (group_name_at scenario g) ≡ true) → IfSome (sender_name scenario message.sender) (λ name. are_plain name ≡ true) → IsWritableMessage message
    → AreLines true (array_lines (codes "multicast") (message_pairs scenario message)) (message_text scenario message)
unfolding message_text
message_lines scenario message plain sender is =
    let after_to = pair_line true (codes "at") (decimal message.at) _ (number message.at) _ refl (number_text message.at is.at) (until_line message is) in
    let named = map (group_name_at scenario) message.destinations in
    let after_from = array_line string quoted true (codes "to") _ named _ refl (names_are named (all_plain scenario plain message.destinations)) after_to in
    let after_name = sender_line (sender_name scenario message.sender) _ _ sender after_from in
    array_header (codes "multicast") _ _ refl (text_line true (codes "name") message.name _ _ refl is.name after_name)

target_lines : (scenario : Scenario) → ((g : ℕ) → are_plain (group_name_at scenario g) ≡ true) → are_plain (message_at scenario scenario.target_message).name ≡ true
    → AreLines true ((([], codes "target"), std_table) ∷ pair_lines (target_pairs scenario)) (target_text scenario)
unfolding target_text
target_lines scenario plain named =
    let after_message = text_line true (codes "group") (group_name_at scenario scenario.target_group) [] [] refl (plain scenario.target_group) no_lines in
    table_header (codes "target") _ _ refl (text_line true (codes "message") (message_at scenario scenario.target_message).name _ _ refl named after_message)

-- no header comes first, so that it does not matter whether anything stands before the lines
from_the_start : (time tick : Option Data) (delay : Data) (es fs : List Expression) (text : List ℕ)
    → AreLines true (with_pair (codes "time") time (with_pair (codes "tick") tick (pair (codes "delay") delay ∷ es)) ++ fs) text
    → AreLines false (with_pair (codes "time") time (with_pair (codes "tick") tick (pair (codes "delay") delay ∷ es)) ++ fs) text
from_the_start None None delay es fs text h = record { lines = h.lines }
from_the_start None (Some tick) delay es fs text h = record { lines = h.lines }
from_the_start (Some time) tick delay es fs text h = record { lines = h.lines }

-- the text has the lines of the document
pub document_written : (scenario : Scenario) (schedule : Schedule) → IsWritable scenario schedule → AreLines false (document_lines scenario schedule) (toml_text scenario schedule)
unfolding toml_text
document_written scenario schedule is =
    let name = is.group_names in
    let messages = all_lines (λ message. array_lines (codes "multicast") (message_pairs scenario message)) (message_text scenario) scenario.multicasts (each scenario.multicasts (λ m writable. message_lines scenario m name (is.senders m.sender) writable) is.messages) in
    let links = all_lines (λ link. array_lines (codes "link") (link_pairs scenario link)) (link_text scenario) scenario.links (each scenario.links (λ link writable. link_lines scenario link name (is.senders link.sender) writable) is.links) in
    let all = more_lines _ _ _ _ (head_lines scenario schedule is) (more_lines _ _ _ _ links (more_lines _ _ _ _ messages (target_lines scenario name is.target))) in
    let head = head_of scenario schedule in
    from_the_start head.time head.tick head.delay (pair_lines ((codes "least", head.least) ∷ (codes "groups", Some head.groups) ∷ (codes "places", head.places) ∷ (codes "schedule", Some head.schedule) ∷ (codes "order", head.order) ∷ [])) _ _ all
