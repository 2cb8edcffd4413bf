-- A well-formed scenario with one of its assignments has names and numbers that a text can say.
use Rattle.std.proofs.Common.{◌≡◌, ℕ, zero, suc, ◌-◌, ◌<◌, ◌≤◌, ◌==◌, ◌^◌, Bool, true, false, if◌then◌else◌, not, ◌&&◌, nat_le, List, [], ◌∷◌, ◌++◌, length, map, codes, decimal, get_or, Option, Some, None, refl, ◌∙◌, arith, IfSome, IsTrue}
use Rattle.std.specs.List.{list_all, AllByRecursion, AllZip}
use Rattle.std.specs.Str.{bytes_eq}
use Rattle.std.proofs.lemmas.Bool.{and_parts, leb-true, false≢true}
use Rattle.std.proofs.lemmas.Bool.Decides.{nat_tests}
use Rattle.std.proofs.lemmas.List.Elements.{recursion_from_All}
use Rattle.std.proofs.lemmas.List.Folds.{list_all-append}
use Rattle.convoy_draft.specs.declared.duration.TheConstants.{LONGEST_DURATION, MOST_UNITS}
use Rattle.convoy_draft.specs.declared.time.Time.{Time}
use Rattle.convoy_draft.specs.declared.time.Time.TheVariants.{Ticks, Real}
use Rattle.convoy_draft.specs.Durations.{count_of, unit_of, unit_word}
use Rattle.convoy_scenario.specs.declared.sender.Sender.{Sender}
use Rattle.convoy_scenario.specs.declared.sender.Sender.TheVariants.{Client, Group}
use Rattle.convoy_scenario.specs.Naming.{sender_name}
use Rattle.convoy_scenario.specs.Scenario.{Link, Message, Scenario, no_message, place_name_at}
use Rattle.convoy_scenario.specs.WellFormed.{IsLink, IsMulticast, IsScenario}
use Rattle.convoy_draft.specs.Names.{client_word, is_group_name, is_letter, is_name, is_name_byte}
use Rattle.convoy_draft.specs.Limits.{is_tick}
use Rattle.convoy_packets.specs.declared.order.TheConstants.{GREATEST_RANK}
use Rattle.convoy_packets.specs.declared.packet.Packet.{Packet}
use Rattle.convoy_packets.specs.Assignment.{IsAssignment, IsWithin, Schedule, range_of, ranges_of}
use Rattle.convoy_packets.specs.OrderLists.{AreSmall as AreRanks, ranks_of}
use Rattle.convoy_packets.specs.Packets.{packets_of}
use Rattle.convoy_packets.proofs.Ranges.{range_lawful}
use Rattle.convoy_toml_writer.proofs.Durations.{decimal_plain, duration_read, duration_text, unit_plain}
use Rattle.convoy_toml_writer.proofs.Items.{each}
use Rattle.convoy_toml_writer.proofs.Plain.{are_plain, is_plain}
use Rattle.convoy_toml_writer.proofs.Shaped.{IsReadable}
use Rattle.convoy_toml_writer.proofs.Written.{AreSmall, IsWritable, IsWritableLink, IsWritableMessage}

-- ---- names

byte_plain : (c : ℕ) → is_name_byte c ≡ true → is_plain c ≡ true
byte_plain c h = grind (arith, nat_tests, h)

letter_plain : (c : ℕ) → is_letter c ≡ true → is_plain c ≡ true
letter_plain c h = grind (arith, nat_tests, h)

bytes_plain : (cs : List ℕ) → list_all is_name_byte cs ≡ true → are_plain cs ≡ true
bytes_plain [] h = refl
bytes_plain (c ∷ cs) h =
    let (here, more) = and_parts (is_name_byte c) (list_all is_name_byte cs) h in
    rw (byte_plain c here) (bytes_plain cs more)

name_plain : (name : List ℕ) → IsTrue (is_name name) → are_plain name ≡ true
name_plain [] h = refl
name_plain (c ∷ cs) h =
    let letters = and_parts (is_letter c) (list_all is_name_byte cs) (and_parts (is_letter c && list_all is_name_byte cs) _ h).0 in
    rw (letter_plain c letters.0) (bytes_plain cs letters.1)

group_plain : (name : List ℕ) → IsTrue (is_group_name name) → are_plain name ≡ true
group_plain name h = name_plain name (and_parts (is_name name) (not (bytes_eq name client_word)) h).0

-- the name at a place, and none past the last
name_there : (names : List (List ℕ)) (g : ℕ) → AllByRecursion (λ name. are_plain name ≡ true) names → are_plain (get_or names g []) ≡ true
name_there [] g h = refl
name_there (name ∷ names) zero h = h.0
name_there (name ∷ names) (suc g) h = name_there names g h.1

-- the name of a sender, where it has one
sender_plain : (scenario : Scenario) → AllByRecursion (λ name. are_plain name ≡ true) scenario.groups → AllByRecursion (λ name. are_plain name ≡ true) scenario.places → (sender : Sender) → IfSome (sender_name scenario sender) (λ name. are_plain name ≡ true)
sender_plain scenario groups places (Client p) = by_test (p == 0) where
  by_test : (none : Bool) → IfSome (if none then None else Some (place_name_at scenario p)) (λ name. are_plain name ≡ true)
  by_test true = tt
  by_test false = name_there scenario.places (p - 1) places
sender_plain scenario groups places (Group g) = name_there scenario.groups g groups

message_there : (messages : List Message) (m : ℕ) → AllByRecursion IsWritableMessage messages → are_plain (get_or messages m no_message).name ≡ true
message_there [] m h = refl
message_there (message ∷ messages) zero h = h.0.name
message_there (message ∷ messages) (suc m) h = message_there messages m h.1

-- ---- the length of a tick

-- what is written and read of a tick's length
record IsTold (time : Time) (tick : ℕ) : Type 0 where
  readable : IsReadable time tick
  plain : are_plain (duration_text tick) ≡ true
  small : count_of tick < 2 ^ 32

told : (tick : ℕ) → IsTrue (is_tick Real (Some tick)) → IsTold Real tick
told tick h =
    let parts = and_parts (nat_le 1 tick && nat_le tick LONGEST_DURATION) (nat_le (count_of tick) MOST_UNITS) h in
    let range = and_parts (nat_le 1 tick) (nat_le tick LONGEST_DURATION) parts.0 in
    let few = leb-true (count_of tick) MOST_UNITS parts.1 in
    let unit = unit_of tick in
    record {
      readable = record { real = refl; some = leb-true 1 tick range.0; read = duration_read tick (leb-true tick LONGEST_DURATION range.1) few };
      plain = list_all-append is_plain (decimal (count_of tick)) (codes " " ++ unit_word unit) ∙ rw (decimal_plain (count_of tick) (omega (arith, few)), unit_plain unit) refl;
      small = omega (arith, few);
    }

tick_told : (time : Time) (tick : Option ℕ) → IsTrue (is_tick time tick) → IfSome tick (IsTold time)
tick_told time None h = tt
tick_told Ticks (Some tick) h = absurd (false≢true h)
tick_told Real (Some tick) h = told tick h

if_some : {A : Type 0} {P Q : A → Type 0} (o : Option A) → ((x : A) → P x → Q x) → IfSome o P → IfSome o Q
if_some None more h = tt
if_some (Some x) more h = more x h

pub tick_readable : (scenario : Scenario) → IsScenario scenario → IfSome scenario.tick (IsReadable scenario.time)
tick_readable scenario is = if_some scenario.tick (λ t known. known.readable) (tick_told scenario.time scenario.tick is.tick)

pub tick_short : (scenario : Scenario) → IsScenario scenario → IfSome scenario.tick (λ t. count_of t < 2 ^ 32)
tick_short scenario is = if_some scenario.tick (λ t known. known.small) (tick_told scenario.time scenario.tick is.tick)

-- ---- numbers

delays_small : (scenario : Scenario) (packets : List Packet) (delays : List ℕ) → IsScenario scenario → AllZip IsWithin (map (range_of scenario) packets) delays → AreSmall delays
delays_small scenario [] [] is h = tt
delays_small scenario [] (d ∷ ds) is h = absurd h
delays_small scenario (p ∷ ps) [] is h = absurd h
delays_small scenario (p ∷ ps) (d ∷ ds) is h =
    let within = range_lawful scenario p is in
    (omega (arith, h.0.1, within.high), delays_small scenario ps ds is h.1)

assigned_small : (scenario : Scenario) (schedule : Schedule) → IsScenario scenario → IsAssignment scenario schedule → AreSmall schedule.delays
unfolding ranges_of
assigned_small scenario schedule is assigned = delays_small scenario (packets_of scenario) schedule.delays is assigned.delays

link_writable : (scenario : Scenario) (link : Link) → IsScenario scenario → IsLink (length scenario.groups) (length scenario.places) scenario.delay link → IsWritableLink link
link_writable scenario link is h = record { least = omega (arith, h.ordered, h.high, is.delay_high); most = omega (arith, h.high, is.delay_high) }

message_writable : (groups places : ℕ) (message : Message) → IsMulticast groups places message → IsWritableMessage message
message_writable groups places message h = record { name = name_plain message.name h.name; at = omega (arith, h.at); until = omega (arith, h.at, h.wait) }

-- all that the text asks
pub writable : (scenario : Scenario) (schedule : Schedule) → IsScenario scenario → IsAssignment scenario schedule → AreRanks (ranks_of scenario schedule.order) → IsWritable scenario schedule
writable scenario schedule is assigned ranks =
    let names = each scenario.groups group_plain (recursion_from_All (λ name. IsTrue (is_group_name name)) scenario.groups is.group_names) in
    let messages = each scenario.multicasts (message_writable (length scenario.groups) (length scenario.places)) (recursion_from_All (IsMulticast (length scenario.groups) (length scenario.places)) scenario.multicasts is.messages) in
    let places = each scenario.places group_plain (recursion_from_All (λ name. IsTrue (is_group_name name)) scenario.places is.place_names) in
    record {
      tick = if_some scenario.tick (λ t known. known.plain) (tick_told scenario.time scenario.tick is.tick);
      delay = omega (arith, is.delay_high);
      groups = names;
      group_names = λ g. name_there scenario.groups g names;
      places = places;
      senders = sender_plain scenario names places;
      links = each scenario.links (λ link h. link_writable scenario link is h) (recursion_from_All (IsLink (length scenario.groups) (length scenario.places) scenario.delay) scenario.links is.links);
      messages = messages;
      target = message_there scenario.multicasts scenario.target_message messages;
      delays = assigned_small scenario schedule is assigned;
      ranks = each (ranks_of scenario schedule.order) (λ r h. omega (arith, h)) (recursion_from_All (λ r. r ≤ GREATEST_RANK) (ranks_of scenario schedule.order) ranks);
    }
