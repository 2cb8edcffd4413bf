-- The text of a scenario with a schedule is ASCII.
use Rattle.std.proofs.Common.{◌≡◌, ℕ, ◌+◌, ◌<◌, ◌^◌, Bool, true, false, List, [], ◌∷◌, ◌++◌, map, codes, decimal, Option, Some, None, refl, arith, IfSome, inl, inr}
use Rattle.std.specs.List.{flat_map, AllByRecursion}
use Rattle.std.specs.Str.{IsAscii}
use Rattle.std.proofs.lemmas.Bool.{cases_Bool}
use Rattle.std.proofs.lemmas.Fmt.{IsAscii-decimal}
use Rattle.std.proofs.lemmas.Str.{IsAscii-append}
use Rattle.std.proofs.lemmas.Str.Ascii.{IsAscii-nil}
use Rattle.convoy_draft.specs.declared.time.Time.{Time}
use Rattle.convoy_draft.specs.declared.time.Time.TheVariants.{Ticks, Real}
use Rattle.convoy_draft.specs.declared.duration.TimeUnit.{TimeUnit}
use Rattle.convoy_draft.specs.declared.duration.TimeUnit.TheVariants.{Seconds, Milliseconds, Microseconds, Nanoseconds}
use Rattle.convoy_draft.specs.Durations.{count_of, unit_of, unit_word}
use Rattle.convoy_scenario.specs.Naming.{sender_name}
use Rattle.convoy_scenario.specs.Scenario.{Link, Message, Scenario, group_name_at, may_wait, message_at}
use Rattle.convoy_packets.specs.Assignment.{Schedule}
use Rattle.convoy_packets.specs.Order.{Order}
use Rattle.convoy_packets.specs.OrderLists.{is_no_order, ranks_of}
use Rattle.convoy_toml_writer.specs.Text.{further, listed, names_text, quoted, time_text, least_text, tick_text, order_text, places_text, lists_text, head_text, sender_text, link_text, stamps_text, until_text, message_text, target_text, toml_text}
use Rattle.convoy_toml_writer.proofs.Plain.{are_plain, plain_ascii, ascii}
use Rattle.convoy_toml_writer.proofs.Items.{each}
use Rattle.convoy_toml_writer.proofs.Written.{AreSmall, all_plain, IsWritable, IsWritableLink, IsWritableMessage}

-- a text after what is written out, and one after another
after : (front rest : List ℕ) → IsAscii front → IsAscii rest → IsAscii (front ++ rest)
after front rest a b = IsAscii-append front rest a b

number_ascii : (n : ℕ) → n < 2 ^ 32 → IsAscii (decimal n)
number_ascii n small = IsAscii-decimal n (omega (arith, small))

module _ {A : Type 0} (word_of : A → List ℕ) where
  further_ascii : (xs : List A) → AllByRecursion (λ x. IsAscii (word_of x)) xs → IsAscii (flat_map further (map word_of xs))
  further_ascii [] all = IsAscii-nil
  further_ascii (x ∷ xs) all =
      after (further (word_of x)) (flat_map further (map word_of xs)) (after (codes ", ") (word_of x) (ascii (codes ", ") refl) all.0) (further_ascii xs all.1)

  listed_ascii : (xs : List A) → AllByRecursion (λ x. IsAscii (word_of x)) xs → IsAscii (listed (map word_of xs))
  listed_ascii [] all = IsAscii-nil
  listed_ascii (x ∷ xs) all = after (word_of x) (flat_map further (map word_of xs)) all.0 (further_ascii xs all.1)

flat_ascii : {A : Type 0} (text_of : A → List ℕ) (xs : List A) → AllByRecursion (λ x. IsAscii (text_of x)) xs → IsAscii (flat_map text_of xs)
flat_ascii text_of [] all = IsAscii-nil
flat_ascii text_of (x ∷ xs) all = after (text_of x) (flat_map text_of xs) all.0 (flat_ascii text_of xs all.1)

quoted_ascii : (name : List ℕ) → are_plain name ≡ true → IsAscii (quoted name)
quoted_ascii name plain = after (codes "\"") (name ++ codes "\"") (ascii (codes "\"") refl) (after name (codes "\"") (plain_ascii name plain) (ascii (codes "\"") refl))

numbers_ascii : (ns : List ℕ) → AreSmall ns → IsAscii (listed (map decimal ns))
numbers_ascii ns small = listed_ascii decimal ns (each ns number_ascii small)

time_ascii : (time : Time) → IsAscii (time_text time)
time_ascii Ticks = IsAscii-nil
time_ascii Real = ascii (codes "time = \"real\"\n") refl

least_ascii : (time : Time) → IsAscii (least_text time)
least_ascii Ticks = IsAscii-nil
least_ascii Real = ascii (codes "least = 1\n") refl

unit_ascii : (duration : ℕ) → IsAscii (unit_word (unit_of duration) ++ codes "\"\n")
unit_ascii duration =
    after (unit_word (unit_of duration)) (codes "\"\n") (by_unit (unit_of duration)) (ascii (codes "\"\n") refl)
  where
    by_unit : (unit : TimeUnit) → IsAscii (unit_word unit)
    by_unit Seconds = ascii (codes "s") refl
    by_unit Milliseconds = ascii (codes "ms") refl
    by_unit Microseconds = ascii (codes "us") refl
    by_unit Nanoseconds = ascii (codes "ns") refl

tick_ascii : (tick : Option ℕ) → IfSome tick (λ t. count_of t < 2 ^ 32) → IsAscii (tick_text tick)
unfolding tick_text
tick_ascii None small = IsAscii-nil
tick_ascii (Some tick) small =
    after (codes "tick = \"") _ (ascii (codes "tick = \"") refl) (after (decimal (count_of tick)) _ (number_ascii (count_of tick) small) (after (codes " ") _ (ascii (codes " ") refl) (unit_ascii tick)))

order_ascii : (scenario : Scenario) (order : Order) → AreSmall (ranks_of scenario order) → IsAscii (order_text scenario order)
unfolding order_text
order_ascii scenario order small =
    elim (cases_Bool (is_no_order order)) [
      | inl none ↦ rw none IsAscii-nil
      | inr some ↦ rw some (after (codes "order = [") _ (ascii (codes "order = [") refl) (after (listed (map decimal (ranks_of scenario order))) (codes "]\n") (numbers_ascii (ranks_of scenario order) small) (ascii (codes "]\n") refl)))
    ]

sender_ascii : (sender : Option (List ℕ)) → IfSome sender (λ name. are_plain name ≡ true) → IsAscii (sender_text sender)
unfolding sender_text
sender_ascii None plain = IsAscii-nil
sender_ascii (Some name) plain =
    after (codes "from = \"") _ (ascii (codes "from = \"") refl) (after name (codes "\"\n") (plain_ascii name plain) (ascii (codes "\"\n") refl))

names_ascii : (names : List (List ℕ)) → AllByRecursion (λ name. are_plain name ≡ true) names → IsAscii (names_text names)
names_ascii names plain = listed_ascii quoted names (each names quoted_ascii plain)

places_ascii : (places : List (List ℕ)) → AllByRecursion (λ name. are_plain name ≡ true) places → IsAscii (places_text places)
unfolding places_text
places_ascii [] plain = IsAscii-nil
places_ascii (place ∷ places) plain =
    after (codes "places = [") (names_text (place ∷ places) ++ codes "]\n") (ascii (codes "places = [") refl) (after (names_text (place ∷ places)) (codes "]\n") (names_ascii (place ∷ places) plain) (ascii (codes "]\n") refl))

stamps_ascii : (stamps : Bool) → IsAscii (stamps_text stamps)
stamps_ascii true = ascii (codes "stamps = true\n") refl
stamps_ascii false = IsAscii-nil

until_ascii : (message : Message) → message.at + message.longest_wait < 2 ^ 32 → IsAscii (until_text message)
unfolding until_text
until_ascii message small =
    let until = message.at + message.longest_wait in
    elim (cases_Bool (may_wait message)) [
      | inl waits ↦ rw waits (after (codes "until = ") _ (ascii (codes "until = ") refl) (after (decimal until) (codes "\n") (number_ascii until small) (ascii (codes "\n") refl)))
      | inr known ↦ rw known IsAscii-nil
    ]

-- what is written out, then a text and what follows
between : (front text rest : List ℕ) → IsAscii front → IsAscii text → IsAscii rest → IsAscii (front ++ (text ++ rest))
between front text rest a b c = after front (text ++ rest) a (after text rest b c)

module _ (scenario : Scenario) (schedule : Schedule) (is : IsWritable scenario schedule) where
  name_ascii : (g : ℕ) → IsAscii (group_name_at scenario g)
  name_ascii g = plain_ascii (group_name_at scenario g) (is.group_names g)

  head_ascii : IfSome scenario.tick (λ t. count_of t < 2 ^ 32) → IsAscii (head_text scenario schedule)
  unfolding head_text lists_text
  head_ascii short =
      let order = order_ascii scenario schedule.order is.ranks in
      let schedule_on = between (codes "schedule = [") (listed (map decimal schedule.delays)) _ (ascii (codes "schedule = [") refl) (numbers_ascii schedule.delays is.delays) (after (codes "]\n") _ (ascii (codes "]\n") refl) order) in
      let places_on = between (codes "]\n") (places_text scenario.places) _ (ascii (codes "]\n") refl) (places_ascii scenario.places is.places) schedule_on in
      let groups_on = between (codes "groups = [") (names_text scenario.groups) _ (ascii (codes "groups = [") refl) (names_ascii scenario.groups is.groups) places_on in
      let least_on = between (codes "\n") (least_text scenario.time) _ (ascii (codes "\n") refl) (least_ascii scenario.time) groups_on in
      let delay_on = between (codes "delay = ") (decimal scenario.delay) _ (ascii (codes "delay = ") refl) (number_ascii scenario.delay is.delay) least_on in
      after (time_text scenario.time) _ (time_ascii scenario.time) (after (tick_text scenario.tick) _ (tick_ascii scenario.tick short) delay_on)

  link_ascii : (link : Link) → IsWritableLink link → IsAscii (link_text scenario link)
  unfolding link_text
  link_ascii link writable =
      let most_on = between (codes "\nmost = ") (decimal link.most) _ (ascii (codes "\nmost = ") refl) (number_ascii link.most writable.most) (after (codes "\n") _ (ascii (codes "\n") refl) (stamps_ascii link.stamps)) in
      let least_on = between (codes "\"\nleast = ") (decimal link.least) _ (ascii (codes "\"\nleast = ") refl) (number_ascii link.least writable.least) most_on in
      let to_on = between (codes "to = \"") (group_name_at scenario link.to) _ (ascii (codes "to = \"") refl) (name_ascii link.to) least_on in
      between (codes "\n[[link]]\n") (sender_text (sender_name scenario link.sender)) _ (ascii (codes "\n[[link]]\n") refl) (sender_ascii (sender_name scenario link.sender) (is.senders link.sender)) to_on

  message_ascii : (message : Message) → IsWritableMessage message → IsAscii (message_text scenario message)
  unfolding message_text
  message_ascii message writable =
      let until_on = after (codes "\n") _ (ascii (codes "\n") refl) (until_ascii message writable.until) in
      let at_on = between (codes "]\nat = ") (decimal message.at) _ (ascii (codes "]\nat = ") refl) (number_ascii message.at writable.at) until_on in
      let named = map (group_name_at scenario) message.destinations in
      let to_on = between (codes "to = [") (names_text named) _ (ascii (codes "to = [") refl) (names_ascii named (all_plain scenario is.group_names message.destinations)) at_on in
      let from_on = between (codes "\"\n") (sender_text (sender_name scenario message.sender)) _ (ascii (codes "\"\n") refl) (sender_ascii (sender_name scenario message.sender) (is.senders message.sender)) to_on in
      between (codes "\n[[multicast]]\nname = \"") message.name _ (ascii (codes "\n[[multicast]]\nname = \"") refl) (plain_ascii message.name writable.name) from_on

  target_ascii : IsAscii (target_text scenario)
  unfolding target_text
  target_ascii =
      let group_on = between (codes "\"\ngroup = \"") (group_name_at scenario scenario.target_group) (codes "\"\n") (ascii (codes "\"\ngroup = \"") refl) (name_ascii scenario.target_group) (ascii (codes "\"\n") refl) in
      between (codes "\n[target]\nmessage = \"") (message_at scenario scenario.target_message).name _ (ascii (codes "\n[target]\nmessage = \"") refl) (plain_ascii (message_at scenario scenario.target_message).name is.target) group_on

  pub document_ascii : IfSome scenario.tick (λ t. count_of t < 2 ^ 32) → IsAscii (toml_text scenario schedule)
  unfolding toml_text
  document_ascii short =
      after (head_text scenario schedule) _ (head_ascii short)
      (after (flat_map (link_text scenario) scenario.links) _ (flat_ascii (link_text scenario) scenario.links (each scenario.links link_ascii is.links))
      (after (flat_map (message_text scenario) scenario.multicasts) _ (flat_ascii (message_text scenario) scenario.multicasts (each scenario.multicasts message_ascii is.messages)) target_ascii))
