-- The keys of a text that a sweep gives values, and the scenario that is written where such a key has another value.
use Rattle.std.specs.Prelude.{ℕ, pos, Bool, true, false, ◌&&◌, ◌||◌, not, if◌then◌else◌, List, ◌++◌, length, ◌==◌, map, count_by, codes, Option, Some, None}
use Rattle.std.specs.List.{list_any}
use Rattle.std.specs.Str.{bytes_eq}
use Rattle.convoy_draft.specs.declared.fault.Key.{Key}
use Rattle.convoy_draft.specs.declared.fault.Key.TheVariants as words
use Rattle.convoy_draft.specs.Keys.{key_word}
use Rattle.convoy_draft.specs.Names.{client_word}
use Rattle.convoy_toml.specs.declared.written.WrittenTime.{WrittenTime}
use Rattle.convoy_toml.specs.declared.written.WrittenTime.TheVariants.{Count}
use Rattle.convoy_toml.specs.Shape.{LinkEnds, WrittenLink, WrittenMessage, WrittenScenario}
use Rattle.convoy_sweep.specs.declared.kinds.Given.{Given}
use Rattle.convoy_sweep.specs.declared.kinds.SweepKey.{SweepKey}
use Rattle.convoy_sweep.specs.declared.kinds.SweepKey.TheVariants.{Delay, At, Until, Least, Most}

-- NAMES
-- a way as a key names it: FROM-TO
abbrev pub way_name : List ℕ → List ℕ → List ℕ
way_name sender to = sender ++ codes "-" ++ to

-- the name is that of the way from the sender to the group: two places, or one group where the table has no other
abbrev pub names_way : Bool → List ℕ → List ℕ → List ℕ → Bool
names_way are_all name sender to = (are_all || not (bytes_eq sender to)) && bytes_eq name (way_name sender to)

-- one leads to one
abbrev pub is_one_to_one : List (List ℕ) → List (List ℕ) → Bool
is_one_to_one senders groups = (length senders == 1) && (length groups == 1)

-- the name is that of a way from one of these to one of those
abbrev pub is_way_between : List ℕ → List (List ℕ) → List (List ℕ) → Bool
is_way_between name senders groups = list_any (λ sender. list_any (names_way (is_one_to_one senders groups) name sender) groups) senders

-- the name is that of a way on which a link of the table leads, there or back; nothing goes back to clients
abbrev pub names_link : List ℕ → LinkEnds → Bool
names_link name ends = by_senders ends.senders where
  by_senders : Option (List (List ℕ)) → Bool
  by_senders None = list_any (names_way false name client_word) ends.to
  by_senders (Some groups) = is_way_between name groups ends.to || (ends.both && is_way_between name ends.to groups)

-- how many tables of the text the key names
abbrev pub readings : WrittenScenario → SweepKey → ℕ
readings written Delay = 1
readings written (At name) = count_by (λ message. bytes_eq name message.name) written.messages
readings written (Until name) = count_by (λ message. bytes_eq name message.name) written.messages
readings written (Least name) = count_by (λ link. names_link name link.ends) written.links
readings written (Most name) = count_by (λ link. names_link name link.ends) written.links

-- one table of the text is named by both names
abbrev pub share_link : WrittenScenario → List ℕ → List ℕ → Bool
share_link written name other = list_any (λ link. names_link name link.ends && names_link other link.ends) written.links

-- the two are one key of the text
abbrev pub is_same_key : WrittenScenario → SweepKey → SweepKey → Bool
is_same_key written Delay Delay = true
is_same_key written Delay other = false
is_same_key written (At name) (At other) = bytes_eq name other
is_same_key written (At name) other = false
is_same_key written (Until name) (Until other) = bytes_eq name other
is_same_key written (Until name) other = false
is_same_key written (Least name) (Least other) = share_link written name other
is_same_key written (Least name) other = false
is_same_key written (Most name) (Most other) = share_link written name other
is_same_key written (Most name) other = false

-- THEIR WORDS
-- the words for a key of the table of that name
abbrev pub dotted : List ℕ → Key → List ℕ
dotted name key = name ++ codes "." ++ key_word key

-- the words for a key, as a setting names it
abbrev pub key_name : SweepKey → List ℕ
key_name Delay = key_word words.Delay
key_name (At name) = dotted name words.At
key_name (Until name) = dotted name words.Until
key_name (Least name) = dotted name words.Least
key_name (Most name) = dotted name words.Most

-- VALUES
-- a number of ticks as it is written
abbrev pub counted : ℕ → WrittenTime
counted ticks = Count (pos ticks)

-- the last time at which a message may be issued: that of a window, or else the one that is written
abbrev pub last_of : Option ℕ → Option WrittenTime → Option WrittenTime
last_of None until = until
last_of (Some ticks) until = Some (counted ticks)

-- the first time of a message, where the key has that value
abbrev pub at_with : SweepKey → Given → WrittenMessage → WrittenTime
at_with (At name) given message = if bytes_eq name message.name then counted given.value else message.at
at_with other given message = message.at

-- its last time
abbrev pub until_with : SweepKey → Given → WrittenMessage → Option WrittenTime
until_with (At name) given message = if bytes_eq name message.name then last_of given.last message.until else message.until
until_with (Until name) given message = if bytes_eq name message.name then Some (counted given.value) else message.until
until_with other given message = message.until

-- the least delay of the links of a table
abbrev pub least_with : SweepKey → Given → WrittenLink → WrittenTime
least_with (Least name) given link = if names_link name link.ends then counted given.value else link.least
least_with other given link = link.least

-- their greatest delay
abbrev pub most_with : SweepKey → Given → WrittenLink → WrittenTime
most_with (Most name) given link = if names_link name link.ends then counted given.value else link.most
most_with other given link = link.most

-- D
abbrev pub delay_with : SweepKey → Given → Option WrittenTime → Option WrittenTime
delay_with Delay given delay = Some (counted given.value)
delay_with other given delay = delay

-- a message, and a table of links, where the key has that value
abbrev pub message_with : SweepKey → Given → WrittenMessage → WrittenMessage
message_with key given message = record message { at = at_with key given message; until = until_with key given message }

abbrev pub link_with : SweepKey → Given → WrittenLink → WrittenLink
link_with key given link = record link { least = least_with key given link; most = most_with key given link }

-- what is written where the key has that value, and all else is as it was
abbrev pub with_key : SweepKey → Given → WrittenScenario → WrittenScenario
with_key key given written = record written {
  delay = delay_with key given written.delay;
  links = map (link_with key given) written.links;
  messages = map (message_with key given) written.messages;
}
