-- The forms of a scenario's lines: what a line says, where it has its form.
use Rattle.std.specs.Prelude.{ℕ, pos, ◌*◌, ◌==◌, Bool, true, false, ◌&&◌, nat_le, nat_lt, if◌then◌else◌, List, [], map, length, take, drop, codes, position, Option, Some, None, option_map}
use Rattle.std.specs.Option.{option_or}
use Rattle.std.specs.Str.{bytes_eq, is_utf8}
use Rattle.convoy_lines.specs.Labels.{greatest_number, words_after}
use Rattle.convoy_lines.specs.Chains.{◌>>=◌}
use Rattle.convoy_lines.specs.Words.{next_word, number_of}
use Rattle.convoy_draft.specs.declared.time.Time.{Time}
use Rattle.convoy_draft.specs.declared.time.Time.TheVariants.{Ticks, Real}
use Rattle.convoy_draft.specs.Checks.{leads_elsewhere}
use Rattle.convoy_draft.specs.Draft.{DraftLink, DraftMessage}
use Rattle.convoy_draft.specs.Durations.{unit_length, unit_named, unit_of, unit_word, within_longest}
use Rattle.convoy_draft.specs.Names.{client_word}
use Rattle.convoy_scenario_lines.specs.declared.version.Version.{Version}
use Rattle.convoy_scenario_lines.specs.declared.version.Version.TheVariants.{One, Two, Three}
use Rattle.convoy_scenario_lines.specs.ScenarioLines.{time_line}

-- A word as a name. One that is not UTF-8 is no name; it stands as the name of no bytes, which is none, either.
abbrev pub name_of : List ℕ → List ℕ
name_of word = if is_utf8 word then word else []

-- the sender that a word names: none for a client of no named place
abbrev pub named_sender : List ℕ → Option (List ℕ)
named_sender word = if bytes_eq word client_word then None else Some (name_of word)

-- how time goes by a line `time`, which has one form for each
abbrev pub time_in : List ℕ → Option Time
time_in line =
    if bytes_eq line (time_line Ticks) then Some Ticks
    else if bytes_eq line (time_line Real) then Some Real
    else None

-- the nanoseconds of a line `tick`: a count of 1 or more, and the greatest unit that divides what it counts
abbrev pub tick_in : List ℕ → Option ℕ
tick_in line = do
  words ← words_after (codes "tick") line
  count ← next_word words
  unit ← next_word count.1
  number ← number_of greatest_number count.0
  named ← unit_named unit.0
  tick ← within_longest (number * unit_length named)
  if nat_le 1 number && bytes_eq unit.0 (unit_word (unit_of tick)) && length unit.1 == 0 then Some tick else None

-- the names of a line that begins with that word, one at least
abbrev pub names_in : List ℕ → List ℕ → Option (List (List ℕ))
names_in label line = do
  words ← words_after label line
  if nat_le 1 (length words) then Some (map name_of words) else None

-- the names of a line `groups`
abbrev pub groups_in : List ℕ → Option (List (List ℕ))
groups_in line = names_in (codes "groups") line

-- the names of a line `places`
abbrev pub places_in : List ℕ → Option (List (List ℕ))
places_in line = names_in (codes "places") line

-- the greatest number of 16 bits
abbrev pub greatest_delay_number : ℕ
greatest_delay_number = 65_535

-- that a link is for stamps, too, by the one word `stamps`: version 3 alone has that word
abbrev pub own_stamps_in : Version → List (List ℕ) → Option Bool
own_stamps_in One words = None
own_stamps_in Two words = None
own_stamps_in Three words = do
  word ← next_word words
  if bytes_eq word.0 (codes "stamps") && length word.1 == 0 then Some true else None

-- whether a link is for stamps, too, by the words after its range: where there are none, it is not
abbrev pub stamps_in : Version → List (List ℕ) → Option Bool
stamps_in version words = if length words == 0 then Some false else own_stamps_in version words

-- the link, unless it is for stamps, too, and leads to another place than its sender
abbrev pub where_stamps_stay : DraftLink → Option DraftLink
where_stamps_stay link = if link.stamps && leads_elsewhere link then None else Some link

-- the link of a line `link`
abbrev pub link_in : Version → List ℕ → Option DraftLink
link_in version line = do
  words ← words_after (codes "link") line
  from ← next_word words
  to ← next_word from.1
  least ← next_word to.1
  most ← next_word least.1
  low ← number_of greatest_delay_number least.0
  high ← number_of greatest_delay_number most.0
  stamps ← stamps_in version most.1
  where_stamps_stay (record { sender = named_sender from.0; to = name_of to.0; least = pos low; most = pos high; stamps = stamps })

-- the tick that a word is, as the first and the last one
abbrev pub tick_alone : List ℕ → Option (ℕ × ℕ)
tick_alone word = option_map (λ tick. (tick, tick)) (number_of greatest_number word)

-- what stands before the first dot of a word, and what stands after the two dots there
abbrev pub around_dots : List ℕ → Option (List ℕ × List ℕ)
around_dots word = do
  dot ← position (λ byte. byte == 46) word
  if bytes_eq (take 2 (drop dot word)) (codes "..") then Some (take dot word, drop 2 (drop dot word)) else None

-- the first and the last tick of a word FIRST..LAST, where the first is before the last
abbrev pub tick_range : List ℕ → Option (ℕ × ℕ)
tick_range word = do
  parts ← around_dots word
  first ← number_of greatest_number parts.0
  last ← number_of greatest_number parts.1
  if nat_lt first last then Some (first, last) else None

-- the first and the last tick at which a message may be issued, by the word for its issue: where it may wait, version 3 has both
abbrev pub issue_in : Version → List ℕ → Option (ℕ × ℕ)
issue_in One word = tick_alone word
issue_in Two word = tick_alone word
issue_in Three word = option_or (tick_alone word) (tick_range word)

-- the message of a line `multicast`
abbrev pub multicast_in : Version → List ℕ → Option DraftMessage
multicast_in version line = do
  words ← words_after (codes "multicast") line
  name ← next_word words
  from ← next_word name.1
  word ← next_word from.1
  issue ← issue_in version word.0
  Some (record { name = name_of name.0; sender = named_sender from.0; to = map name_of word.1; at = pos issue.0; until = pos issue.1 })

-- the message and the group of a line `target`
abbrev pub target_in : List ℕ → Option (List ℕ × List ℕ)
target_in line = do
  words ← words_after (codes "target") line
  message ← next_word words
  group ← next_word message.1
  if length group.1 == 0 then Some (name_of message.0, name_of group.0) else None
