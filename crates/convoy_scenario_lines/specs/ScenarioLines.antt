-- The canonical lines of a scenario: the one text of each.
use Rattle.std.specs.Prelude.{ℕ, ◌+◌, ◌==◌, Bool, true, false, if◌then◌else◌, List, [], ◌∷◌, ◌++◌, length, map, Option, Some, None, codes, decimal}
use Rattle.convoy_lines.specs.Texts.{line_of, number_line, text_of}
use Rattle.convoy_draft.specs.declared.time.Time.{Time}
use Rattle.convoy_draft.specs.Durations.{count_of, unit_of, unit_word}
use Rattle.convoy_draft.specs.Keys.{time_word}
use Rattle.convoy_scenario.specs.Naming.{sender_word}
use Rattle.convoy_scenario.specs.Scenario.{Link, Message, Scenario, message_at, group_name_at}
use Rattle.convoy_scenario_lines.specs.declared.version.Version.{Version}
use Rattle.convoy_scenario_lines.specs.declared.version.Version.TheVariants.{One, Two, Three}

-- the line that says how time goes
abbrev pub time_line : Time → List ℕ
time_line time = line_of (codes "time") (time_word time ∷ [])

-- that line, in version 3: the others have none
abbrev pub time_lines : Version → Time → List (List ℕ)
time_lines One time = []
time_lines Two time = []
time_lines Three time = time_line time ∷ []

-- the line that says how long a tick lasts, in its unit
abbrev pub tick_line : ℕ → List ℕ
tick_line tick = line_of (codes "tick") (decimal (count_of tick) ∷ unit_word (unit_of tick) ∷ [])

-- that line, where the length is known
abbrev pub tick_lines : Option ℕ → List (List ℕ)
tick_lines None = []
tick_lines (Some tick) = tick_line tick ∷ []

abbrev pub delay_line : Scenario → List ℕ
delay_line scenario = number_line (codes "delay") scenario.delay

abbrev pub groups_line : Scenario → List ℕ
groups_line scenario = line_of (codes "groups") scenario.groups

-- the line that names the places of clients
abbrev pub places_line : List (List ℕ) → List ℕ
places_line places = line_of (codes "places") places

-- that line, where there are places
abbrev pub places_lines : List (List ℕ) → List (List ℕ)
places_lines places = if length places == 0 then [] else places_line places ∷ []

-- the last word of a link that is for stamps, too; another has no such word
abbrev pub stamps_words : Bool → List (List ℕ)
stamps_words true = codes "stamps" ∷ []
stamps_words false = []

-- the ends of a link, its range, and whether it is for stamps, too
abbrev pub link_line : Scenario → Link → List ℕ
link_line scenario link = line_of (codes "link")
    (sender_word scenario link.sender ∷ group_name_at scenario link.to ∷ decimal link.least ∷ decimal link.most ∷ stamps_words link.stamps)

-- the tick at which a message is issued; where it may wait, the first and the last such tick, with two dots between them
abbrev pub issue_word : ℕ → ℕ → List ℕ
issue_word at longest_wait =
    if longest_wait == 0 then decimal at else decimal at ++ (codes ".." ++ decimal (at + longest_wait))

-- name, sender and issue of a message, and its destinations, ascending
abbrev pub multicast_line : Scenario → Message → List ℕ
multicast_line scenario message = line_of (codes "multicast")
    (message.name ∷ sender_word scenario message.sender ∷ issue_word message.at message.longest_wait ∷ map (group_name_at scenario) message.destinations)

abbrev pub target_line : Scenario → List ℕ
target_line scenario = line_of (codes "target")
    ((message_at scenario scenario.target_message).name ∷ group_name_at scenario scenario.target_group ∷ [])

-- the lines of a scenario from `delay` on
abbrev pub lines_from_delay : Scenario → List (List ℕ)
lines_from_delay scenario =
    delay_line scenario ∷ groups_line scenario
    ∷ (places_lines scenario.places
    ++ (map (link_line scenario) scenario.links ++ (map (multicast_line scenario) scenario.multicasts ++ target_line scenario ∷ [])))

-- the lines of a scenario, as that version has them
abbrev pub scenario_lines : Version → Scenario → List (List ℕ)
scenario_lines version scenario =
    time_lines version scenario.time ++ (tick_lines scenario.tick ++ lines_from_delay scenario)

-- the text of a scenario
abbrev pub scenario_text : Version → Scenario → List ℕ
scenario_text version scenario = text_of (scenario_lines version scenario)
