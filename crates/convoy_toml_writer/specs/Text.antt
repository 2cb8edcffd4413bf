-- The text of a scenario with a schedule: a document in TOML, the one that is written of them.
use Rattle.std.specs.Prelude.{ℕ, ◌+◌, Bool, true, false, List, [], ◌∷◌, ◌++◌, map, if◌then◌else◌, Option, Some, None, codes, decimal}
use Rattle.std.specs.List.{flat_map}
use Rattle.convoy_draft.specs.declared.time.Time.{Time}
use Rattle.convoy_draft.specs.declared.time.Time.TheVariants.{Ticks, Real}
use Rattle.convoy_draft.specs.Durations.{count_of, unit_of, unit_word}
use Rattle.convoy_scenario.specs.Naming.{sender_name}
use Rattle.convoy_scenario.specs.Scenario.{Link, Message, Scenario, group_name_at, may_wait, message_at}
use Rattle.convoy_packets.specs.Assignment.{Schedule}
use Rattle.convoy_packets.specs.Order.{Order}
use Rattle.convoy_packets.specs.OrderLists.{is_no_order, ranks_of}

-- a further word of a list, after a comma
abbrev pub further : List ℕ → List ℕ
further word = codes ", " ++ word

-- words with commas between them
abbrev pub listed : List (List ℕ) → List ℕ
listed [] = []
listed (word ∷ words) = word ++ flat_map further words

-- a name in quotes: names have no byte that would have to be escaped there
abbrev pub quoted : List ℕ → List ℕ
quoted name = codes "\"" ++ (name ++ codes "\"")

-- names, each in quotes, with commas between them
abbrev pub names_text : List (List ℕ) → List ℕ
names_text names = listed (map quoted names)

-- numbers, with commas between them
abbrev pub numbers_text : List ℕ → List ℕ
numbers_text numbers = listed (map decimal numbers)

-- the line that says that time is real; whole ticks have none
abbrev pub time_text : Time → List ℕ
time_text Ticks = []
time_text Real = codes "time = \"real\"\n"

-- the line of the least delay of what goes by no link: a tick, where time is real; whole ticks have none
abbrev pub least_text : Time → List ℕ
least_text Ticks = []
least_text Real = codes "least = 1\n"

-- the line of the length of a tick, where that is known
unfoldable pub tick_text : Option ℕ → List ℕ
tick_text None = []
tick_text (Some tick) = codes "tick = \"" ++ (decimal (count_of tick) ++ (codes " " ++ (unit_word (unit_of tick) ++ codes "\"\n")))

-- the line of the ranks of an order of ties, where they are not all 0
unfoldable pub order_text : Scenario → Order → List ℕ
order_text scenario order = if is_no_order order then [] else codes "order = [" ++ (numbers_text (ranks_of scenario order) ++ codes "]\n")

-- the line of the places of clients, where there are any
unfoldable pub places_text : List (List ℕ) → List ℕ
places_text [] = []
places_text (place ∷ places) = codes "places = [" ++ (names_text (place ∷ places) ++ codes "]\n")

-- the lines of lists above all tables: the groups, the places of clients, and the schedule
unfoldable pub lists_text : Scenario → Schedule → List ℕ
lists_text scenario schedule =
    codes "groups = [" ++ (names_text scenario.groups
    ++ (codes "]\n" ++ (places_text scenario.places
    ++ (codes "schedule = [" ++ (numbers_text schedule.delays
    ++ (codes "]\n" ++ order_text scenario schedule.order))))))

-- the lines above all tables: how time goes, D and the least delay without a link, and those of lists; all times are numbers of ticks
unfoldable pub head_text : Scenario → Schedule → List ℕ
head_text scenario schedule =
    time_text scenario.time
    ++ (tick_text scenario.tick
    ++ (codes "delay = " ++ (decimal scenario.delay
    ++ (codes "\n" ++ (least_text scenario.time ++ lists_text scenario schedule)))))

-- the line of the name of who sends; a client of no named place has none
unfoldable pub sender_text : Option (List ℕ) → List ℕ
sender_text None = []
sender_text (Some name) = codes "from = \"" ++ (name ++ codes "\"\n")

-- the line that says that a group's own stamps go by a link, too; others have none
abbrev pub stamps_text : Bool → List ℕ
stamps_text true = codes "stamps = true\n"
stamps_text false = []

-- the table of a link, after an empty line
unfoldable pub link_text : Scenario → Link → List ℕ
link_text scenario link =
    codes "\n[[link]]\n" ++ (sender_text (sender_name scenario link.sender)
    ++ (codes "to = \"" ++ (group_name_at scenario link.to
    ++ (codes "\"\nleast = " ++ (decimal link.least
    ++ (codes "\nmost = " ++ (decimal link.most
    ++ (codes "\n" ++ stamps_text link.stamps))))))))

-- the line of the last tick at which a message may be issued; one whose issue is known has none
unfoldable pub until_text : Message → List ℕ
until_text message = if may_wait message then codes "until = " ++ (decimal (message.at + message.longest_wait) ++ codes "\n") else []

-- the table of a message, after an empty line
unfoldable pub message_text : Scenario → Message → List ℕ
message_text scenario message =
    codes "\n[[multicast]]\nname = \"" ++ (message.name
    ++ (codes "\"\n" ++ (sender_text (sender_name scenario message.sender)
    ++ (codes "to = [" ++ (names_text (map (group_name_at scenario) message.destinations)
    ++ (codes "]\nat = " ++ (decimal message.at
    ++ (codes "\n" ++ until_text message))))))))

-- the table of the target, after an empty line
unfoldable pub target_text : Scenario → List ℕ
target_text scenario =
    codes "\n[target]\nmessage = \"" ++ ((message_at scenario scenario.target_message).name
    ++ (codes "\"\ngroup = \"" ++ (group_name_at scenario scenario.target_group ++ codes "\"\n")))

-- The text of a scenario with a schedule.
unfoldable pub toml_text : Scenario → Schedule → List ℕ
toml_text scenario schedule =
    head_text scenario schedule
    ++ (flat_map (link_text scenario) scenario.links
    ++ (flat_map (message_text scenario) scenario.multicasts
    ++ target_text scenario))
