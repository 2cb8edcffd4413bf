-- What the times of a scenario are in ticks, where they are written as durations. Nothing is rounded.
use Rattle.std.specs.Prelude.{ℕ, suc, zero, ◌+◌, ℤ, pos, int_le, ◌%◌, ◌/◌, ◌==◌, max, Bool, true, false, ◌&&◌, ◌||◌, not, if◌then◌else◌, List, [], ◌∷◌, ◌++◌, map, flat_map, Option, Some, None, option_and_then, ok_or, unwrap_or, Result, Ok, Err}
use Rattle.std.specs.List.{list_all}
use Rattle.convoy_lines.specs.Results.{◌>>=◌}
use Rattle.convoy_draft.specs.declared.fault.Key.{Key}
use Rattle.convoy_draft.specs.declared.fault.Key.TheVariants.{Tick, Delay, At, Until, Least, Most, Agree}
use Rattle.convoy_draft.specs.declared.fault.ScenarioFault.{ScenarioFault}
use Rattle.convoy_draft.specs.declared.fault.ScenarioFault.TheVariants.{Shape, NotWhole, OverLimit}
use Rattle.convoy_draft.specs.declared.fault.Limit.TheVariants as limits
use Rattle.convoy_draft.specs.declared.time.Time.{Time as AnyTime}
use Rattle.convoy_draft.specs.Checks.{is_within}
use Rattle.convoy_draft.specs.Draft.{Draft, DraftMessage}
use Rattle.convoy_draft.specs.Limits.{greatest_delay}
use Rattle.convoy_toml.specs.declared.written.WrittenTime.{WrittenTime}
use Rattle.convoy_toml.specs.declared.written.WrittenTime.TheVariants.{Count, Lasting}
use Rattle.convoy_toml.specs.Links.{Bundle, links_of_bundles}
use Rattle.convoy_toml.specs.Shape.{WrittenAgreement, WrittenScenario, WrittenLink, WrittenMessage}
use Rattle.convoy_toml.specs.Agreements.{Agreement, with_agreements}

-- the time is a number of ticks
abbrev pub is_count : WrittenTime → Bool
is_count (Count ticks) = true
is_count (Lasting length) = false

-- the time is a duration
abbrev pub is_lasting : WrittenTime → Bool
is_lasting (Count ticks) = false
is_lasting (Lasting length) = true

-- the nanoseconds of a time that is a duration
abbrev pub length_of : WrittenTime → ℕ
length_of (Count ticks) = 0
length_of (Lasting length) = length

-- the time, where one is written
abbrev pub if_written : Option WrittenTime → List WrittenTime
if_written None = []
if_written (Some time) = time ∷ []

-- the first time at which a message may be issued, and the last where that is written
abbrev pub times_of_message : WrittenMessage → List WrittenTime
times_of_message message = message.at ∷ if_written message.until

-- the least and the greatest delay of each table of links
abbrev pub times_of_links : List WrittenLink → List WrittenTime
times_of_links [] = []
times_of_links (link ∷ links) = link.least ∷ link.most ∷ times_of_links links

-- the least and the greatest time of each agreement
abbrev pub times_of_agreements : List WrittenAgreement → List WrittenTime
times_of_agreements [] = []
times_of_agreements (agreement ∷ agreements) = agreement.least ∷ agreement.most ∷ times_of_agreements agreements

-- all times of a scenario
abbrev pub times_of : WrittenScenario → List WrittenTime
times_of scenario =
    times_of_agreements scenario.agreements ++ if_written scenario.delay ++ if_written scenario.least ++ flat_map times_of_message scenario.messages ++ times_of_links scenario.links

-- the greatest common divisor, in at most so many steps of Euclid's rule
unfoldable pub divisor_within : ℕ → ℕ → ℕ → ℕ
divisor_within zero a b = a
divisor_within (suc steps) a b = if b == 0 then a else divisor_within steps b (a % b)

-- the greatest common divisor
abbrev pub common_divisor : ℕ → ℕ → ℕ
common_divisor a b = divisor_within (b + 1) a b

-- the greatest common divisor of a number and all of a list
abbrev pub divisor_of_all : ℕ → List ℕ → ℕ
divisor_of_all divisor [] = divisor
divisor_of_all divisor (length ∷ lengths) = divisor_of_all (common_divisor divisor length) lengths

-- the length of a tick that is not written: none where all times are numbers of ticks, and where all are durations the greatest that each of them is a whole number of
abbrev pub tick_between : List WrittenTime → Result (Option ℕ) ScenarioFault
tick_between times =
    if list_all is_count times then Ok None
    else if list_all is_lasting times then Ok (Some (max 1 (divisor_of_all 0 (map length_of times))))
    else Err (Shape Tick)

-- the length of a scenario's tick, if it has one
abbrev pub tick_of : WrittenScenario → Result (Option ℕ) ScenarioFault
tick_of scenario = or_between scenario.tick where
  or_between : Option ℕ → Result (Option ℕ) ScenarioFault
  or_between (Some tick) = Ok (Some tick)
  or_between None = tick_between (times_of scenario)

-- how many ticks of this length a duration takes, if that is a whole number
abbrev pub ticks_in : ℕ → ℕ → Option ℤ
ticks_in tick length = if length % tick == 0 then Some (pos (length / tick)) else None

-- the ticks of a time
abbrev pub ticks_of : Option ℕ → WrittenTime → Option ℤ
ticks_of tick (Count ticks) = Some ticks
ticks_of tick (Lasting length) = option_and_then (λ t. ticks_in t length) tick

-- the ticks of a time, which has to be a whole number of them
abbrev pub whole : Option ℕ → Key → WrittenTime → Result ℤ ScenarioFault
whole tick key time = ok_or (ticks_of tick time) (NotWhole key)

-- the ticks of a time that may be left out
abbrev pub whole_if_written : Option ℕ → Key → Option WrittenTime → Result (Option ℤ) ScenarioFault
whole_if_written tick key None = Ok None
whole_if_written tick key (Some time) = whole tick key time >>= λ ticks. Ok (Some ticks)

-- the last tick at which a message may be issued: where none is written, the first one
abbrev pub last_tick : Option ℕ → ℤ → Option WrittenTime → Result ℤ ScenarioFault
last_tick tick at None = Ok at
last_tick tick at (Some until) = whole tick Until until

-- a message in ticks
abbrev pub draft_message_of : Option ℕ → WrittenMessage → Result DraftMessage ScenarioFault
draft_message_of tick message = do
  at ← whole tick At message.at
  until ← last_tick tick at message.until
  Ok (record { name = message.name; sender = message.sender; to = message.to; at = at; until = until })

-- the messages in ticks
abbrev pub draft_messages_of : Option ℕ → List WrittenMessage → Result (List DraftMessage) ScenarioFault
draft_messages_of tick [] = Ok []
draft_messages_of tick (message ∷ messages) = do
  first ← draft_message_of tick message
  others ← draft_messages_of tick messages
  Ok (first ∷ others)

-- the links of a table in ticks
abbrev pub bundle_of : Option ℕ → WrittenLink → Result Bundle ScenarioFault
bundle_of tick link = do
  least ← whole tick Least link.least
  most ← whole tick Most link.most
  Ok (record { ends = link.ends; least = least; most = most; stamps = link.stamps })

-- the links of all tables in ticks
abbrev pub bundles_of : Option ℕ → List WrittenLink → Result (List Bundle) ScenarioFault
bundles_of tick [] = Ok []
bundles_of tick (link ∷ links) = do
  first ← bundle_of tick link
  others ← bundles_of tick links
  Ok (first ∷ others)

-- what the replicas of groups need to agree, in ticks
abbrev pub agreement_of : Option ℕ → WrittenAgreement → Result Agreement ScenarioFault
agreement_of tick agreement = do
  least ← whole tick Agree agreement.least
  most ← whole tick Agree agreement.most
  Ok (record { groups = agreement.groups; least = least; most = most; twice = agreement.twice })

-- what the replicas of all groups need to agree, in ticks
abbrev pub agreements_of : Option ℕ → List WrittenAgreement → Result (List Agreement) ScenarioFault
agreements_of tick [] = Ok []
agreements_of tick (agreement ∷ agreements) = do
  first ← agreement_of tick agreement
  others ← agreements_of tick agreements
  Ok (first ∷ others)

-- the greatest delay of all tables of links, and of one more
abbrev pub greatest_most : ℤ → List Bundle → ℤ
greatest_most so_far [] = so_far
greatest_most so_far (bundle ∷ bundles) = greatest_most (if int_le so_far bundle.most then bundle.most else so_far) bundles

-- D: what is written, or else the greatest delay of all links
abbrev pub delay_or_greatest : Option ℤ → List Bundle → ℤ
delay_or_greatest written bundles = unwrap_or written (greatest_most (pos 0) bundles)

-- the least delay of what goes by no link is within 1 to D, where it is written; a D beyond its own limits is told later
abbrev pub is_least : AnyTime → ℤ → Option ℤ → Bool
is_least time delay None = true
is_least time delay (Some least) = not (is_within 1 (greatest_delay time) delay) || (int_le (pos 1) least && int_le least delay)

abbrev pub need_least : AnyTime → ℤ → Option ℤ → Result (Unit {0}) ScenarioFault
need_least time delay least = if is_least time delay least then Ok tt else Err (OverLimit limits.Least)

-- the scenario in ticks, with each link that its tables write, and where a least delay of what goes by none is written, a link with it for each way of that, and with what the replicas of groups need to agree; or the first time that is no whole number of ticks; or too many links; or a least delay, or where replicas agree another range, beyond its limits
abbrev pub draft_of_written : WrittenScenario → Result Draft ScenarioFault
draft_of_written scenario = do
  tick ← tick_of scenario
  written ← whole_if_written tick Delay scenario.delay
  least ← whole_if_written tick Least scenario.least
  messages ← draft_messages_of tick scenario.messages
  bundles ← bundles_of tick scenario.links
  agreements ← agreements_of tick scenario.agreements
  links ← links_of_bundles bundles
  _ ← need_least scenario.time (delay_or_greatest written bundles) least
  with_agreements least agreements (record { time = scenario.time; tick = tick; delay = delay_or_greatest written bundles; groups = scenario.groups; places = scenario.places; links = links; messages = messages; target_message = scenario.target_message; target_group = scenario.target_group })
