-- Slow messages, whose packets take longer than a link says: each is sent from a place of its own, from which links lead that take so much longer.
use Rattle.std.specs.Prelude.{ℕ, ◌+◌, ℤ, pos, int_le, nat_le, length, Bool, true, false, ◌&&◌, if◌then◌else◌, List, [], ◌∷◌, ◌++◌, map, flat_map, find, sum_by, Option, Some, None, is_some, option_map, ok_or, Result, Ok, Err}
use Rattle.std.specs.List.{list_any}
use Rattle.std.specs.Option.{option_or}
use Rattle.toml.specs.Data.{Members}
use Rattle.convoy_lines.specs.Results.{◌>>=◌}
use Rattle.convoy_draft.specs.declared.fault.Key.{Key}
use Rattle.convoy_draft.specs.declared.fault.Key.TheVariants as key
use Rattle.convoy_draft.specs.declared.fault.Limit.TheVariants.{Link}
use Rattle.convoy_draft.specs.declared.fault.ScenarioFault.{ScenarioFault}
use Rattle.convoy_draft.specs.declared.fault.ScenarioFault.TheVariants.{NoRange, OverLimit, Shape}
use Rattle.convoy_draft.specs.declared.limits.TheConstants.{GREATEST_DELAY}
use Rattle.convoy_draft.specs.declared.time.Time.{Time}
use Rattle.convoy_draft.specs.declared.time.Time.TheVariants.{Ticks, Real}
use Rattle.convoy_draft.specs.Checks.{is_named_alike, is_within}
use Rattle.convoy_draft.specs.Durations.{within_longest}
use Rattle.convoy_toml.specs.declared.asked.Asked.{Asked}
use Rattle.convoy_toml.specs.declared.target.TargetKey.{TargetKey}
use Rattle.convoy_toml.specs.declared.written.WrittenRange.{WrittenRange}
use Rattle.convoy_toml.specs.declared.written.WrittenTime.{WrittenTime}
use Rattle.convoy_toml.specs.declared.written.WrittenTime.TheVariants.{Count, Lasting}
use Rattle.convoy_toml.specs.Agreements.{together}
use Rattle.convoy_toml.specs.declared.links.TheConstants.{MOST_WRITTEN_LINKS}
use Rattle.convoy_toml.specs.Links.{Bundle, count_of, links_of_bundle}
use Rattle.convoy_toml.specs.Outside.{LinkShare, shares_of_table}
use Rattle.convoy_toml.specs.Shape.{LinkEnds, Written, WrittenLink, WrittenMessage, WrittenScenario, scenario_of_table, shape_of_table}
use Rattle.convoy_toml.specs.Ways.{Way, leads_along}

-- ---- two ranges together

-- two numbers of ticks together, each of them within the limits of a delay
abbrev pub counts_together : ℤ → ℤ → Result WrittenTime ScenarioFault
counts_together ticks more =
    if is_within 0 GREATEST_DELAY ticks && is_within 0 GREATEST_DELAY more then Ok (Count (together ticks more)) else Err (OverLimit Link)

-- two durations together, as long as one may be
abbrev pub durations_together : ℕ → ℕ → Result WrittenTime ScenarioFault
durations_together length more = ok_or (option_map Lasting (within_longest (length + more))) (OverLimit Link)

-- two times together, which are written alike: the key of the one that is not is at fault
abbrev pub times_together : Key → WrittenTime → WrittenTime → Result WrittenTime ScenarioFault
times_together key (Count ticks) (Count more) = counts_together ticks more
times_together key (Count ticks) (Lasting more) = Err (Shape key)
times_together key (Lasting length) (Count more) = Err (Shape key)
times_together key (Lasting length) (Lasting more) = durations_together length more

-- two ranges together
abbrev pub ranges_together : WrittenRange → WrittenRange → Result WrittenRange ScenarioFault
ranges_together range longer = do
  least ← times_together key.Least range.least longer.least
  most ← times_together key.Most range.most longer.most
  Ok (record { least = least; most = most })

-- the one is no more than the other, where they are written alike
abbrev pub is_up_to : WrittenTime → WrittenTime → Bool
is_up_to (Count ticks) (Count most) = int_le ticks most
is_up_to (Count ticks) (Lasting most) = true
is_up_to (Lasting length) (Count most) = true
is_up_to (Lasting length) (Lasting most) = nat_le length most

-- the least time of a range is no more than the greatest
abbrev pub need_range : WrittenRange → Result (Unit {0}) ScenarioFault
need_range range = if is_up_to range.least range.most then Ok tt else Err (OverLimit Link)

-- ---- what the way from a sender to a group takes

-- links with these ends, whatever their range
abbrev pub bundle_between : LinkEnds → Bundle
bundle_between ends = record { ends = ends; least = pos 0; most = pos 0; stamps = false }

-- a link of the table leads that way
abbrev pub has_link_along : Way → WrittenLink → Bool
has_link_along way link = list_any (leads_along way) (links_of_bundle (bundle_between link.ends))

-- the range of the links of a table
abbrev pub range_of_link : WrittenLink → WrittenRange
range_of_link link = record { least = link.least; most = link.most }

-- the range of the first table with a link that leads that way
abbrev pub range_of_links : List WrittenLink → Way → Option WrittenRange
range_of_links links way = option_map range_of_link (find (has_link_along way) links)

-- the least delay of what goes by no link, where none is written: 1 tick in whole ticks
abbrev pub least_in : Time → Option WrittenTime
least_in Ticks = Some (Count (pos 1))
least_in Real = None

-- the range of what goes by no link, which has to be written
abbrev pub range_without_link : WrittenScenario → Result WrittenRange ScenarioFault
range_without_link scenario = do
  least ← ok_or (option_or scenario.least (least_in scenario.time)) NoRange
  most ← ok_or scenario.delay NoRange
  Ok (record { least = least; most = most })

-- the range of what goes that way: that of a link, or of what goes by none; nothing from a group to itself, which takes no time
abbrev pub range_along : WrittenScenario → Way → Result (Option WrittenRange) ScenarioFault
range_along scenario way = or_without (range_of_links scenario.links way) where
  or_without : Option WrittenRange → Result (Option WrittenRange) ScenarioFault
  or_without (Some range) = Ok (Some range)
  or_without None =
      if is_named_alike way.sender (Some way.to) then Ok None else (range_without_link scenario >>= λ range. Ok (Some range))

-- the range, if there is one, together with another
abbrev pub lengthened_range : Option WrittenRange → WrittenRange → Result WrittenRange ScenarioFault
lengthened_range None longer = Ok longer
lengthened_range (Some range) longer = ranges_together range longer

-- ---- places of their own

-- the message has a range of its own
abbrev pub is_slow : WrittenMessage → Bool
is_slow message = is_some message.longer

-- a table of one link from a place to a group
abbrev pub link_from_place : List ℕ → List ℕ → WrittenRange → WrittenLink
link_from_place place to range = record { ends = record { senders = Some (place ∷ []); to = to ∷ []; both = false }; least = range.least; most = range.most; stamps = false }

-- the link from a message's own place to a group, which takes so much longer than the way from its sender
abbrev pub own_link : WrittenScenario → WrittenMessage → WrittenRange → List ℕ → Result WrittenLink ScenarioFault
own_link scenario message longer to = do
  along ← range_along scenario (record { sender = message.sender; to = to })
  range ← lengthened_range along longer
  Ok (link_from_place message.name to range)

-- the links to each of these groups
abbrev pub own_links : WrittenScenario → WrittenMessage → WrittenRange → List (List ℕ) → Result (List WrittenLink) ScenarioFault
own_links scenario message longer [] = Ok []
own_links scenario message longer (to ∷ others) = do
  link ← own_link scenario message longer to
  links ← own_links scenario message longer others
  Ok (link ∷ links)

-- the links from the own place of a message; none where it has no range
abbrev pub links_of_message : WrittenScenario → WrittenMessage → Result (List WrittenLink) ScenarioFault
links_of_message scenario message = of_range message.longer where
  of_range : Option WrittenRange → Result (List WrittenLink) ScenarioFault
  of_range None = Ok []
  of_range (Some longer) = need_range longer >>= λ _. own_links scenario message longer message.to

-- the links from the own places of messages, message by message
abbrev pub links_of_messages : WrittenScenario → List WrittenMessage → Result (List WrittenLink) ScenarioFault
links_of_messages scenario [] = Ok []
links_of_messages scenario (message ∷ messages) = do
  links ← links_of_message scenario message
  others ← links_of_messages scenario messages
  Ok (links ++ others)

-- the own place of a message, which is named as it is; none where it has no range
abbrev pub own_place : WrittenMessage → List (List ℕ)
own_place message = if is_slow message then message.name ∷ [] else []

-- the message sent from its own place, where it has a range
abbrev pub from_own_place : WrittenMessage → WrittenMessage
from_own_place message = if is_slow message then record message { sender = Some message.name; longer = None } else message

-- the tables write no more links than they may
abbrev pub need_few : List WrittenLink → Result (Unit {0}) ScenarioFault
need_few links =
    if nat_le (sum_by count_of (map (λ link. bundle_between link.ends) links)) MOST_WRITTEN_LINKS then Ok tt else Err (OverLimit Link)

-- the scenario with each slow message sent from a place of its own
abbrev pub with_own_places : WrittenScenario → Result WrittenScenario ScenarioFault
with_own_places scenario = do
  _ ← need_few scenario.links
  links ← links_of_messages scenario scenario.messages
  Ok (record scenario { places = scenario.places ++ flat_map own_place scenario.messages; links = scenario.links ++ links; messages = map from_own_place scenario.messages })

-- beside a slow message no table of links writes which share of packets is outside its range, since the links from its place would have none
abbrev pub need_no_shares : List LinkShare → Result (Unit {0}) ScenarioFault
need_no_shares [] = Ok tt
need_no_shares (share ∷ shares) = Err (Shape key.Link)

-- the scenario, with each slow message sent from a place of its own where there is one, and else as it is
abbrev pub without_ranges_of_messages : List LinkShare → WrittenScenario → Result WrittenScenario ScenarioFault
without_ranges_of_messages shares scenario =
    if list_any is_slow scenario.messages
    then (need_no_shares shares >>= λ _. with_own_places scenario)
    else Ok scenario

-- no message has a range of its own: the keys that say so are unknown
abbrev pub need_none_slow : List WrittenMessage → Result (Unit {0}) ScenarioFault
need_none_slow messages = if list_any is_slow messages then Err (Shape key.Unknown) else Ok tt

-- the scenario as it is written, but for what the replicas of groups need to agree, whatever else stands in the table, for texts in which each message has one sender at most and no range of its own
abbrev pub scenario_without_slow : TargetKey → Members → Result WrittenScenario ScenarioFault
scenario_without_slow key table = do
  scenario ← scenario_of_table None key table
  _ ← need_none_slow scenario.messages
  Ok scenario

-- what is written in a scenario's table, which has no other key, with each slow message sent from a place of its own
abbrev pub written_of_table : Asked → Members → Result Written ScenarioFault
written_of_table asked table = do
  written ← shape_of_table asked table
  scenario ← without_ranges_of_messages (shares_of_table table) written.scenario
  Ok (record written { scenario = scenario })
