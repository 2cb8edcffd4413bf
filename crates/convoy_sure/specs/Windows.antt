-- Windows: from when to when each message may arrive at each of its destinations and be committed there, and the least and the greatest delay of each of its packets, in lists.
use Rattle.std.specs.Prelude.{ℕ, ◌+◌, ◌-◌, ◌*◌, ◌/◌, ◌%◌, ◌≤◌, max, min, ◌&&◌, List, length, All, map, slice_index_or, slice_set, if◌then◌else◌}
use Rattle.std.specs.List.{fold, range_with_len}
use Rattle.convoy_draft.specs.declared.limits.TheConstants.{MOST_GROUPS, GREATEST_UNTIL}
use Rattle.convoy_scenario.specs.Scenario.{Scenario, message_at, is_addressed, GoesTo}
use Rattle.convoy_packets.specs.declared.packet.Packet.TheVariants.{Multicast, Propose}
use Rattle.convoy_packets.specs.Assignment.{Schedule, delay_of}
use Rattle.convoy_packets.specs.Table.{least_of}
use Rattle.convoy_sim.specs.Times.{Tick}
use Rattle.convoy_packets.specs.Order.{place}
use Rattle.convoy_intervals.specs.Boxes.{Box, greatest_of}
use Rattle.convoy_intervals.specs.Bounds.{Tables, Encloses, tables_of}

-- the tables of arrival and settling, and the least and the greatest delay of a message on its way to a group, and of its proposal from one group to another
pub record LeadTables : Type 0 where
  pub times : Tables
  pub least_multicast : ℕ → ℕ → ℕ
  pub greatest_multicast : ℕ → ℕ → ℕ
  pub least_proposal : ℕ → ℕ → ℕ → ℕ
  pub greatest_proposal : ℕ → ℕ → ℕ → ℕ

-- the tables enclose arrival and settling under a schedule, and the delay of each message to a destination and of each proposal between destinations
pub record EnclosesAll (scenario : Scenario) (schedule : Schedule) (tables : LeadTables) : Type 0 where
  pub times : Encloses scenario schedule tables.times
  pub multicasts_low : (m g : ℕ) → GoesTo scenario m g → tables.least_multicast m g ≤ delay_of scenario schedule (Multicast m g)
  pub multicasts_high : (m g : ℕ) → GoesTo scenario m g → delay_of scenario schedule (Multicast m g) ≤ tables.greatest_multicast m g
  pub proposals_low : (m h g : ℕ) → GoesTo scenario m h → GoesTo scenario m g → tables.least_proposal m h g ≤ delay_of scenario schedule (Propose m h g)
  pub proposals_high : (m h g : ℕ) → GoesTo scenario m h → GoesTo scenario m g → delay_of scenario schedule (Propose m h g) ≤ tables.greatest_proposal m h g

-- the same in lists: an entry for each message at each group, and for the proposals one for each message at each two groups
pub record Windows : Type 0 where
  pub least_arrivals : List ℕ
  pub greatest_arrivals : List ℕ
  pub least_settlings : List ℕ
  pub greatest_settlings : List ℕ
  pub least_multicasts : List ℕ
  pub greatest_multicasts : List ℕ
  pub least_proposals : List ℕ
  pub greatest_proposals : List ℕ

-- the entry for message m at group g
abbrev pub entry_at : List ℕ → ℕ → ℕ → ℕ
entry_at entries m g = slice_index_or entries (place m g) 0

-- the windows as tables
abbrev pub tables_by : Windows → LeadTables
tables_by windows = record {
  times = record {
    least_arrival = entry_at windows.least_arrivals;
    greatest_arrival = entry_at windows.greatest_arrivals;
    least_settling = entry_at windows.least_settlings;
    greatest_settling = entry_at windows.greatest_settlings;
  };
  least_multicast = entry_at windows.least_multicasts;
  greatest_multicast = entry_at windows.greatest_multicasts;
  least_proposal = λ m h g. entry_at windows.least_proposals (place m h) g;
  greatest_proposal = λ m h g. entry_at windows.greatest_proposals (place m h) g;
}

-- the entry at a place: that number at the message's destinations, 0 elsewhere
abbrev pub entry_of : Scenario → (ℕ → ℕ → ℕ) → ℕ → ℕ
entry_of scenario what i =
    if is_addressed (message_at scenario (i / MOST_GROUPS)) (i % MOST_GROUPS) then what (i / MOST_GROUPS) (i % MOST_GROUPS) else 0

-- an entry for each message at each group
abbrev pub entries_of : Scenario → (ℕ → ℕ → ℕ) → List ℕ
entries_of scenario what = map (entry_of scenario what) (range_with_len 0 (length scenario.multicasts * MOST_GROUPS))

-- an entry for the delay of each message on its way to each group
abbrev pub multicasts_of : Scenario → Schedule → List ℕ
multicasts_of scenario schedule = entries_of scenario (λ m g. delay_of scenario schedule (Multicast m g))

-- the delay of the proposal of message m from group h to group g, 0 where one of them is no destination
abbrev pub proposal_delay : Scenario → Schedule → ℕ → ℕ → ℕ → ℕ
proposal_delay scenario schedule m h g =
    if is_addressed (message_at scenario m) h && is_addressed (message_at scenario m) g then delay_of scenario schedule (Propose m h g) else 0

-- the entry at a place in a table of proposals
abbrev pub proposal_entry : Scenario → Schedule → ℕ → ℕ
proposal_entry scenario schedule i =
    proposal_delay scenario schedule (i / MOST_GROUPS / MOST_GROUPS) (i / MOST_GROUPS % MOST_GROUPS) (i % MOST_GROUPS)

-- an entry for the proposal of each message from each group to each group
abbrev pub proposals_of : Scenario → Schedule → List ℕ
proposals_of scenario schedule =
    map (proposal_entry scenario schedule) (range_with_len 0 (length scenario.multicasts * MOST_GROUPS * MOST_GROUPS))

-- the windows of a box
abbrev pub windows_of : Scenario → Box → Windows
windows_of scenario ranges = record {
  least_arrivals = entries_of scenario (tables_of scenario ranges).least_arrival;
  greatest_arrivals = entries_of scenario (tables_of scenario ranges).greatest_arrival;
  least_settlings = entries_of scenario (tables_of scenario ranges).least_settling;
  greatest_settlings = entries_of scenario (tables_of scenario ranges).greatest_settling;
  least_multicasts = multicasts_of scenario (least_of ranges);
  greatest_multicasts = multicasts_of scenario (greatest_of ranges);
  least_proposals = proposals_of scenario (least_of ranges);
  greatest_proposals = proposals_of scenario (greatest_of ranges);
}

-- the entries, of which that for message m at group g is at least so much
abbrev pub raised : List ℕ → ℕ → ℕ → ℕ → List ℕ
raised entries m g least = slice_set entries (place m g) (max least (entry_at entries m g))

-- where message m arrives at group k at that tick or later, it is issued no earlier than the greatest delay to there before that; no message is issued past the last tick of all
abbrev pub issued_since : Windows → ℕ → ℕ → Tick → Tick
issued_since windows m k tick = min GREATEST_UNTIL (tick - (tables_by windows).greatest_multicast m k)

-- the least arrivals, where message m arrives at group k at that tick or later: it arrives at group g no earlier than after the least delay from its issue
abbrev pub with_issue : Windows → ℕ → ℕ → Tick → List ℕ → ℕ → List ℕ
with_issue windows m k tick entries g = raised entries m g (issued_since windows m k tick + (tables_by windows).least_multicast m g)

-- the least settlings, where message m arrives at group k at that tick or later: it is committed at group g no earlier than its stamp of group k may come from there
abbrev pub with_settling : Windows → ℕ → ℕ → Tick → List ℕ → ℕ → List ℕ
with_settling windows m k tick entries g = raised entries m g (tick + (tables_by windows).least_proposal m k g)

-- the windows cut: message m arrives at group k, one of its destinations, at that tick or later
abbrev pub with_arrival : Scenario → Windows → ℕ → ℕ → Tick → Windows
with_arrival scenario windows m k tick = record {
  least_arrivals = raised (fold (with_issue windows m k tick) windows.least_arrivals (message_at scenario m).destinations) m k tick;
  greatest_arrivals = windows.greatest_arrivals;
  least_settlings = fold (with_settling windows m k tick) windows.least_settlings (message_at scenario m).destinations;
  greatest_settlings = windows.greatest_settlings;
  least_multicasts = windows.least_multicasts;
  greatest_multicasts = windows.greatest_multicasts;
  least_proposals = windows.least_proposals;
  greatest_proposals = windows.greatest_proposals;
}

-- ---- cuts from above
-- the entries, of which that for message m at group g is at most so much
abbrev pub lowered : List ℕ → ℕ → ℕ → ℕ → List ℕ
lowered entries m g most = slice_set entries (place m g) (min most (entry_at entries m g))

-- the greatest arrivals, where message m is issued by that tick: it arrives at group g no later than after the greatest delay from its issue
abbrev pub with_issue_by : Windows → ℕ → Tick → List ℕ → ℕ → List ℕ
with_issue_by windows m tick entries g = lowered entries m g (tick + (tables_by windows).greatest_multicast m g)

-- the greatest arrivals, where message m arrives at group k by that tick: it is issued no later than the least delay to there before that
abbrev pub arrivals_by : Scenario → Windows → ℕ → ℕ → Tick → List ℕ → List ℕ
arrivals_by scenario windows m k tick entries =
    lowered (fold (with_issue_by windows m (tick - (tables_by windows).least_multicast m k)) entries (message_at scenario m).destinations) m k tick

-- the greatest arrivals, where message m is committed at group k by that tick: it arrives at group h in time for its stamp of h to come from there
abbrev pub arrivals_before : Scenario → Windows → ℕ → ℕ → Tick → List ℕ → ℕ → List ℕ
arrivals_before scenario windows m k tick entries h = arrivals_by scenario windows m h (tick - (tables_by windows).least_proposal m h k) entries

-- the windows cut: message m arrives at group k, one of its destinations, by that tick
abbrev pub with_arrival_by : Scenario → Windows → ℕ → ℕ → Tick → Windows
with_arrival_by scenario windows m k tick = record windows { greatest_arrivals = arrivals_by scenario windows m k tick windows.greatest_arrivals }

-- the windows cut: message m is committed at group k, one of its destinations, at that tick or later
abbrev pub with_commit : Windows → ℕ → ℕ → Tick → Windows
with_commit windows m k tick = record windows { least_settlings = raised windows.least_settlings m k tick }

-- the windows cut: message m is committed at group k, one of its destinations, by that tick
abbrev pub with_commit_by : Scenario → Windows → ℕ → ℕ → Tick → Windows
with_commit_by scenario windows m k tick = record windows {
  greatest_arrivals = fold (arrivals_before scenario windows m k tick) windows.greatest_arrivals (message_at scenario m).destinations;
  greatest_settlings = lowered windows.greatest_settlings m k tick;
}

-- no arrival, settling or delay is later or longer than any of a scenario
pub record AreWithinLimits (windows : Windows) : Type 0 where
  pub least_arrivals : All (λ tick. tick ≤ GREATEST_UNTIL + 65535) windows.least_arrivals
  pub greatest_arrivals : All (λ tick. tick ≤ GREATEST_UNTIL + 65535) windows.greatest_arrivals
  pub least_settlings : All (λ tick. tick ≤ GREATEST_UNTIL + 131070) windows.least_settlings
  pub greatest_settlings : All (λ tick. tick ≤ GREATEST_UNTIL + 131070) windows.greatest_settlings
  pub least_multicasts : All (λ delay. delay ≤ 65535) windows.least_multicasts
  pub greatest_multicasts : All (λ delay. delay ≤ 65535) windows.greatest_multicasts
  pub least_proposals : All (λ delay. delay ≤ 65535) windows.least_proposals
  pub greatest_proposals : All (λ delay. delay ≤ 65535) windows.greatest_proposals
