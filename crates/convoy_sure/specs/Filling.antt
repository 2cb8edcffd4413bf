-- What stands at each place of the lists of windows.
use Rattle.std.specs.Prelude.{ℕ, ◌*◌, ◌+◌, length}
use Rattle.convoy_draft.specs.declared.limits.TheConstants.{MOST_GROUPS, GREATEST_UNTIL}
use Rattle.convoy_scenario.specs.Scenario.{Scenario}
use Rattle.convoy_packets.specs.declared.packet.Packet.TheVariants.{Multicast}
use Rattle.convoy_packets.specs.Assignment.{delay_of}
use Rattle.convoy_packets.specs.Table.{least_of}
use Rattle.convoy_intervals.specs.Boxes.{Box, greatest_of}
use Rattle.convoy_intervals.specs.Bounds.{tables_of}
use Rattle.convoy_sure.specs.Windows.{entry_of, proposal_entry}
use Rattle.convoy_sure.specs.declared.filling.Kind.{Kind}
use Rattle.convoy_sure.specs.declared.filling.Kind.TheVariants.{Arrivals, Settlings, Multicasts, Proposals}

-- how many places a list of that kind has
abbrev pub place_count : Scenario → Kind → ℕ
place_count scenario Arrivals = length scenario.multicasts * MOST_GROUPS
place_count scenario Settlings = length scenario.multicasts * MOST_GROUPS
place_count scenario Multicasts = length scenario.multicasts * MOST_GROUPS
place_count scenario Proposals = length scenario.multicasts * MOST_GROUPS * MOST_GROUPS

-- the least entry at a place, over the members of a box
abbrev pub least_entry : Scenario → Box → Kind → ℕ → ℕ
least_entry scenario ranges Arrivals i = entry_of scenario (tables_of scenario ranges).least_arrival i
least_entry scenario ranges Settlings i = entry_of scenario (tables_of scenario ranges).least_settling i
least_entry scenario ranges Multicasts i = entry_of scenario (λ m g. delay_of scenario (least_of ranges) (Multicast m g)) i
least_entry scenario ranges Proposals i = proposal_entry scenario (least_of ranges) i

-- the greatest one
abbrev pub greatest_entry : Scenario → Box → Kind → ℕ → ℕ
greatest_entry scenario ranges Arrivals i = entry_of scenario (tables_of scenario ranges).greatest_arrival i
greatest_entry scenario ranges Settlings i = entry_of scenario (tables_of scenario ranges).greatest_settling i
greatest_entry scenario ranges Multicasts i = entry_of scenario (λ m g. delay_of scenario (greatest_of ranges) (Multicast m g)) i
greatest_entry scenario ranges Proposals i = proposal_entry scenario (greatest_of ranges) i

-- what no entry exceeds
abbrev pub last_entry : Kind → ℕ
last_entry Arrivals = GREATEST_UNTIL + 65535
last_entry Settlings = GREATEST_UNTIL + 131070
last_entry Multicasts = 65535
last_entry Proposals = 65535
