-- The ways by which answers come in groups that are replicated as white boxes: what comes to the leader of a group goes on, as a stamp, to all replicas of each destination of the message, and each of these answers to the target's group.
use Rattle.std.specs.Prelude.{ℕ, ◌+◌, ◌*◌, ◌/◌, ◌%◌, ◌==◌, List, length, map, slice_index_or, if◌then◌else◌}
use Rattle.std.specs.List.{range_with_len}
use Rattle.convoy_draft.specs.declared.limits.TheConstants.{MOST_GROUPS}
use Rattle.convoy_scenario.specs.declared.sender.Sender.TheVariants.{Group}
use Rattle.convoy_scenario.specs.Scenario.{Scenario, message_at, range_between}
use Rattle.convoy_sim.specs.Times.{greatest}

-- how far the replicas of a group are from its leader, in ticks: none where nothing is said
abbrev pub replicas_at : List ℕ → ℕ → ℕ
replicas_at replicas group = slice_index_or replicas group 0

-- the greatest delay of a packet between replicas of groups x and y, in ticks: that of the link from the one group to the other, or what it takes to a replica inside a group
abbrev pub most_between : Scenario → List ℕ → ℕ → ℕ → ℕ
most_between scenario replicas x y = if x == y then replicas_at replicas x else (range_between scenario (Group x) y).1

-- how long it takes at most from group k to the replicas of group h, and from these to the target's group
abbrev pub way_by : Scenario → List ℕ → ℕ → ℕ → ℕ
way_by scenario replicas k h = most_between scenario replicas k h + most_between scenario replicas h scenario.target_group

-- how long it takes at most from when message n comes to group k until all replicas of all its destinations, to which it went on from there, have answered to the target's group
abbrev pub white_box_way : Scenario → List ℕ → ℕ → ℕ → ℕ
white_box_way scenario replicas n k = greatest (map (way_by scenario replicas k) (message_at scenario n).destinations)

-- the ways of all messages by all groups
unfoldable pub white_box_ways : Scenario → List ℕ → List ℕ
white_box_ways scenario replicas =
    map (λ i. white_box_way scenario replicas (i / MOST_GROUPS) (i % MOST_GROUPS)) (range_with_len 0 (length scenario.multicasts * MOST_GROUPS))
