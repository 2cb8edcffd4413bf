-- A scenario with other targets: each message may be one, unless its window leaves it no room.
use Rattle.std.specs.Prelude.{ℕ, Bool, List, [], if◌then◌else◌, map}
use Rattle.std.specs.List.{flat_map}
use Rattle.convoy_scenario.specs.Room.{has_room}
use Rattle.convoy_scenario.specs.Scenario.{Scenario, message_at, message_numbers}

-- the same scenario, of which the latency of that message at that group is asked
abbrev pub with_target : Scenario → ℕ → ℕ → Scenario
with_target scenario m g = record scenario { target_message = m; target_group = g }

-- the message has room as the target, at whichever group
abbrev pub may_be_target : Scenario → ℕ → Bool
may_be_target scenario m = has_room (with_target scenario m 0)

-- the message at each group that it goes to, if it may be the target
abbrev pub targets_at : Scenario → ℕ → List (ℕ × ℕ)
targets_at scenario m = if may_be_target scenario m then map (λ g. (m, g)) (message_at scenario m).destinations else []

-- each message that may be the target at each group that it goes to, in the order of their numbers
abbrev pub targets_of : Scenario → List (ℕ × ℕ)
targets_of scenario = flat_map (targets_at scenario) (message_numbers scenario)
