-- How long all messages of a scenario take to be committed, at the longest: of two choices that are as late, the one with the lesser total is the better.
use Rattle.std.specs.Prelude.{ℕ}
use Rattle.std.specs.List.{sum_by}
use Rattle.convoy_scenario.specs.Scenario.{Scenario, message_at, message_numbers}
use Rattle.convoy_ceiling.specs.Ceiling.{longest_to_commit}

-- the longest from the issue of a message to its commit, summed over the groups that it goes to
abbrev pub total_at : Scenario → ℕ → ℕ
total_at scenario m = sum_by (longest_to_commit scenario m) (message_at scenario m).destinations

-- the same of all messages
abbrev pub total_of : Scenario → ℕ
total_of scenario = sum_by (total_at scenario) (message_numbers scenario)
