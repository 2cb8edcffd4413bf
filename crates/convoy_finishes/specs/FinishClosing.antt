-- Windows that are closed for a latency where messages are finished some time after their commit: as leads close them, with the last finish of a rival in place of its commit.
use Rattle.std.specs.Prelude.{ℕ, ◌+◌, ◌-◌, max, nat_lt, Bool, ◌&&◌, ◌||◌, List, ◌∷◌, map}
use Rattle.std.specs.List.{list_all}
use Rattle.convoy_scenario.specs.Scenario.{Scenario, message_at}
use Rattle.convoy_scenario.specs.Widened.{widened}
use Rattle.convoy_sim.specs.Times.{Tick, greatest}
use Rattle.convoy_intervals.specs.Boxes.{root_of}
use Rattle.convoy_intervals.specs.Bounds.{rivals}
use Rattle.convoy_sure.specs.Windows.{Windows, tables_by, windows_of}
use Rattle.convoy_leads.specs.Closing.{is_behind_after}
use Rattle.convoy_finishes.specs.Finishes.{way_at}

-- how long it takes at most from when message n comes to group k until its answers by way of k, and the stamp of k, are at the target's group
abbrev pub longest_way : Scenario → Windows → List ℕ → ℕ → ℕ → ℕ
longest_way scenario windows ways n k = max (way_at ways n k) ((tables_by windows).greatest_proposal n k scenario.target_group)

-- the last tick at which message n may be finished at the target's group
abbrev pub greatest_finish : Scenario → Windows → List ℕ → ℕ → Tick
greatest_finish scenario windows ways n =
    greatest (map (λ k. (tables_by windows).times.greatest_arrival n k + longest_way scenario windows ways n k) (message_at scenario n).destinations)

-- message n is behind where its way by group k keeps its finish back until that tick
abbrev pub is_behind_by_way : Scenario → Windows → List ℕ → Tick → ℕ → ℕ → Bool
is_behind_by_way scenario windows ways tick n k = is_behind_after scenario windows n k (tick - longest_way scenario windows ways n k)

-- message n cannot be finished at the target's group at that tick or later, or is behind by way of each group that may keep its finish back so long
abbrev pub is_behind_finishing : Scenario → Windows → List ℕ → Tick → ℕ → Bool
is_behind_finishing scenario windows ways tick n =
    nat_lt (greatest_finish scenario windows ways n) tick
    || list_all (is_behind_by_way scenario windows ways tick n) (message_at scenario n).destinations

-- the target is finished within that latency, and each rival that may be finished after it is behind
abbrev pub closes_finishing_over : Scenario → Windows → List ℕ → ℕ → Bool
closes_finishing_over scenario windows ways latency =
    let tick = (message_at scenario scenario.target_message).at + latency + 1 in
    nat_lt (greatest_finish scenario windows ways scenario.target_message) tick
    && list_all (is_behind_finishing scenario windows ways tick) (rivals scenario (tables_by windows).times)

-- from the issue of the target to the last finish of it and of its rivals
abbrev pub plain_finish_over : Scenario → Windows → List ℕ → ℕ
plain_finish_over scenario windows ways =
    greatest (map (greatest_finish scenario windows ways) (scenario.target_message ∷ rivals scenario (tables_by windows).times))
    - (message_at scenario scenario.target_message).at

-- the windows of all assignments, counted from the issue of the target: those of the widened scenario, in which that is known
abbrev pub all_windows : Scenario → Windows
all_windows scenario = windows_of (widened scenario) (root_of (widened scenario))

-- the scenario is closed for a latency: no assignment has a greater one, however late messages are finished
unfoldable pub closes_finishing : Scenario → List ℕ → ℕ → Bool
closes_finishing scenario ways latency = closes_finishing_over (widened scenario) (all_windows scenario) ways latency

-- the plain bound where messages are finished some time after their commit
unfoldable pub plain_finish_bound : Scenario → List ℕ → ℕ
plain_finish_bound scenario ways = plain_finish_over (widened scenario) (all_windows scenario) ways
