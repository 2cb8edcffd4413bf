-- Words of the program's own parts: what is left to be tested of a message that surely arrives behind the target.
use Rattle.std.specs.Prelude.{◌==◌, Bool, ◌||◌, List}
use Rattle.std.specs.List.{list_all}
use Rattle.convoy_scenario.specs.Scenario.{Scenario, message_at}
use Rattle.convoy_intervals.specs.Bounds.{Tables}
use Rattle.convoy_sure.specs.Windows.{LeadTables}
use Rattle.convoy_sure.specs.SureLeads.{Sure}
use Rattle.convoy_starts.specs.Starts.{Start, is_surely_less, last_arrival, starts_by}

-- by these starts each stamp of the target elsewhere is surely less than that of a message of which this is sure
abbrev pub is_less_by : Scenario → Tables → Sure → List Start → Bool
is_less_by scenario tables sure starts =
    list_all (λ h. (h == scenario.target_group) || is_surely_less scenario tables sure starts h) (message_at scenario scenario.target_message).destinations

-- the same by all starts
abbrev pub is_less_elsewhere : Scenario → LeadTables → Sure → Bool → Bool
is_less_elsewhere scenario tables sure barring =
    is_less_by scenario tables.times sure (starts_by scenario tables sure barring (last_arrival scenario tables.times))
