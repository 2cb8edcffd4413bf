-- Leads: where each stamp of the target is surely less than that of a message.
use Rattle.std.specs.Prelude.{ℕ, ◌==◌, Bool, ◌&&◌, ◌||◌}
use Rattle.std.specs.List.{list_all}
use Rattle.convoy_scenario.specs.Scenario.{Scenario, message_at}
use Rattle.convoy_sure.specs.Windows.{LeadTables}
use Rattle.convoy_sure.specs.SureLeads.{sure_of, is_earlier}
use Rattle.convoy_starts.specs.Starts.{is_surely_less, last_arrival, starts_by}

-- message n surely arrives at the target's group after the target, and each stamp of the target elsewhere is surely less than its own
unfoldable pub is_led : Scenario → LeadTables → Bool → ℕ → Bool
is_led scenario tables barring n =
    let target = scenario.target_message in
    let group = scenario.target_group in
    let sure = sure_of scenario tables.times n in
    let starts = starts_by scenario tables sure barring (last_arrival scenario tables.times) in
    is_earlier scenario.time (tables.times.greatest_arrival target group) target (tables.times.least_arrival n group) n
    && list_all (λ h. (h == group) || is_surely_less scenario tables.times sure starts h) (message_at scenario target).destinations
