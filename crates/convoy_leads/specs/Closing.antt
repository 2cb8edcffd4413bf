-- Boxes that are closed for a latency by leads: where the target is delivered later, some rival that is ahead of it is committed late, and each way in which that can be is shown not to be.
use Rattle.std.specs.Prelude.{ℕ, ◌+◌, ◌-◌, nat_lt, Bool, true, false, ◌&&◌, ◌||◌}
use Rattle.std.specs.List.{list_all}
use Rattle.convoy_scenario.specs.Scenario.{Scenario, message_at}
use Rattle.convoy_sim.specs.Times.{Tick}
use Rattle.convoy_intervals.specs.Boxes.{Box}
use Rattle.convoy_intervals.specs.Bounds.{rivals}
use Rattle.convoy_sure.specs.Windows.{LeadTables, Windows, tables_by, windows_of, with_arrival}
use Rattle.convoy_leads.specs.Leads.{is_led}

-- message n surely arrives after the target is committed, or its stamp is surely greater than the target's: at first with no message barred, and then with each
abbrev pub is_behind : Scenario → LeadTables → ℕ → Bool
is_behind scenario tables n =
    nat_lt (tables.times.greatest_settling scenario.target_message scenario.target_group) (tables.times.least_arrival n scenario.target_group)
    || (is_led scenario tables false n || is_led scenario tables true n)

-- message m cannot arrive at group k at that tick or later, or message n is behind where it does
abbrev pub is_behind_by : Scenario → Windows → ℕ → ℕ → ℕ → Tick → Bool
is_behind_by scenario windows n m k tick =
    nat_lt ((tables_by windows).times.greatest_arrival m k) tick
    || is_behind scenario (tables_by (with_arrival scenario windows m k tick)) n

-- the target's stamp of group f does not keep it back until message n arrives, or n is behind where it does
abbrev pub is_behind_target : Scenario → Windows → ℕ → ℕ → Bool
is_behind_target scenario windows n f =
    let tables = tables_by windows in
    is_behind_by scenario windows n scenario.target_message f
    (tables.times.least_arrival n scenario.target_group - tables.greatest_proposal scenario.target_message f scenario.target_group)

-- message n is behind where it arrives at group k at that tick or later: at once, or by way of each group whose stamp may keep the target back until n arrives
abbrev pub is_behind_after : Scenario → Windows → ℕ → ℕ → Tick → Bool
is_behind_after scenario windows n k tick =
    is_behind_by scenario windows n n k tick
    || list_all (is_behind_target scenario (with_arrival scenario windows n k tick) n) (message_at scenario scenario.target_message).destinations

-- message n cannot be committed at the target's group at that tick or later, or is behind by way of each group whose stamp may keep it so long
abbrev pub is_behind_late : Scenario → Windows → Tick → ℕ → Bool
is_behind_late scenario windows tick n =
    nat_lt ((tables_by windows).times.greatest_settling n scenario.target_group) tick
    || list_all (λ k. is_behind_after scenario windows n k (tick - (tables_by windows).greatest_proposal n k scenario.target_group))
    (message_at scenario n).destinations

-- windows of a scenario, of which leads are asked
pub record Tested : Type 0 where
  pub scenario : Scenario
  pub windows : Windows

-- the target and each rival that is committed at its group after that latency is behind it
abbrev pub closes_over : Scenario → Windows → ℕ → Bool
closes_over scenario windows latency =
    let tick = (message_at scenario scenario.target_message).at + latency + 1 in
    nat_lt ((tables_by windows).times.greatest_settling scenario.target_message scenario.target_group) tick
    && list_all (is_behind_late scenario windows tick) (rivals scenario (tables_by windows).times)

-- the box is closed for the latency by leads: no schedule of the box has a greater one
unfoldable pub closes_by_leads : Scenario → Box → ℕ → Bool
closes_by_leads scenario ranges latency = closes_over scenario (windows_of scenario ranges) latency
