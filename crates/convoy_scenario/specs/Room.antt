-- When the target of a scenario has room to wait as long as it may.
use Rattle.std.specs.Prelude.{ℕ, ◌≢◌, ◌+◌, ◌<◌, ◌≤◌, ◌==◌, nat_le, Bool, ◌&&◌, ◌||◌, length}
use Rattle.std.specs.List.{list_all}
use Rattle.convoy_draft.specs.declared.limits.TheConstants.{GREATEST_AT, LONGEST_WAIT}
use Rattle.convoy_scenario.specs.Scenario.{Scenario, message_at, message_numbers}
use Rattle.convoy_scenario.specs.Widened.{target_wait}

-- the widened scenario is within the limits: the target's window ends at a tick at which a message may be issued, and with each other message's window it is no longer than one may be
pub record HasRoom (scenario : Scenario) : Type 0 where
  pub last : (message_at scenario scenario.target_message).at + target_wait scenario ≤ GREATEST_AT
  pub others : (m : ℕ) → m ≢ scenario.target_message → m < length scenario.multicasts
      → (message_at scenario m).longest_wait + target_wait scenario ≤ LONGEST_WAIT

-- message m is the target, or its window with the target's is no longer than one may be
abbrev pub is_target_or_has_room : Scenario → ℕ → Bool
is_target_or_has_room scenario m = (m == scenario.target_message) || nat_le ((message_at scenario m).longest_wait + target_wait scenario) LONGEST_WAIT

-- the test of it
abbrev pub has_room : Scenario → Bool
has_room scenario =
    nat_le ((message_at scenario scenario.target_message).at + target_wait scenario) GREATEST_AT
    && list_all (is_target_or_has_room scenario) (message_numbers scenario)
