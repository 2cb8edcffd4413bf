-- The widened scenario: a scenario in which the target may wait, told as one in which it does not.
use Rattle.std.specs.Prelude.{ℕ, ◌+◌, ◌==◌, if◌then◌else◌, map}
use Rattle.std.specs.List.{enumerate_from}
use Rattle.convoy_scenario.specs.Scenario.{Message, Scenario, message_at}

-- how long the target may wait
abbrev pub target_wait : Scenario → ℕ
target_wait scenario = (message_at scenario scenario.target_message).longest_wait

-- message number m, where the target t may wait so long: the target is issued at the end of its window, and each other message may wait so much longer
abbrev pub widened_message : ℕ → ℕ → ℕ → Message → Message
widened_message wait t m message =
    if m == t then record message { at = message.at + wait; longest_wait = 0 } else record message { longest_wait = message.longest_wait + wait }

-- the widened scenario: the target is issued at the end of its window, and each other message may wait longer by as much as the target might
unfoldable pub widened : Scenario → Scenario
widened scenario =
    record scenario { multicasts = map (λ p. widened_message (target_wait scenario) scenario.target_message p.0 p.1) (enumerate_from 0 scenario.multicasts) }
