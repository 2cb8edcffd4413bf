use Rattle.std.proofs.Common.{◌≡◌, map, take}
use Rattle.convoy_scenario.specs.Naming.{draft_message}
use Rattle.convoy_scenario.specs.Scenario.{message_at}
use Rattle.convoy_outage_runs.specs.Compressed.{message_saved}
use Rattle.convoy_outage_runs.proofs.compressing.messages_saved.Given as goal

-- the messages so far
abbrev pub invariant-loop-message : goal.invariant-loop-message
invariant-loop-message l =
    l.messages.items
    ≡ map (draft_message l.scenario) (map (message_saved l.saved (message_at l.scenario l.scenario.target_message)) (take l.message l.scenario.multicasts))
