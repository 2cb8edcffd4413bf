use Rattle.std.proofs.Common.{◌≡◌, map, take}
use Rattle.convoy_scenario.specs.Naming.{draft_message}
use Rattle.convoy_around.specs.Around.{around_at}
use Rattle.convoy_around.proofs.making.messages_around.Given as goal

-- the messages so far
abbrev pub invariant-loop-message : goal.invariant-loop-message
invariant-loop-message l = l.messages.items ≡ map (draft_message l.scenario) (take l.message (around_at l.span l.scenario l.target 0).multicasts)
