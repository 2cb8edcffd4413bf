use Rattle.std.proofs.Common.{◌≡◌, map, take}
use Rattle.convoy_plans.specs.Placements.{message_in}
use Rattle.convoy_plans.proofs.placements.messages_in.Given as goal

abbrev pub invariant-loop-message : goal.invariant-loop-message
invariant-loop-message l = l.messages.items ≡ map (message_in l.plan) (take l.message-index l.plan.written.messages)
