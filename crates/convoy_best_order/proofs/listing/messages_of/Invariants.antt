use Rattle.std.proofs.Common.{◌≡◌, map, take}
use Rattle.convoy_scenario.specs.Naming.{draft_message}
use Rattle.convoy_best_order.proofs.listing.messages_of.Given as goal

-- the messages so far by names
abbrev pub invariant-loop-message : goal.invariant-loop-message
invariant-loop-message l = l.messages.items ≡ map (draft_message l.scenario) (take l.message l.scenario.multicasts)
