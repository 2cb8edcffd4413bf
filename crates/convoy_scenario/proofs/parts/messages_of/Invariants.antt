use Rattle.std.proofs.Common.{◌≡◌, take}
use Rattle.convoy_scenario.proofs.parts.messages_of.Given as goal

abbrev pub invariant-loop-message : goal.invariant-loop-message
invariant-loop-message l = l.messages.items ≡ take l.message-index l.parts
