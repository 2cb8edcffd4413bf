use Rattle.std.proofs.Common.{◌≡◌, map, take}
use Rattle.convoy_sweep.specs.Keys.{message_with}
use Rattle.convoy_sweep.proofs.changing.messages_with.Given as goal

abbrev pub invariant-loop-message : goal.invariant-loop-message
invariant-loop-message l = l.changed.items ≡ map (message_with l.key l.given) (take l.message-index l.messages)
