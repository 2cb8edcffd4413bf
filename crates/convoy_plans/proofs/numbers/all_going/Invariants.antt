use Rattle.std.proofs.Common.{◌≡◌, map, take}
use Rattle.convoy_scenario.specs.Numbering.{numbers_of}
use Rattle.convoy_plans.proofs.numbers.all_going.Given as goal

abbrev pub invariant-loop-message : goal.invariant-loop-message
invariant-loop-message l = l.lists.items ≡ map (λ message. numbers_of l.groups message.to) (take l.message-index l.messages)
