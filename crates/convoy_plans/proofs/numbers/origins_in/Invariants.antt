use Rattle.std.proofs.Common.{◌≡◌, map, take}
use Rattle.convoy_plans.specs.Numbering.{origin_in}
use Rattle.convoy_plans.proofs.numbers.origins_in.Given as goal

abbrev pub invariant-loop-message : goal.invariant-loop-message
invariant-loop-message l = l.origins.items ≡ map (λ message. origin_in l.sites l.groups message.sender) (take l.message-index l.messages)
