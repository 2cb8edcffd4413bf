use Rattle.std.proofs.Common.{◌≡◌, Some, map, take}
use Rattle.convoy_scenario.specs.Numbering.{sender_of}
use Rattle.convoy_kinds.proofs.numbers.senders_named.Given as goal

abbrev pub invariant-loop-name : goal.invariant-loop-name
invariant-loop-name l = l.found.items ≡ map (λ name. sender_of l.groups l.places (Some name)) (take l.name-index l.names)
