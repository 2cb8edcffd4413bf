use Rattle.std.proofs.Common.{◌≡◌, ◌++◌, map, take}
use Rattle.convoy_kinds.proofs.numbers.push_kinds_of.Given as goal

abbrev pub invariant-loop-set : goal.invariant-loop-set
invariant-loop-set l =
    l.kinds.items ≡ l.initial.kinds.items ++ map (λ set. record { table = l.number; sender = l.sender; destinations = set }) (take l.set-index l.sets)
