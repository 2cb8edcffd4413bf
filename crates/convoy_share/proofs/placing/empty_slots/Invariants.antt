use Rattle.std.proofs.Common.{◌≡◌, [], replicate}
use Rattle.convoy_share.proofs.placing.empty_slots.Given as goal

abbrev pub invariant-loop-number : goal.invariant-loop-number
invariant-loop-number l = l.slots.items ≡ replicate l.number []
