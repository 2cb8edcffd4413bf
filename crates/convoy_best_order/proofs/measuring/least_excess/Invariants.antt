use Rattle.std.proofs.Common.{map, take}
use Rattle.std.specs.List.{All, Contains}
use Rattle.convoy_best_order.specs.Best.{excess_of_reason}
use Rattle.convoy_best_order.specs.Excesses.{IsAtMost}
use Rattle.convoy_best_order.proofs.measuring.least_excess.Given as goal

-- it is one of all, and none of those so far is less
abbrev pub invariant-loop-reason : goal.invariant-loop-reason
invariant-loop-reason l = record {
  one_of : Contains (map excess_of_reason l.reasons) l.least;
  none_less : All (IsAtMost l.least) (map excess_of_reason (take l.reason-index l.reasons));
}
