use Rattle.std.proofs.Common.{map, take}
use Rattle.std.specs.List.{All, Contains}
use Rattle.convoy_best_order.specs.Best.{excess_of_row}
use Rattle.convoy_best_order.specs.Excesses.{IsAtMost}
use Rattle.convoy_best_order.proofs.measuring.greatest_excess.Given as goal

-- it is one of all, and none of those so far is greater
abbrev pub invariant-loop-row : goal.invariant-loop-row
invariant-loop-row l = record {
  one_of : Contains (map excess_of_row l.rows) l.greatest;
  none_greater : All (λ excess. IsAtMost excess l.greatest) (map excess_of_row (take l.row-index l.rows));
}
