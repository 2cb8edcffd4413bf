use Rattle.std.proofs.Common.{◌≡◌, ◌≤◌, nat_lt, length, filter, take}
use Rattle.convoy_sure.specs.Windows.{tables_by}
use Rattle.convoy_sure.proofs.sure_arrivals.those_later.Given as goal

abbrev pub invariant-loop-z : goal.invariant-loop-z
invariant-loop-z l =
    record {
      so_far : l.later ≡ filter (λ z. nat_lt l.tick ((tables_by l.windows).times.least_arrival z l.group)) (take l.z-index l.audience);
      few : length l.later ≤ l.z-index;
    }
