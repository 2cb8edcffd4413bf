use Rattle.std.proofs.Common.{◌≡◌, ◌≤◌, length, filter, take}
use Rattle.convoy_sure.specs.SureLeads.{is_earlier}
use Rattle.convoy_sure.specs.Windows.{tables_by}
use Rattle.convoy_sure.proofs.sure_arrivals.those_after.Given as goal

abbrev pub invariant-loop-z : goal.invariant-loop-z
invariant-loop-z l =
    record {
      so_far : l.after ≡ filter (λ z. is_earlier l.time l.tick l.q ((tables_by l.windows).times.least_arrival z l.group) z) (take l.z-index l.audience);
      few : length l.after ≤ l.z-index;
    }
