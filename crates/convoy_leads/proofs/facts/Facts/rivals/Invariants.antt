use Rattle.std.proofs.Common.{◌≡◌, ◌≤◌, nat_le, length, filter, take}
use Rattle.convoy_sure.specs.Windows.{tables_by}
use Rattle.convoy_leads.proofs.facts.Facts.rivals.Given as goal

abbrev pub invariant-loop-n : goal.invariant-loop-n
invariant-loop-n l =
    record {
      so_far : l.rivals ≡ filter (λ n. nat_le ((tables_by l.windows).times.least_arrival n l.self.scenario.now.target_group) l.committed) (take l.n-index l.n-items);
      few : length l.rivals ≤ l.n-index;
    }
