use Rattle.std.proofs.Common.{◌≡◌, ℕ, ◌<◌, ◌≤◌, get_or, All}
use Rattle.convoy_sim.specs.Delivery.{addressed_to}
use Rattle.convoy_sure.specs.Windows.{tables_by}
use Rattle.convoy_starts.specs.Starts.{stamp_for}
use Rattle.convoy_starts.proofs.setting.Setting.next_change.Given as goal

abbrev pub invariant-loop-from : goal.invariant-loop-from
invariant-loop-from l =
    let tables = tables_by l.self.windows.now in
    let stamp : ℕ → ℕ → ℕ → ℕ = λ at x from. stamp_for l.self.scenario.now tables l.self.sure.now l.starts at x l.pair.message l.pair.group from in
    record {
      past : l.tick < l.next;
      later : All (λ z. l.tick < tables.times.least_arrival z l.pair.group → l.next ≤ tables.times.least_arrival z l.pair.group) (addressed_to l.self.scenario.now l.pair.group);
      same : 0 < l.tick → (k at x : ℕ) → k < l.from-index → l.tick ≤ at → at < l.next
          → stamp at x (get_or l.from-items k 0) ≡ stamp l.tick x (get_or l.from-items k 0);
    }
