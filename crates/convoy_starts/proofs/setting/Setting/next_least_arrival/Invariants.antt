use Rattle.std.proofs.Common.{ℕ, ◌<◌, ◌≤◌, get_or}
use Rattle.convoy_sure.specs.Windows.{tables_by}
use Rattle.convoy_starts.proofs.setting.Setting.next_least_arrival.Given as goal

abbrev pub invariant-loop-z : goal.invariant-loop-z
invariant-loop-z l =
    let first = (tables_by l.self.windows.now).times.least_arrival in
    record {
      past : l.by < l.next;
      first : (k : ℕ) → k < l.z-index → l.by < first (get_or l.z-items k 0) l.group → l.next ≤ first (get_or l.z-items k 0) l.group;
    }
