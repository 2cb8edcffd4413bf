use Rattle.std.proofs.Common.{ℕ, ◌<◌, get_or}
use Rattle.convoy_sure.specs.Windows.{tables_by}
use Rattle.convoy_starts.specs.Changes.{first_after, IsNotSkipped}
use Rattle.convoy_starts.proofs.setting.Setting.next_follower.Given as goal

abbrev pub invariant-loop-z : goal.invariant-loop-z
invariant-loop-z l =
    let least = (tables_by l.self.windows.now).times.least_arrival in
    let first : ℕ → ℕ = λ z. first_after l.self.scenario.now.time (least z l.group) z l.q in
    record {
      past : l.by < l.next;
      first : (k : ℕ) → k < l.z-index → IsNotSkipped l.by l.next (first (get_or l.z-items k 0));
    }
