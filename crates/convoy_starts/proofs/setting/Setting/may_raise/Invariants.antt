use Rattle.std.proofs.Common.{◌≢◌, ℕ, ◌+◌, ◌<◌, ◌≤◌, get_or}
use Rattle.convoy_starts.specs.Starts.{value_for}
use Rattle.convoy_starts.proofs.setting.Setting.may_raise.Given as goal

abbrev pub invariant-loop-k : goal.invariant-loop-k
invariant-loop-k l =
    record {
      so_far : (j : ℕ) → j < l.k → get_or l.self.bars.now j 0 ≢ l.start.message
          → value_for l.start (get_or l.self.bars.now j 0) l.q + l.many ≤ get_or l.clocks j 0;
    }
