use Rattle.std.proofs.Common.{◌≡◌, ℕ, ◌+◌, ◌<◌, ◌≤◌, min, get_or}
use Rattle.convoy_starts.specs.Starts.{capped}
use Rattle.convoy_starts.proofs.setting.Setting.turn_into_stamps.Given as goal

abbrev pub invariant-loop-k : goal.invariant-loop-k
invariant-loop-k l =
    record {
      done : (j : ℕ) → j < l.k → get_or l.clocks j 0 ≡ min l.self.stamps (capped l.self.sure.now.time l.lead (get_or l.initial.clocks j 0 + 1));
      left : (j : ℕ) → l.k ≤ j → get_or l.clocks j 0 ≡ get_or l.initial.clocks j 0;
    }
