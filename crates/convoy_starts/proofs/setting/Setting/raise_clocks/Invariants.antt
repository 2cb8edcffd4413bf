use Rattle.std.proofs.Common.{◌≡◌, ℕ, ◌<◌, ◌≤◌, max, get_or, All}
use Rattle.convoy_sure.specs.Windows.{tables_by}
use Rattle.convoy_starts.specs.Starts.{clock_from}
use Rattle.convoy_starts.proofs.setting.Setting.raise_clocks.Given as goal

abbrev pub invariant-loop-k : goal.invariant-loop-k
invariant-loop-k l =
    record {
      small : All (λ clock. clock ≤ 65551) l.clocks;
      done : (j : ℕ) → j < l.k → get_or l.clocks j 0 ≡ max (get_or l.initial.clocks j 0)
          (clock_from l.self.scenario.now (tables_by l.self.windows.now).times l.self.sure.now (get_or l.self.bars.now j 0) l.q l.group l.tick l.start);
      left : (j : ℕ) → l.k ≤ j → get_or l.clocks j 0 ≡ get_or l.initial.clocks j 0;
    }
