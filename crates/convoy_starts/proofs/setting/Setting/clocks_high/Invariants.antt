use Rattle.std.proofs.Common.{◌≡◌, ℕ, ◌-◌, ◌<◌, ◌≤◌, ◌∷◌, length, map, drop, get_or, All}
use Rattle.convoy_sim.specs.Times.{greatest}
use Rattle.convoy_sure.specs.Windows.{tables_by}
use Rattle.convoy_starts.specs.Starts.{arrivals_since, clock_alone, clock_from}
use Rattle.convoy_starts.proofs.setting.Setting.clocks_high.Given as goal

abbrev pub invariant-loop-place : goal.invariant-loop-place
invariant-loop-place l =
    let tables = (tables_by l.self.windows.now).times in
    record {
      long : length l.clocks.items ≡ length l.self.bars.now;
      counted : l.many ≡ length (arrivals_since l.self.scenario.now tables l.tick l.q l.group 0);
      few : l.many ≤ 16;
      small : All (λ clock. clock ≤ 65551) l.clocks.items;
      so_far : (k : ℕ) → k < length l.self.bars.now → get_or l.clocks.items k 0
          ≡ greatest (clock_alone l.self.scenario.now tables l.self.sure.now l.q l.group l.tick
          ∷ map (clock_from l.self.scenario.now tables l.self.sure.now (get_or l.self.bars.now k 0) l.q l.group l.tick) (drop (length l.starts - l.place) l.starts));
    }
