use Rattle.std.proofs.Common.{◌<◌, ℕ, length, get_or}
use Rattle.convoy_starts.specs.Starts.{Start}
use Rattle.convoy_starts.proofs.setting.Setting.are_starts.Given as goal

abbrev pub invariant-loop-start : goal.invariant-loop-start
invariant-loop-start l = (k : ℕ) (start : Start) → k < l.start-index → (get_or l.starts k start).message < length l.self.scenario.now.multicasts
