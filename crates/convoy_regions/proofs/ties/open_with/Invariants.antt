use Rattle.std.proofs.Common.{◌≡◌, ℕ, ◌<◌, false}
use Rattle.convoy_regions.specs.Regions.{is_open_tie}
use Rattle.convoy_regions.proofs.ties.open_with.Given as goal

abbrev pub invariant-loop-second : goal.invariant-loop-second
invariant-loop-second l = (k : ℕ) → k < l.second → is_open_tie l.instance (record { ranges = l.tracked.delay_box; before = l.known }) l.first k ≡ false
