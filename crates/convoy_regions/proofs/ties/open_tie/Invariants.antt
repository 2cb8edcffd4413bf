use Rattle.std.proofs.Common.{◌≡◌, ℕ, ◌<◌, length, false}
use Rattle.std.specs.List.{list_any, range_with_len}
use Rattle.convoy_regions.specs.Stages.{stages_of}
use Rattle.convoy_regions.specs.Regions.{is_open_tie}
use Rattle.convoy_regions.proofs.ties.open_tie.Given as goal

abbrev pub invariant-loop-first : goal.invariant-loop-first
invariant-loop-first l = (k : ℕ) → k < l.first
    → list_any (is_open_tie l.instance (record { ranges = l.tracked.delay_box; before = l.known }) k) (range_with_len 0 (length (stages_of l.instance))) ≡ false
