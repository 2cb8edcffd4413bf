use Rattle.std.proofs.Common.{◌≡◌, ◌-◌, find, length}
use Rattle.std.specs.List.{range_with_len}
use Rattle.convoy_timeline.specs.ExplanationWords.{is_tied_before_told}
use Rattle.convoy_timeline.proofs.explaining.tied_before.Given as goal

-- the first of those that are left is the first of all
abbrev pub invariant-loop-other : goal.invariant-loop-other
invariant-loop-other l =
    find (is_tied_before_told l.scenario l.run l.message l.group) (range_with_len l.other (length l.scenario.multicasts - l.other))
    ≡ find (is_tied_before_told l.scenario l.run l.message l.group) (range_with_len 0 (length l.scenario.multicasts))
