use Rattle.std.proofs.Common.{◌≡◌, ◌≤◌, drop, map}
use Rattle.convoy_draft.specs.declared.duration.TheConstants.{LONGEST_DURATION}
use Rattle.convoy_toml.specs.Times.{divisor_of_all, length_of}
use Rattle.convoy_toml.proofs.times.divisor_of_all.Given as goal

abbrev pub invariant-loop-time : goal.invariant-loop-time
invariant-loop-time l =
    (divisor_of_all l.divisor (map length_of (drop l.time-index l.times)) ≡ divisor_of_all 0 (map length_of l.times))
    × (l.divisor ≤ LONGEST_DURATION)
