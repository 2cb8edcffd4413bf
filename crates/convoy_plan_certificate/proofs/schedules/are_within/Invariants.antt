use Rattle.std.proofs.Common.{◌≡◌, drop}
use Rattle.std.specs.Cmp.Lexicographic.{pointwise}
use Rattle.convoy_certificate.specs.Reading.{is_within}
use Rattle.convoy_plan_certificate.proofs.schedules.are_within.Given as goal

abbrev pub invariant-loop-range : goal.invariant-loop-range
invariant-loop-range l = pointwise is_within (drop l.range-index l.ranges) l.rest ≡ pointwise is_within l.ranges l.delays
