use Rattle.std.proofs.Common.{◌≤◌, arith}
use Rattle.convoy_trace_ranges.specs.Ranges.{least_of, most_of}
use Rattle.convoy_trace_ranges.proofs.Ranging.{least_within}
use Rattle.convoy_trace_ranges.proofs.ranges.range_of.Goals as goal

pub overflow_cast-result : goal.overflow_cast-result
overflow_cast-result c =
    let ordered : c.least.result ≤ c.greatest.result = omega (arith, c.least.ensures.value, c.greatest.ensures.value, c.least.ensures.lawful.ordered) in
    let within : least_of c.rules-rules.result c.least.result ≤ most_of c.rules-rules.result c.greatest.result =
    least_within c.rules-rules.result c.least.result c.greatest.result c.rules-rules.ensures.lawful ordered in
    omega (arith, within, c.least_of-least.ensures, c.most_of-most.ensures, c.from.ensures, c.if-most-from.false)
