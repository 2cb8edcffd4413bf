use Rattle.std.proofs.Common.{rules, ◌≤◌, ◌+◌, ◌-◌, arith}
use Rattle.convoy_draft.specs.declared.limits.TheConstants.{LONGEST_WAIT}
use Rattle.convoy_origin.proofs.MovedRanges.{told_wait_fits}
use Rattle.convoy_origin.proofs.origin.moved_range.Goals as goal

most_fits : (c : goal.After-saturating_sub-high) → (c.range_in-least.result.1 + c.longest_wait.result) - c.range_in-first.result.0 ≤ LONGEST_WAIT
most_fits c =
    told_wait_fits c.args.instance.now c.args.delay_box.now c.requires.inside (c.widened_is_scenario.ensures c.args.instance.now c.scenario-scenario.ensures.lawful)
    c.args.packet c.in-Wait.message c.in-Wait.is c.requires.sent c.range_in-least.result c.range_in-first.result c.longest_wait.result
    c.range_in-least.ensures.value (search rules) (search rules)

pub overflow_cast-result : goal.overflow_cast-result
overflow_cast-result c =
    omega (arith, most_fits c, c.range_in-least.ensures.ordered, c.range_in-first.ensures.ordered, c.saturating_sub-low.ensures, c.from.ensures, c.from-2.ensures, c.from-longest.ensures)

pub overflow_cast-result-2 : goal.overflow_cast-result-2
overflow_cast-result-2 c =
    omega (arith, most_fits c, c.saturating_sub-high.ensures, c.from-3.ensures, c.from-4.ensures, c.from-longest.ensures)
