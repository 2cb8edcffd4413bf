use Rattle.std.proofs.Common.{◌≤◌, ℕ, List, subst}
use Rattle.convoy_draft.specs.declared.duration.TheConstants.{LONGEST_DURATION}
use Rattle.convoy_times.specs.Measures.{told_ticks}
use Rattle.convoy_kinds_told.proofs.Numerals.{decimal_is_number}
use Rattle.convoy_trace_ranges.proofs.cells.push_ticks.Goals as goal

pub push_decimal-requires : goal.push_decimal-requires
push_decimal-requires c =
    let told : List ℕ = told_ticks c.args.measure c.args.ticks in
    let bounded : c.args.measure.tick ≤ LONGEST_DURATION =
    subst (λ (n : ℕ). n ≤ LONGEST_DURATION) c.nanoseconds-nanoseconds.ensures.value c.nanoseconds-nanoseconds.ensures.bounded in
    rw (c.as_str.ensures.value, c.in_ok-told.ensures)
    (decimal_is_number told (c.times_are_decimals.ensures c.args.measure c.args.ticks c.ranges.ticks.fits bounded))
