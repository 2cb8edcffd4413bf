-- The range that the packets of a link give.
use Rattle.std.specs.Prelude.{ℕ, ◌-◌, ◌*◌, ◌/◌, max, nat_lt, if◌then◌else◌, Result, Ok, Err}
use Rattle.convoy_draft.specs.declared.limits.TheConstants.{GREATEST_DELAY}
use Rattle.convoy_ranges.specs.declared.asked.RangeRules.{RangeRules}
use Rattle.convoy_ranges.specs.Ranges.{round_trip_of}
use Rattle.convoy_traces.specs.declared.fault.Cause.TheVariants as causes
use Rattle.convoy_traces.specs.declared.fault.TraceFault.{TraceFault}
use Rattle.convoy_traces.specs.declared.fault.TraceFault.TheVariants.{Line}
use Rattle.convoy_trace_ranges.specs.declared.ranges.TickRange.{TickRange}
use Rattle.convoy_trace_ranges.specs.Links.{Link}

-- how many ticks a packet takes at least: the least that was seen with the margin less, rounded down, and one at least
abbrev pub least_of : RangeRules → ℕ → ℕ
least_of rules least = max 1 (least * (100 - rules.margin) / (100 * rules.tick))

-- how many ticks a packet takes at most: the greatest that was seen with the margin more, rounded up, and one at least
abbrev pub most_of : RangeRules → ℕ → ℕ
most_of rules greatest = max 1 (round_trip_of rules greatest)

-- the range of a link, unless it is longer than a scenario takes
abbrev pub range_of : RangeRules → Link → Result TickRange TraceFault
range_of rules link =
    if nat_lt GREATEST_DELAY (most_of rules link.greatest) then Err (Line link.line causes.Wide)
    else Ok (record { least = least_of rules link.least; most = most_of rules link.greatest })
