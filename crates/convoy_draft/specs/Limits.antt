-- The limits that depend on how time goes.
use Rattle.std.specs.Prelude.{ℕ, Bool, true, false, ◌&&◌, nat_le, Option, Some, None}
use Rattle.convoy_draft.specs.declared.duration.TheConstants.{LONGEST_DURATION, MOST_UNITS}
use Rattle.convoy_draft.specs.declared.limits.TheConstants.{GREATEST_DELAY, GREATEST_WHOLE_DELAY}
use Rattle.convoy_draft.specs.declared.time.Time.{Time}
use Rattle.convoy_draft.specs.declared.time.Time.TheVariants.{Ticks, Real}
use Rattle.convoy_draft.specs.Durations.{count_of}

-- the greatest value of D, by how time goes
abbrev pub greatest_delay : Time → ℕ
greatest_delay Ticks = GREATEST_WHOLE_DELAY
greatest_delay Real = GREATEST_DELAY

-- a tick may have this length, in nanoseconds, or none that is known: only where time is real it has one
abbrev pub is_tick : Time → Option ℕ → Bool
is_tick time None = true
is_tick Ticks (Some tick) = false
is_tick Real (Some tick) = nat_le 1 tick && nat_le tick LONGEST_DURATION && nat_le (count_of tick) MOST_UNITS
