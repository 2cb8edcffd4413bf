-- How times are told: exactly, in a unit, with as many digits as that needs.
use Rattle.std.specs.Prelude.{ℕ, zero, suc, ◌+◌, ◌*◌, ◌/◌, ◌%◌, ◌==◌, if◌then◌else◌, List, [], ◌∷◌, ◌++◌, map, decimal, Option, Some, None, option_map, unwrap_or}
use Rattle.std.specs.Option.{option_or}
use Rattle.convoy_draft.specs.declared.duration.TimeUnit.{TimeUnit}
use Rattle.convoy_draft.specs.Durations.{unit_length, unit_of, unit_word}
use Rattle.convoy_scenario.specs.Scenario.{Scenario}
use Rattle.convoy_times.specs.declared.decimals.TheConstants.{MOST_DIGITS}
use Rattle.convoy_times.specs.declared.measure.Measure.{Measure}

-- at most so many digits of a rest, the first of which counts tenths of `one`; none once nothing is left
unfoldable pub fraction_digits : ℕ → ℕ → ℕ → List ℕ
fraction_digits zero one rest = []
fraction_digits (suc n) one rest =
    if rest == 0 then [] else (48 + rest * 10 / one) ∷ fraction_digits n one (rest * 10 % one)

-- what part of `one` a rest is, after a point; nothing where there is no rest
unfoldable pub fraction : ℕ → ℕ → List ℕ
fraction one rest = if rest == 0 then [] else 46 ∷ fraction_digits MOST_DIGITS one rest

-- so many nanoseconds in a unit
abbrev pub decimal_in : TimeUnit → ℕ → List ℕ
decimal_in unit nanoseconds =
    decimal (nanoseconds / unit_length unit) ++ fraction (unit_length unit) (nanoseconds % unit_length unit)

-- so many ticks in the unit of the measure
unfoldable pub told_ticks : Measure → ℕ → List ℕ
told_ticks measure ticks = decimal_in measure.unit (ticks * measure.tick)

-- how the times of a scenario are told: in the unit that is asked for, or else in that in which its text tells D, or else in the greatest unit of which D is a whole number; none where the length of a tick is not known
abbrev pub measure_by : Option TimeUnit → Option TimeUnit → Scenario → Option Measure
measure_by asked written scenario =
    option_map (λ tick. record { tick = tick; unit = unwrap_or (option_or asked written) (unit_of (scenario.delay * tick)) }) scenario.tick

-- words of a line: numbers of ticks in the unit of the measure, and the unit; none where there is no measure
abbrev pub told_in_unit : Option Measure → List ℕ → List (List ℕ)
told_in_unit None ticks = []
told_in_unit (Some measure) ticks = map (told_ticks measure) ticks ++ unit_word measure.unit ∷ []
