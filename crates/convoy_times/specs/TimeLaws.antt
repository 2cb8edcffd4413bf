-- What is proved of how times are told. Each is the one clause of the function of its name in the crate's module `time_laws`.
use Rattle.std.specs.Prelude.{◌≡◌, ℕ, ◌+◌, ◌*◌, ◌^◌, ◌<◌, ◌≤◌, ◌==◌, Bool, false, ◌&&◌, ◌||◌, not, List, [], ◌∷◌, ◌++◌, length, take, drop, position, Option, Some, None, IsTrue}
use Rattle.std.specs.Char.{is_ascii_digit}
use Rattle.convoy_lines.specs.Texts.{spaced}
use Rattle.convoy_lines.specs.Words.{is_number}
use Rattle.convoy_draft.specs.declared.duration.TheConstants.{LONGEST_DURATION}
use Rattle.convoy_draft.specs.Durations.{duration_of, unit_word}
use Rattle.convoy_times.specs.declared.measure.Measure.{Measure}
use Rattle.convoy_times.specs.Measures.{told_ticks}

-- digits after a point: one or more, the last of which is no zero
abbrev pub are_decimals : List ℕ → Bool
are_decimals [] = false
are_decimals (c ∷ cs) = is_ascii_digit c && (are_decimals cs || (length cs == 0 && not (c == 48)))

-- a decimal number: digits without a needless zero at their head, alone, or before a point and digits without one at their end
abbrev pub is_decimal : List ℕ → Bool
is_decimal text = by_point (position (λ c. c == 46) text) where
  by_point : Option ℕ → Bool
  by_point None = is_number text
  by_point (Some point) = is_number (take point text) && are_decimals (drop (point + 1) text)

-- what is told is read as the duration that it is, and nothing of it is rounded, as long as it is one
abbrev pub TimesAreReadBack : Type 0
TimesAreReadBack =
    (measure : Measure) (ticks : ℕ)
    → ticks * measure.tick ≤ LONGEST_DURATION
    → duration_of (told_ticks measure ticks ++ spaced (unit_word measure.unit)) ≡ Some (ticks * measure.tick)

-- what is told of so many ticks, of a length that a tick may have, is a decimal number
abbrev pub TimesAreDecimals : Type 0
TimesAreDecimals =
    (measure : Measure) (ticks : ℕ)
    → ticks < 2 ^ 32
    → measure.tick ≤ LONGEST_DURATION
    → IsTrue (is_decimal (told_ticks measure ticks))
