-- The values that a setting gives its key, in ticks.
use Rattle.std.specs.Prelude.{ℕ, ◌+◌, ◌-◌, ◌*◌, ◌/◌, ◌^◌, ◌<◌, ℤ, pos, int_le, nat_abs, nat_le, nat_lt, Bool, true, false, ◌||◌, ◌&&◌, not, if◌then◌else◌, List, map, Option, Some, None, is_some, Result, Ok, Err}
use Rattle.std.specs.List.{range_with_len}
use Rattle.convoy_lines.specs.Results.{◌>>=◌}
use Rattle.convoy_toml.specs.declared.written.WrittenTime.{WrittenTime}
use Rattle.convoy_toml.specs.declared.written.WrittenTime.TheVariants.{Count, Lasting}
use Rattle.convoy_toml.specs.Shape.{WrittenScenario}
use Rattle.convoy_toml.specs.Times.{ticks_in}
use Rattle.convoy_sweep.specs.declared.fault.SettingFault.{SettingFault}
use Rattle.convoy_sweep.specs.declared.fault.SettingFault.TheVariants.{Mixed, NotWhole, TooLate, NoStep, Backwards, TooMany, Unknown, Ambiguous, NoWindow, NoInterval}
use Rattle.convoy_sweep.specs.declared.kinds.Given.{Given}
use Rattle.convoy_sweep.specs.declared.kinds.ValueRange.{ValueRange}
use Rattle.convoy_sweep.specs.declared.kinds.Setting.{Setting}
use Rattle.convoy_sweep.specs.declared.kinds.SweepKey.{SweepKey}
use Rattle.convoy_sweep.specs.declared.kinds.SweepKey.TheVariants.{Delay, At, Until, Least, Most}
use Rattle.convoy_sweep.specs.declared.kinds.TheConstants.{LAST_TICK, MOST_ROWS}
use Rattle.convoy_sweep.specs.Keys.{readings}

-- a rule that does not hold is a fault
abbrev pub need : {E : Type 0} → Bool → E → Result (Unit {0}) E
need holds fault = if holds then Ok tt else Err fault

-- TIMES
-- the number of ticks, unless it is too great
abbrev pub within_last : ℤ → Result ℕ SettingFault
within_last ticks = if int_le (pos 0) ticks && int_le ticks (pos LAST_TICK) then Ok (nat_abs ticks) else Err TooLate

-- a duration in ticks of that length, of which it has to be a whole number
abbrev pub lasting_ticks : Option ℕ → ℕ → Result ℕ SettingFault
lasting_ticks None length = Err Mixed
lasting_ticks (Some tick) length = of_whole (ticks_in tick length) where
  of_whole : Option ℤ → Result ℕ SettingFault
  of_whole None = Err NotWhole
  of_whole (Some ticks) = within_last ticks

-- the ticks of a time that is given beside a text with this length of a tick: as among the text's own times, numbers of ticks and durations stand beside each other only where that length is written
abbrev pub ticks_beside : Bool → Option ℕ → WrittenTime → Result ℕ SettingFault
ticks_beside is_written tick (Count ticks) = if is_some tick && not is_written then Err Mixed else within_last ticks
ticks_beside is_written tick (Lasting length) = lasting_ticks tick length

-- RANGES
-- the values from one to at most another, in steps
abbrev pub range_between : ℕ → ℕ → ℕ → Result ValueRange SettingFault
range_between from to step =
    if nat_lt ((to - from) / step) MOST_ROWS then Ok (record { from = from; step = step; steps = (to - from) / step }) else Err TooMany

-- the values of a setting, from FROM in steps up to at most TO
abbrev pub range_of : Bool → Option ℕ → Setting → Result ValueRange SettingFault
range_of is_written tick setting = do
  from ← ticks_beside is_written tick setting.from
  to ← ticks_beside is_written tick setting.to
  step ← ticks_beside is_written tick setting.step
  _ ← need (nat_le 1 step) NoStep
  _ ← need (nat_le from to) Backwards
  range_between from to step

-- the value after so many steps
abbrev pub value_at : ValueRange → ℕ → ℕ
value_at range i = range.from + i * range.step

-- a value by itself, or with the next one as the ends of a window
abbrev pub given_at : Bool → ValueRange → ℕ → Given
given_at false range i = record { value = value_at range i; last = None }
given_at true range i = record { value = value_at range i; last = Some (value_at range (i + 1)) }

-- how many of them there are
abbrev pub given_count : Bool → ValueRange → ℕ
given_count false range = range.steps + 1
given_count true range = range.steps

-- what a key is given, one after the other: the values, or the windows between them
abbrev pub givens : Bool → ValueRange → List Given
givens envelope range = map (given_at envelope range) (range_with_len 0 (given_count envelope range))

-- The values are not too many, and none of them is too great.
pub record IsRange (range : ValueRange) : Type 0 where
  pub few : range.steps < MOST_ROWS
  pub low : range.from + range.steps * range.step < 2 ^ 32

-- SETTINGS
-- a key that a text has, in one table
abbrev pub need_reading : ℕ → Result (Unit {0}) SettingFault
need_reading count = if nat_le 1 count then need (nat_le count 1) Ambiguous else Err Unknown

-- the key is a time of issue, which may be a window
abbrev pub is_issue : SweepKey → Bool
is_issue Delay = false
is_issue (At name) = true
is_issue (Until name) = false
is_issue (Least name) = false
is_issue (Most name) = false

-- the values that a setting gives its key, of which there is one at least, or two where windows between them are asked for
abbrev pub range_in : WrittenScenario → Option ℕ → Bool → Setting → Result ValueRange SettingFault
range_in written tick envelope setting = do
  _ ← need_reading (readings written setting.key)
  _ ← need (not envelope || is_issue setting.key) NoWindow
  range ← range_of (is_some written.tick) tick setting
  _ ← need (nat_le 1 (given_count envelope range)) NoInterval
  Ok range
