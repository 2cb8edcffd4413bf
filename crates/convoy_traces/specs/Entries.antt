-- What a row tells of a run of a scenario.
use Rattle.std.specs.Prelude.{ℕ, ◌+◌, max, Bool, if◌then◌else◌, List, [], ◌∷◌, ◌++◌, length, take, drop, codes, ◌==◌, Option, Some, None, option_map, option_and_then, position, Result, Ok, Err}
use Rattle.std.specs.Option.{option_or}
use Rattle.std.specs.Str.{bytes_eq}
use Rattle.convoy_lines.specs.Results.{◌>>=◌}
use Rattle.convoy_lines.specs.Words.{number_of}
use Rattle.convoy_draft.specs.Durations.{duration_of, unit_word}
use Rattle.convoy_draft.specs.declared.duration.TimeUnit.{TimeUnit}
use Rattle.convoy_scenario.specs.Scenario.{Scenario, message_at, is_addressed}
use Rattle.convoy_times.specs.declared.measure.Measure.{Measure}
use Rattle.convoy_traces.specs.declared.clock.Clock.{Clock}
use Rattle.convoy_traces.specs.declared.told.Event.{Event}
use Rattle.convoy_traces.specs.declared.told.Event.TheVariants.{Issue, Arrival, Proposal, Commit, Delivery}
use Rattle.convoy_traces.specs.declared.told.Stamp.{Stamp}
use Rattle.convoy_traces.specs.declared.told.Entry.{Entry}
use Rattle.convoy_traces.specs.declared.fault.Cause.{Cause}
use Rattle.convoy_traces.specs.declared.fault.Cause.TheVariants as causes
use Rattle.convoy_traces.specs.declared.fault.TheConstants.{MOST_STAMP}
use Rattle.convoy_traces.specs.Rows.{Row, message_numbered, numbered}

-- what is found, or that cause
abbrev pub found : {X : Type 0} → Cause → Option X → Result X Cause
found cause None = Err cause
found cause (Some x) = Ok x

-- the number of a group, where the message goes to it
abbrev pub group_of : Scenario → ℕ → List ℕ → Result ℕ Cause
group_of scenario m cell =
    found causes.Group (numbered 0 scenario.groups cell) >>= (λ g. if is_addressed (message_at scenario m) g then Ok g else Err causes.Elsewhere)

-- the number of the group from which a proposal came
abbrev pub from_of : Scenario → ℕ → List ℕ → Result ℕ Cause
from_of scenario m cell =
    found causes.From (numbered 0 scenario.groups cell) >>= (λ g. if is_addressed (message_at scenario m) g then Ok g else Err causes.From)

-- what happened to the message: an issue tells no group, and of all else only a proposal tells from which one it came
abbrev pub event_of : Scenario → ℕ → Row → Result Event Cause
event_of scenario m row =
    if bytes_eq row.event (codes "issue") then Ok Issue
    else if bytes_eq row.event (codes "arrival") then group_of scenario m row.group >>= (λ g. Ok (Arrival g))
    else if bytes_eq row.event (codes "proposal")
    then group_of scenario m row.group >>= (λ g. from_of scenario m row.from >>= (λ h. Ok (Proposal g h)))
    else if bytes_eq row.event (codes "commit") then group_of scenario m row.group >>= (λ g. Ok (Commit g))
    else if bytes_eq row.event (codes "delivery") then group_of scenario m row.group >>= (λ g. Ok (Delivery g))
    else Err causes.Event

-- how times are told where the length of a tick, and a unit, may be known: without these a trace tells ticks, each as a second
abbrev pub clock_by : Option Measure → Clock
clock_by None = record { tick = 1000000000; unit = None }
clock_by (Some measure) = record { tick = max 1 measure.tick; unit = Some measure.unit }

-- the duration that a text tells before the word for a unit
abbrev pub time_with : List ℕ → List ℕ → Option ℕ
time_with unit cell = duration_of (cell ++ 32 ∷ unit)

-- a number without a unit counts so many of the clock's; without that a number counts ticks, and there are no durations
abbrev pub time_of : Option TimeUnit → List ℕ → Option ℕ
time_of None cell = time_with (codes "s") cell
time_of (Some unit) cell = option_or (duration_of cell) (time_with (unit_word unit) cell)

-- a stamp: the digits of a time, a point, and a group of the scenario
abbrev pub stamp_in : Scenario → List ℕ → Option Stamp
stamp_in scenario cell =
    option_and_then (λ point.
    option_and_then (λ time.
    option_map (λ group. record { time = time; group = group }) (numbered 0 scenario.groups (drop (point + 1) cell)))
    (number_of MOST_STAMP (take point cell)))
    (position (λ c. c == 46) cell)

-- the stamp of a row, where it tells one
abbrev pub stamp_of : Scenario → List ℕ → Option (Option Stamp)
stamp_of scenario cell = if length cell == 0 then Some None else option_map Some (stamp_in scenario cell)

-- what a row tells of which the time is told so, the row of line `line`
abbrev pub entry_with : Scenario → ℕ → Row → Option ℕ → Result Entry Cause
entry_with scenario line row told =
    found causes.Message (message_numbered 0 scenario.multicasts row.message) >>= (λ m.
    event_of scenario m row >>= (λ event.
    found causes.Time told >>= (λ time.
    found causes.Stamp (stamp_of scenario row.stamp) >>= (λ stamp.
    Ok (record { line = line; message = m; event = event; time = time; stamp = stamp })))))

-- what a row tells
abbrev pub entry_of : Scenario → Clock → ℕ → Row → Result Entry Cause
entry_of scenario clock line row = entry_with scenario line row (time_of clock.unit row.time)
