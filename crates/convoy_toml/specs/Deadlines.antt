-- The deadlines of messages: the most ticks that their latencies may have.
use Rattle.std.specs.Prelude.{ℕ, ℤ, pos, int_le, nat_abs, nat_le, min, ◌/◌, Bool, not, if◌then◌else◌, List, [], ◌∷◌, Option, Some, None, option_and_then, Result, Ok, Err}
use Rattle.std.specs.List.{list_all}
use Rattle.convoy_lines.specs.Results.{◌>>=◌}
use Rattle.convoy_draft.specs.declared.fault.Key.TheVariants.{Within}
use Rattle.convoy_draft.specs.declared.fault.ScenarioFault.{ScenarioFault}
use Rattle.convoy_draft.specs.declared.fault.ScenarioFault.TheVariants.{Shape}
use Rattle.convoy_toml.specs.declared.deadlines.TheConstants.{GREATEST_DEADLINE}
use Rattle.convoy_toml.specs.declared.written.WrittenTime.{WrittenTime}
use Rattle.convoy_toml.specs.declared.written.WrittenTime.TheVariants.{Count, Lasting}
use Rattle.convoy_toml.specs.Shape.{WrittenMessage, WrittenScenario}
use Rattle.convoy_toml.specs.Times.{is_count, tick_of, times_of}

-- how many whole ticks a duration above 0 has: a latency, which is a whole number of ticks, is within the duration just where it is at most so many
abbrev pub whole_ticks : Option ℕ → ℕ → Option ℕ
whole_ticks tick length =
    if nat_le 1 length then option_and_then (λ t. Some (min (length / t) GREATEST_DEADLINE)) tick else None

-- the ticks of a deadline that counts 1 tick or more
abbrev pub counted_ticks : ℤ → Option ℕ
counted_ticks ticks = if int_le (pos 1) ticks then Some (min (nat_abs ticks) GREATEST_DEADLINE) else None

-- the most ticks that a latency may have by a deadline that is written so: 1 tick or more, or a duration above 0 where a tick has a length
abbrev pub ticks_within : Option ℕ → WrittenTime → Option ℕ
ticks_within tick (Count ticks) = counted_ticks ticks
ticks_within tick (Lasting length) = whole_ticks tick length

-- the same of a deadline in a text: beside durations it has to be one
abbrev pub own_deadline : Bool → Option ℕ → WrittenTime → Option ℕ
own_deadline has_durations tick (Count ticks) = if has_durations then None else counted_ticks ticks
own_deadline has_durations tick (Lasting length) = whole_ticks tick length

-- a deadline that is none is a fault
abbrev pub need_deadline : Option ℕ → Result (Option ℕ) ScenarioFault
need_deadline None = Err (Shape Within)
need_deadline (Some ticks) = Ok (Some ticks)

-- the deadline of a message in ticks: its own, or else the one that is asked beside the text, if there is one
abbrev pub deadline_of : Option WrittenTime → Bool → Option ℕ → WrittenMessage → Result (Option ℕ) ScenarioFault
deadline_of at_most has_durations tick message = by_own message.within where
  by_asked : Option WrittenTime → Result (Option ℕ) ScenarioFault
  by_asked None = Ok None
  by_asked (Some within) = need_deadline (ticks_within tick within)

  by_own : Option WrittenTime → Result (Option ℕ) ScenarioFault
  by_own None = by_asked at_most
  by_own (Some within) = need_deadline (own_deadline has_durations tick within)

-- the deadlines of messages, in their order
abbrev pub deadlines_of : Option WrittenTime → Bool → Option ℕ → List WrittenMessage → Result (List (Option ℕ)) ScenarioFault
deadlines_of at_most has_durations tick [] = Ok []
deadlines_of at_most has_durations tick (message ∷ messages) = do
  first ← deadline_of at_most has_durations tick message
  others ← deadlines_of at_most has_durations tick messages
  Ok (first ∷ others)

-- a time of the scenario is written as a duration
abbrev pub has_durations : WrittenScenario → Bool
has_durations scenario = not (list_all is_count (times_of scenario))

-- the deadlines of a scenario's messages, in ticks, by their numbers, with one that is asked beside the text for those that have none; or the first that is none
abbrev pub deadlines_of_written : Option WrittenTime → WrittenScenario → Result (List (Option ℕ)) ScenarioFault
deadlines_of_written at_most scenario = do
  tick ← tick_of scenario
  deadlines_of at_most (has_durations scenario) tick scenario.messages
