-- Which scenario is asked about, where a text is read as by who knows nothing of issue times.
use Rattle.std.specs.Prelude.{ℕ, ◌+◌, ◌-◌, ◌/◌, min, nat_le, if◌then◌else◌, Option, Some, None, option_and_then, ok_or, Result, Ok}
use Rattle.std.specs.Result.{result_ok}
use Rattle.convoy_lines.specs.Results.{◌>>=◌}
use Rattle.convoy_draft.specs.declared.fault.Key.TheVariants.{Until}
use Rattle.convoy_draft.specs.declared.fault.ScenarioFault.{ScenarioFault}
use Rattle.convoy_draft.specs.declared.fault.ScenarioFault.TheVariants.{Shape}
use Rattle.convoy_around.specs.Around.{around}
use Rattle.convoy_scenario.specs.Scenario.{Scenario}
use Rattle.convoy_toml.specs.declared.around.Around.{Around}
use Rattle.convoy_toml.specs.declared.around.Around.TheVariants.{Greatest, By}
use Rattle.convoy_toml.specs.declared.deadlines.TheConstants.{GREATEST_DEADLINE}
use Rattle.convoy_toml.specs.declared.written.WrittenTime.{WrittenTime}
use Rattle.convoy_toml.specs.declared.written.WrittenTime.TheVariants.{Count, Lasting}
use Rattle.convoy_toml.specs.Deadlines.{counted_ticks}

-- how many ticks a duration above 0 lasts, where one that has begun counts
abbrev pub begun_ticks : Option ℕ → ℕ → Option ℕ
begun_ticks tick length =
    if nat_le 1 length then option_and_then (λ t. Some (min ((length - 1) / t) (GREATEST_DEADLINE - 1) + 1)) tick else None

-- the ticks of a span that is written so: 1 tick or more, or a duration above 0 where a tick has a length
abbrev pub ticks_around : Option ℕ → WrittenTime → Option ℕ
ticks_around tick (Count ticks) = counted_ticks ticks
ticks_around tick (Lasting length) = begun_ticks tick length

-- how many ticks the span is in a scenario: D where none is written
abbrev pub span_of : Scenario → Around → Result ℕ ScenarioFault
span_of scenario Greatest = Ok scenario.delay
span_of scenario (By span) = ok_or (ticks_around scenario.tick span) (Shape Until)

-- the span, where all is asked around the target: of a scenario that was read so there is one (`TextsHaveSpans`)
abbrev pub span_asked : Option Around → Scenario → Option ℕ
span_asked None scenario = None
span_asked (Some by) scenario = result_ok (span_of scenario by)

-- the scenario that is asked about: the one that is written, or where all is asked around its target the scenario around that
abbrev pub asked_around : Option Around → Scenario → Result Scenario ScenarioFault
asked_around None scenario = Ok scenario
asked_around (Some by) scenario = span_of scenario by >>= λ span. around span scenario
