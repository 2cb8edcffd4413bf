-- How long outages last in all, where that is asked of a scenario.
use Rattle.std.specs.Prelude.{◌≡◌, ℕ, max, nat_le, if◌then◌else◌, Option, Some, None, Result, Ok, Err}
use Rattle.std.specs.Int.{div_ceil}
use Rattle.convoy_lines.specs.Results.{◌>>=◌}
use Rattle.convoy_scenario.specs.Scenario.{Scenario}
use Rattle.convoy_outages.specs.OutageCeiling.{IsCeilingThrough, ceiling_through}
use Rattle.convoy_outages.specs.declared.outage.Outage.{Outage}
use Rattle.convoy_outages.specs.declared.outage.Outage.TheVariants.{Ticks, Lasting}
use Rattle.convoy_outages.specs.declared.outage.OutageFault.{OutageFault}
use Rattle.convoy_outages.specs.declared.outage.OutageFault.TheVariants.{Unmeasured, TooLong}
use Rattle.convoy_outages.specs.declared.outage.TheConstants.{LONGEST_OUTAGE}

-- how many ticks they last, where a tick has that length, if it has one: one that has begun counts as a whole one
abbrev pub ticks_of_outage : Option ℕ → Outage → Result ℕ OutageFault
ticks_of_outage tick (Ticks ticks) = Ok ticks
ticks_of_outage None (Lasting length) = Err Unmeasured
ticks_of_outage (Some tick) (Lasting length) = Ok (div_ceil length (max tick 1))

-- the ticks, where they are not too many
abbrev pub within_longest : ℕ → Result ℕ OutageFault
within_longest ticks = if nat_le ticks LONGEST_OUTAGE then Ok ticks else Err TooLong

-- how many ticks of the scenario they last, or why that can't be asked
abbrev pub span_of : Scenario → Outage → Result ℕ OutageFault
span_of scenario outage = ticks_of_outage scenario.tick outage >>= within_longest

-- the same where outages are asked for
abbrev pub span_asked : Option Outage → Scenario → Result (Option ℕ) OutageFault
span_asked None scenario = Ok None
span_asked (Some outage) scenario = span_of scenario outage >>= λ span. Ok (Some span)

-- the ceiling of message m at group g through outages, where these are asked for, and none where they are not
pub record IsThrough (outage : Option Outage) (scenario : Scenario) (m g : ℕ) (ceiling : Option ℕ) : Type 0 where
  pub span : Option ℕ
  pub asked : span_asked outage scenario ≡ Ok span
  pub holds : IsCeilingThrough span scenario m g
  pub told : ceiling ≡ ceiling_through span scenario m g
