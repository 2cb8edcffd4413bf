-- The limits within which a trace is judged.
use Rattle.std.specs.Prelude.{ℕ, ◌*◌, nat_le, Bool, ◌&&◌}
use Rattle.std.specs.List.{list_all}
use Rattle.convoy_draft.specs.declared.limits.TheConstants.{GREATEST_AT, GREATEST_DELAY}
use Rattle.convoy_scenario.specs.Scenario.{Message, Scenario}
use Rattle.convoy_traces.specs.declared.fault.TheConstants.{LAST_TIME}
use Rattle.convoy_traces.specs.declared.told.Told.{Told}
use Rattle.convoy_traces.specs.Traces.{Trace}
use Rattle.convoy_fits.specs.Runs.{is_there}

-- a message may be issued at a fine tick at which messages of scenarios may be
abbrev pub is_early : ℕ → Message → Bool
is_early factor message = nat_le (factor * message.at) GREATEST_AT

-- what is told is of a message of the scenario, at groups that it goes to, and no later than a trace may tell
abbrev pub is_in_time : Scenario → Told → Bool
is_in_time scenario one = is_there scenario one && nat_le one.time LAST_TIME

-- The scenario keeps the limits of scenarios in the fine ticks of the trace, by D and by when its messages may be issued; and the trace is one of the scenario.
abbrev pub is_within_limits : Scenario → Trace → Bool
is_within_limits scenario trace =
    nat_le 1 trace.factor && nat_le (trace.factor * scenario.delay) GREATEST_DELAY && list_all (is_early trace.factor) scenario.multicasts
    && list_all (is_in_time scenario) trace.told
