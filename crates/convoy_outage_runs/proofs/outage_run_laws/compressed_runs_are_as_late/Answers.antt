use Rattle.convoy_outage_runs.proofs.LateRuns.{compressed_as_late}
use Rattle.convoy_outage_runs.proofs.outage_run_laws.compressed_runs_are_as_late.Goals as goal

pub returns : goal.returns
returns c factor span latency scenario well real some shortest squeezed upper =
    compressed_as_late (record {
      sent = c.packets_are_those_sent.ensures;
      places = c.places_lead_back.ensures;
      unsent = c.unsent_takes_no_time.ensures;
      roundable = c.scenarios_are_roundable.ensures;
      enough = c.whole_ticks_are_enough.ensures;
    }) factor span latency scenario well real some shortest squeezed upper
