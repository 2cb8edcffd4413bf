use Rattle.convoy_finishes.proofs.FinerFinishes.{finer_finishes}
use Rattle.convoy_finishes.proofs.finish_laws.finishes_in_finer_ticks.Goals as goal

pub returns : goal.returns
returns c =
    finer_finishes (record {
      sent = c.packets_are_those_sent.ensures;
      places = c.places_lead_back.ensures;
      within = c.delays_are_within.ensures;
      unsent = c.unsent_takes_no_time.ensures;
      at_tick = c.issued_at_its_tick.ensures;
      in_wait = c.issued_within_its_wait.ensures.within;
      arrivals = c.arrives_before_commit.ensures;
    }) c.scenarios_are_roundable.ensures c.latest_finishes.ensures
