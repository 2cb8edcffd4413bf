use Rattle.convoy_laws.proofs.Matched.{runs_matched}
use Rattle.convoy_laws.proofs.finer.finer_runs_are_matched.Goals as goal

pub returns : goal.returns
returns c times scenario finer schedule well real is given =
    runs_matched (record {
      sent = c.packets_are_those_sent.ensures;
      places = c.places_lead_back.ensures;
      within = c.delays_are_within.ensures;
      unsent = c.unsent_takes_no_time.ensures;
      at_tick = c.issued_at_its_tick.ensures;
      in_wait = c.issued_within_its_wait.ensures.within;
      arrivals = c.arrives_before_commit.ensures;
    }) times scenario finer schedule well real is given
