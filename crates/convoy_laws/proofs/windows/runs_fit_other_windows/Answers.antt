use Rattle.convoy_laws.proofs.SameTimes.{runs_fit}
use Rattle.convoy_laws.proofs.windows.runs_fit_other_windows.Goals as goal

pub returns : goal.returns
returns c scenario messages schedule alike given fits =
    runs_fit (record {
      sent = c.packets_are_those_sent.ensures;
      places = c.places_lead_back.ensures;
      within = c.delays_are_within.ensures;
      unsent = c.unsent_takes_no_time.ensures;
      at_tick = c.issued_at_its_tick.ensures;
      in_wait = c.issued_within_its_wait.ensures.within;
      arrivals = c.arrives_before_commit.ensures;
    }) scenario messages schedule alike given fits
