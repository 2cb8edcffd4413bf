use Rattle.convoy_causes.proofs.ClosedCauses.{closed_over}
use Rattle.convoy_causes.proofs.cause_laws.closed_over_caused.Goals as goal

pub returns : goal.returns
returns c =
    closed_over (record {
      before = c.delivered_before.ensures;
      move = c.caused_runs_move.ensures;
      at_tick = c.issued_at_its_tick.ensures;
    })
