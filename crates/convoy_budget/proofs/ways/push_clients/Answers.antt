use Rattle.convoy_scenario.specs.declared.sender.Sender.TheVariants.{Client}
use Rattle.convoy_budget.specs.Ways.{ways_from}
use Rattle.convoy_budget.proofs.Loops.{pieces_more}
use Rattle.convoy_budget.proofs.ways.push_clients.Goals as goal

pub loop-place-preserved : goal.loop-place-preserved
loop-place-preserved c =
    rw c.in_ok-push_ways.ensures
    (pieces_more _ _ (λ p. ways_from c.args.scenario.now (Client p)) c.loop-place.place c.loop-place.invariant)
