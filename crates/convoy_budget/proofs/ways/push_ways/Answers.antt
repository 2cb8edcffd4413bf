use Rattle.convoy_budget.specs.Ways.{way_to}
use Rattle.convoy_budget.proofs.Loops.{pieces_more}
use Rattle.convoy_budget.proofs.ways.push_ways.Goals as goal

pub loop-to-preserved : goal.loop-to-preserved
loop-to-preserved c = rw c.in_ok-push_way.ensures (pieces_more _ _ (way_to c.args.scenario.now c.args.sender) c.loop-to.to c.loop-to.invariant)
