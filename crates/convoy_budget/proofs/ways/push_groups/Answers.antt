use Rattle.convoy_scenario.specs.declared.sender.Sender.TheVariants.{Group}
use Rattle.convoy_budget.specs.Ways.{ways_from}
use Rattle.convoy_budget.proofs.Loops.{pieces_more}
use Rattle.convoy_budget.proofs.ways.push_groups.Goals as goal

pub loop-group-preserved : goal.loop-group-preserved
loop-group-preserved c =
    rw c.in_ok-push_ways.ensures
    (pieces_more _ _ (λ h. ways_from c.args.scenario.now (Group h)) c.loop-group.group c.loop-group.invariant)
