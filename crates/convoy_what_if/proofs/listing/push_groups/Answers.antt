use Rattle.convoy_scenario.specs.declared.sender.Sender.TheVariants.{Group}
use Rattle.convoy_what_if.specs.Changes.{sender_changes}
use Rattle.convoy_what_if.proofs.Loops.{pieces_more}
use Rattle.convoy_what_if.proofs.listing.push_groups.Goals as goal

pub loop-group-preserved : goal.loop-group-preserved
loop-group-preserved c =
    rw c.in_ok-push_sender.ensures
    (pieces_more _ _ (λ h. sender_changes c.args.instance.now (Group h)) c.loop-group.group c.loop-group.invariant)
