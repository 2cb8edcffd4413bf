use Rattle.convoy_what_if.specs.Changes.{link_changes}
use Rattle.convoy_what_if.proofs.Loops.{pieces_more}
use Rattle.convoy_what_if.proofs.listing.push_sender.Goals as goal

pub loop-to-preserved : goal.loop-to-preserved
loop-to-preserved c =
    rw c.in_ok-push_link.ensures
    (pieces_more _ _ (link_changes c.args.instance.now c.args.sender) c.loop-to.to c.loop-to.invariant)
