use Rattle.convoy_scenario.specs.declared.sender.Sender.TheVariants.{Client}
use Rattle.convoy_what_if.specs.Changes.{sender_changes}
use Rattle.convoy_what_if.proofs.Loops.{pieces_more}
use Rattle.convoy_what_if.proofs.listing.push_clients.Goals as goal

pub loop-place-preserved : goal.loop-place-preserved
loop-place-preserved c =
    rw c.in_ok-push_sender.ensures
    (pieces_more _ _ (λ p. sender_changes c.args.instance.now (Client p)) c.loop-place.place c.loop-place.invariant)
