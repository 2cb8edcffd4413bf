use Rattle.convoy_what_if.specs.Changes.{message_changes}
use Rattle.convoy_what_if.proofs.Loops.{pieces_more}
use Rattle.convoy_what_if.proofs.listing.push_messages.Goals as goal

pub loop-message-preserved : goal.loop-message-preserved
loop-message-preserved c =
    rw c.in_ok-push_message.ensures
    (pieces_more _ _ (message_changes c.args.instance.now) c.loop-message.message c.loop-message.invariant)
