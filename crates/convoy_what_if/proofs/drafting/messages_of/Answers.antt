use Rattle.std.proofs.Common.{[]}
use Rattle.convoy_what_if.specs.Changes.{messages_left}
use Rattle.convoy_what_if.proofs.Loops.{pieces_more}
use Rattle.convoy_what_if.proofs.drafting.messages_of.Goals as goal

pub loop-message-preserved : goal.loop-message-preserved
loop-message-preserved c =
    rw c.in_ok-push_left.ensures
    (pieces_more _ [] (messages_left c.args.scenario.now c.args.change) c.loop-message.message c.loop-message.invariant)
