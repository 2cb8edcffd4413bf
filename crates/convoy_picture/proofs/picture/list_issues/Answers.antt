use Rattle.std.proofs.Common.{◌≡◌, suc, ◌+◌, ◌-◌, length, append_assoc, arith}
use Rattle.convoy_picture.proofs.picture.list_issues.Goals as goal

pub loop-message-preserved : goal.loop-message-preserved
loop-message-preserved c =
    let count = length c.args.instance.now.multicasts in
    let left : count - c.loop-message.message ≡ suc (count - (c.loop-message.message + 1)) = omega arith in
    rw (c.in_ok-push.ensures.items, c.issue_of.ensures.tick, append_assoc) (rw left at c.loop-message.invariant)
