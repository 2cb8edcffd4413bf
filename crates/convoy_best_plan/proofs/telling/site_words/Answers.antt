use Rattle.std.proofs.Common.{◌≡◌, suc, ◌+◌, ◌-◌, length, append_assoc, arith}
use Rattle.convoy_best_plan.proofs.telling.site_words.Goals as goal

pub loop-group-preserved : goal.loop-group-preserved
loop-group-preserved c =
    let count = length c.args.plan.now.written.groups in
    let left : count - c.loop-group.group ≡ suc (count - (c.loop-group.group + 1)) = omega arith in
    rw (c.in_ok-push_place-2.ensures, c.in_ok-push_str.ensures.bytes, append_assoc, append_assoc) (rw left at c.loop-group.invariant)
