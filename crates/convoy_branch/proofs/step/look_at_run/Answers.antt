use Rattle.std.proofs.Common.{◌∙◌, sym}
use Rattle.convoy_branch.proofs.Tries.{look_closed}
use Rattle.convoy_branch.proofs.step.look_at_run.Goals as goal

pub returns-then-is_some : goal.returns-then-is_some
returns-then-is_some c =
    let plan = c.args.origin.now in
    let region = c.args.branch.now.region in
    record { value = look_closed c.args.bounds plan region c.args.seen c.in_ok-asked.asked c.ranges.seen.fits (c.stamp_at_most_plain_from_origin.ensures plan region.ranges) c.in_ok-asked.ensures (sym c.is_some.ensures ∙ c.if-is_some.true) }
