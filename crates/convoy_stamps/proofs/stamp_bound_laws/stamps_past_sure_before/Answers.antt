use Rattle.convoy_stamps.proofs.StampReach.{past_sure_before}
use Rattle.convoy_stamps.proofs.stamp_bound_laws.stamps_past_sure_before.Goals as goal

pub returns : goal.returns
returns c scenario schedule tables well enclosed n g goes =
    past_sure_before c.stamps_rise.ensures c.last_raise.ensures scenario schedule well tables enclosed n g goes
