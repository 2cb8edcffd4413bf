use Rattle.convoy_stamps.specs.StampBounds.{is_surely_behind}
use Rattle.convoy_stamps.proofs.StampBoundLaw.{keeps_those_ahead}
use Rattle.convoy_stamps.proofs.stamp_bound_laws.stamp_bound_over_tables.Goals as goal

pub returns : goal.returns
returns c scenario schedule tables well enclosed =
    c.bound_by_holds.ensures scenario schedule tables (is_surely_behind scenario tables) well enclosed
    (keeps_those_ahead c.final_stamp_is_local.ensures c.local_stamp_names_group.ensures c.stamps_within_reach.ensures c.stamps_past_sure_before.ensures scenario schedule tables well enclosed)
