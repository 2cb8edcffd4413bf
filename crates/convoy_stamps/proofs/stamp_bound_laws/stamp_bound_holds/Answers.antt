use Rattle.convoy_intervals.specs.Bounds.{tables_of}
use Rattle.convoy_stamps.specs.StampBounds.{stamp_bound}
use Rattle.convoy_stamps.proofs.stamp_bound_laws.stamp_bound_holds.Goals as goal

pub returns : goal.returns
unfolding stamp_bound
returns c scenario ranges schedule well member =
    c.stamp_bound_over_tables.ensures scenario schedule (tables_of scenario ranges) well (c.members_are_enclosed.ensures scenario ranges schedule member)
