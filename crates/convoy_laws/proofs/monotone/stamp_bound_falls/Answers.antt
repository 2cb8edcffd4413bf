use Rattle.convoy_intervals.specs.Bounds.{tables_of}
use Rattle.convoy_stamps.specs.StampBounds.{stamp_bound}
use Rattle.convoy_laws.proofs.monotone.stamp_bound_falls.Goals as goal

pub returns : goal.returns
unfolding stamp_bound
returns c scenario outer inner well inside =
    c.stamp_bound_falls_over_tables.ensures scenario (tables_of scenario outer) (tables_of scenario inner) well (c.inner_tables_are_narrower.ensures scenario outer inner inside)
