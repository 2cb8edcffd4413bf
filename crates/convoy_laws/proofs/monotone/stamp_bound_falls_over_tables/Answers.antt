use Rattle.convoy_stamps.specs.StampBounds.{is_surely_behind}
use Rattle.convoy_laws.proofs.NarrowTables.{bound_falls}
use Rattle.convoy_laws.proofs.NarrowReaches.{behind_too}
use Rattle.convoy_laws.proofs.monotone.stamp_bound_falls_over_tables.Goals as goal

pub returns : goal.returns
returns c scenario outer inner well narrow =
    bound_falls scenario outer inner well narrow (is_surely_behind scenario outer) (is_surely_behind scenario inner)
    (behind_too c.reach_is_closed.ensures c.reach_is_least.ensures scenario outer inner well narrow)
