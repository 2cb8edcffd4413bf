use Rattle.convoy_rows.specs.Rows.{IsMade}
use Rattle.convoy_rows.proofs.Placing.{right_places}
use Rattle.convoy_rows.proofs.rows.make_rows.Goals as goal

pub make_rest-requires-clause-right : goal.make_rest-requires-clause-right
make_rest-requires-clause-right g c =
    rw c.in_ok-places.ensures
    (right_places (IsMade (goal.F-post g c.args.make.now)) c.args.count c.in_ok-shares.shares.items c.in_ok-shares.ensures)
