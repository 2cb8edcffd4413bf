use Rattle.convoy_rows.specs.Rows.{IsMade}
use Rattle.convoy_rows.proofs.Placing.{right_pushed}
use Rattle.convoy_rows.proofs.threads.push_free.Goals as goal

pub returns : goal.returns
returns g c =
    rw c.push_pair.ensures
    (right_pushed (IsMade (goal.F-post g c.args.make.now)) c.args.pairs.now.items c.fetch_add-number.result c.make.result c.push_pair.result c.requires.right
    (record { watch = _; answered = c.make.ensures }))
