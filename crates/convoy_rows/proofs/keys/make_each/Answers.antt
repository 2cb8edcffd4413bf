use Rattle.convoy_rows.proofs.OfKeys.{made_of_keys}
use Rattle.convoy_rows.proofs.keys.make_each.Goals as goal

pub returns : goal.returns
returns g c = made_of_keys _ (goal.F-post g c.args.make.now) c.args.keys.now c.in_ok-rows.rows.items (λ i watch row made. made) c.in_ok-rows.ensures
