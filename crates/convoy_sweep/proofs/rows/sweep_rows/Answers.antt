use Rattle.convoy_rows.proofs.OfKeys.{by_keys}
use Rattle.convoy_sweep.specs.Rows.{IsSwept}
use Rattle.convoy_sweep.proofs.rows.sweep_rows.Goals as goal

pub returns : goal.returns
returns g c = by_keys _ (IsSwept c.args.options.now) _ c.in_ok-rows.rows.items (λ lent watch row made. made) c.in_ok-rows.ensures
