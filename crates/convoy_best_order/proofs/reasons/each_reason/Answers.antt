use Rattle.std.proofs.Common.{length, rules}
use Rattle.std.specs.List.{range_with_len}
use Rattle.convoy_rows.proofs.OfKeys.{all_zip_then}
use Rattle.convoy_rows.specs.Rows.{IsMade}
use Rattle.convoy_best_order.specs.Each.{MayBeReason}
use Rattle.convoy_best_order.proofs.reasons.each_reason.Goals as goal

pub make_rows-requires-clause-takes : goal.make_rows-requires-clause-takes
make_rows-requires-clause-takes g c = λ κs outlive place watch small.
    ((record { lawful = c.requires.lawful; order = c.requires.order; some = c.requires.some }, small, c.requires.span), search rules)

pub returns : goal.returns
returns g c =
    all_zip_then (IsMade _) (MayBeReason c.args.options.now c.args.span c.args.scenario.now c.args.targets.now c.args.ahead.now c.args.left.now) (range_with_len 0 (length c.args.left.now))
    c.in_ok-reasons.reasons.items (λ place reason made. made.answered) c.in_ok-reasons.ensures
