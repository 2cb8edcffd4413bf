use Rattle.std.proofs.Common.{sym, ◌∙◌}
use Rattle.convoy_plans.proofs.Keeping.{is_kept_of, kept_is}
use Rattle.convoy_plans.proofs.kept.is_placement.Goals as goal

pub returns : goal.returns
returns c = (
  λ yes. kept_is c.args.plan.now c.args.placement.now (sym c.is_kept.ensures ∙ yes),
  λ is. c.is_kept.ensures ∙ is_kept_of c.args.plan.now c.args.placement.now is,
)
