use Rattle.std.proofs.Common.{sym, ◌∙◌, arith}
use Rattle.convoy_plan_ceilings.proofs.Known.{after_most}
use Rattle.convoy_plan_ceilings.proofs.bounds.after_known_of.Goals as goal

pub returns : goal.returns
returns c =
    let most = after_most c.args.plan.now c.args.scenario.now c.args.leasts.now c.args.sites.now c.args.group c.args.message c.requires (sym c.goes_to.ensures ∙ c.if-not-goes_to.false) in
    omega (arith, most, c.from_arrival_known.ensures)
