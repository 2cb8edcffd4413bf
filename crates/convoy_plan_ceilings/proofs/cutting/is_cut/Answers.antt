use Rattle.std.proofs.Common.{Option, sym, subst}
use Rattle.convoy_plan_ceilings.specs.declared.ceiling_choice.CeilingChoice.{CeilingChoice}
use Rattle.convoy_plan_ceilings.specs.Leasts.{AreLeasts}
use Rattle.convoy_plan_ceilings.specs.Standings.{ArePassed, IsChosen}
use Rattle.convoy_plan_ceilings.proofs.cutting.is_cut.Goals as goal

pub returns-in-Some : goal.returns-in-Some
returns-in-Some c = λ wanted is yes.
    subst (λ (chosen : Option CeilingChoice). ArePassed wanted c.args.plan.now chosen c.args.sites.now) (sym c.in-Some.is)
    (c.is_high_below.ensures wanted (subst (IsChosen wanted c.args.plan.now) c.in-Some.is is.chosen) (subst (AreLeasts c.args.plan.now) (sym c.deref.ensures.value) is.leasts) yes)
