use Rattle.std.proofs.Common.{Option, sym, subst}
use Rattle.convoy_best_plan.specs.declared.planned.Planned.{Planned}
use Rattle.convoy_best_plan.specs.Standings.{ArePassed, IsStanding}
use Rattle.convoy_best_plan.proofs.cutting.is_cut.Goals as goal

pub returns-in-Some : goal.returns-in-Some
returns-in-Some c = λ settings wanted told is yes.
    subst (λ (chosen : Option Planned). ArePassed wanted c.args.plan.now told chosen c.args.sites.now) (sym c.in-Some.is)
    (c.is_late_below.ensures settings wanted told (subst (IsStanding settings wanted c.args.plan.now told) c.in-Some.is is) yes)
