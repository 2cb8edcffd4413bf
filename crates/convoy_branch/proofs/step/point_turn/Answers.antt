use Rattle.std.proofs.Common.{◌∙◌, sym}
use Rattle.convoy_branch.proofs.OpenTurns.{decided_in_ticks}
use Rattle.convoy_branch.proofs.step.point_turn.Goals as goal

pub returns-in-Ticks-clause-value : goal.returns-in-Ticks-clause-value
returns-in-Ticks-clause-value c bounds known stays =
    (stays, decided_in_ticks c.args.instance.now c.args.branch.region c.tests_decide.ensures (sym c.time.ensures.value ∙ c.in-Ticks.is) c.requires.point)
