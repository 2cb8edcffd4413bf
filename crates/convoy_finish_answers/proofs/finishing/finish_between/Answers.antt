use Rattle.convoy_finish_answers.proofs.Between.{between}
use Rattle.convoy_finish_answers.proofs.finishing.finish_between.Goals as goal

pub returns-clause-between : goal.returns-clause-between
returns-clause-between c =
    between c.args.instance.now c.args.replicas.now c.in_ok-sought.sought.least c.in_ok-sought.sought.most _ (rw c.scenario.ensures.value at c.in_ok-ways.ensures)
    c.in_ok-sought.ensures.sought.reached c.in_ok-sought.ensures.sought.safe
