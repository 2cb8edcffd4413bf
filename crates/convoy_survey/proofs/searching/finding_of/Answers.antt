use Rattle.convoy_survey.proofs.Opens.{open_found}
use Rattle.convoy_survey.proofs.searching.finding_of.Goals as goal

pub returns-in_ok-cause-in-Open : goal.returns-in_ok-cause-in-Open
returns-in_ok-cause-in-Open c =
    rw c.latency-in-Open.ensures.value
    (open_found c.args.options.now c.args.instance.now c.in-Open.best c.in-Open.upper c.in-Open.tickets c.in-Open.by_worker _
    (rw c.in-Open.is at c.requires) c.latency-in-Open.ensures.attained
    (rw c.schedule-in-Open.ensures.value at c.in_ok-cause-in-Open.ensures))
