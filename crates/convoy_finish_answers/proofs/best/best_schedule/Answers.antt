use Rattle.convoy_finish_answers.proofs.Ended.{best_of_open, best_of_proved}
use Rattle.convoy_finish_answers.proofs.best.best_schedule.Goals as goal

pub returns-in_ok-start-in-Proved : goal.returns-in_ok-start-in-Proved
returns-in_ok-start-in-Proved c =
    rw c.in-Proved.is
    (best_of_proved c.args.options.now c.args.instance.now c.in-Proved.certificate c.in-Proved.tickets c.in-Proved.by_worker c.in_ok-start-in-Proved.start
    (rw c.in-Proved.is at c.requires) c.schedule.ensures.lawful (rw c.schedule.ensures.value at c.in_ok-start-in-Proved.ensures))

pub returns-in_ok-start-in-Open : goal.returns-in_ok-start-in-Open
returns-in_ok-start-in-Open c =
    rw c.in-Open.is
    (best_of_open c.args.options.now c.args.instance.now c.in-Open.best c.in-Open.upper c.in-Open.tickets c.in-Open.by_worker c.in_ok-start-in-Open.start
    (rw c.in-Open.is at c.requires) c.schedule-in-Open.ensures.attained (rw c.schedule-in-Open.ensures.value at c.in_ok-start-in-Open.ensures))
