use Rattle.convoy_timeline.proofs.Truth.{told_in_order-true}
use Rattle.convoy_timeline.proofs.timeline.entries_of.Goals as goal

pub returns : goal.returns
returns c = λ schedule story. rw (← told_in_order-true c.args.scenario.now schedule c.args.run.now story) c.list_entries.ensures
