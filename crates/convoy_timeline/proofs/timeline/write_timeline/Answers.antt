use Rattle.std.proofs.Common.{rules}
use Rattle.convoy_timeline.specs.Told.{text_told}
use Rattle.convoy_timeline.proofs.Truth.{text_told-true}
use Rattle.convoy_timeline.proofs.timeline.write_timeline.Goals as goal

pub returns-clause-ok : goal.returns-clause-ok
unfolding text_told
returns-clause-ok c = λ story.
    rw (← text_told-true c.args.instance.now c.args.schedule.now c.args.run.now story) (search rules)
