use Rattle.convoy_timeline.specs.Explanations.{holder_text}
use Rattle.convoy_timeline.proofs.telling.holder_line.Goals as goal

pub returns-in-None : goal.returns-in-None
unfolding holder_text
returns-in-None c = rw c.in-None.is c.from_str.ensures.ok
