use Rattle.std.proofs.Common.{sym}
use Rattle.std.specs.Fmt.{digits}
use Rattle.convoy_timeline.specs.Explanations.{worst_text}
use Rattle.convoy_timeline.proofs.telling.worst_line.Goals as goal

pub returns : goal.returns
unfolding worst_text digits
returns c =
    simp (sym c.node_word-word.ensures) c.format.ensures.ok
