use Rattle.std.proofs.Common.{sym}
use Rattle.std.specs.Fmt.{digits}
use Rattle.convoy_timeline.specs.Explanations.{answered_text}
use Rattle.convoy_timeline.proofs.telling.answered_line.Goals as goal

pub returns : goal.returns
unfolding answered_text digits
returns c =
    simp (sym c.gap_after-gap.ensures, sym c.group_name-from.ensures, sym c.in_ok-stamp.ensures, sym c.in_ok-way.ensures) c.format.ensures.ok
