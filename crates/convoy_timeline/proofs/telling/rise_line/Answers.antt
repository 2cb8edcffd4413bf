use Rattle.std.proofs.Common.{sym}
use Rattle.std.specs.Fmt.{digits}
use Rattle.convoy_timeline.specs.Explanations.{rise_line}
use Rattle.convoy_timeline.proofs.telling.rise_line.Goals as goal

pub returns : goal.returns
unfolding rise_line digits
returns c =
    simp (sym c.gap_after-gap.ensures, sym c.message_name-message.ensures, sym c.doing_word-doing.ensures, sym c.group_name-group.ensures, sym c.in_ok-stamp.ensures) c.format.ensures.ok
