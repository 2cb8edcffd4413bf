use Rattle.std.proofs.Common.{sym}
use Rattle.std.specs.Fmt.{digits}
use Rattle.convoy_timeline.specs.Explanations.{holder_text}
use Rattle.convoy_timeline.proofs.telling.held_line.Goals as goal

pub returns : goal.returns
unfolding holder_text digits
returns c =
    let group = rw c.target_group.ensures.value at c.group_name-group.ensures in
    simp (sym c.message_name-message.ensures, sym group, sym c.in_ok-stamp.ensures, sym c.in_ok-last.ensures, sym c.tie_won_text-won.ensures) c.format.ensures.ok
