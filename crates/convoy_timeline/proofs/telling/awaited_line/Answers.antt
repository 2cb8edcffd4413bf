use Rattle.std.proofs.Common.{sym}
use Rattle.std.specs.Fmt.{digits}
use Rattle.convoy_timeline.specs.Explanations.{awaited_text}
use Rattle.convoy_timeline.proofs.telling.awaited_line.Goals as goal

pub returns : goal.returns
unfolding awaited_text digits
returns c =
    let group = rw c.target_group.ensures.value at c.group_name-group.ensures in
    simp (sym c.message_name-message.ensures, sym group) c.format.ensures.ok
