use Rattle.std.proofs.Common.{sym}
use Rattle.std.specs.Fmt.{digits}
use Rattle.convoy_timeline.specs.Explanations.{sent_text}
use Rattle.convoy_timeline.proofs.telling.issued_line.Goals as goal

pub returns : goal.returns
unfolding sent_text digits
returns c =
    simp (sym c.gap_after-gap.ensures, sym c.group_name-group.ensures, sym c.message_name-message.ensures) c.format.ensures.ok
