use Rattle.std.proofs.Common.{sym}
use Rattle.std.specs.Fmt.{digits}
use Rattle.convoy_timeline.specs.Explanations.{sent_text}
use Rattle.convoy_timeline.proofs.telling.flown_line.Goals as goal

pub returns : goal.returns
unfolding sent_text digits
returns c =
    simp (sym c.gap_after-gap.ensures, sym c.sender_of.ensures, sym c.in_ok-sender.ensures, sym c.message_name-message.ensures, sym c.group_name-to.ensures, sym c.in_ok-flight.ensures) c.format.ensures.ok
