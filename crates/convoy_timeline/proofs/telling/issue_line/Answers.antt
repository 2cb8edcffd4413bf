use Rattle.std.proofs.Common.{sym}
use Rattle.std.specs.Fmt.{digits}
use Rattle.convoy_timeline.specs.Explanations.{issue_text}
use Rattle.convoy_timeline.proofs.telling.issue_line.Goals as goal

pub returns : goal.returns
unfolding issue_text digits
returns c =
    simp (sym c.sender_of.ensures, sym c.in_ok-sender.ensures, sym c.in_ok-window.ensures) c.format.ensures.ok
