use Rattle.std.proofs.Common.{sym}
use Rattle.std.specs.Fmt.{digits}
use Rattle.convoy_timeline.specs.Explanations.{latency_text}
use Rattle.convoy_timeline.proofs.telling.latency_line.Goals as goal

pub returns : goal.returns
unfolding latency_text digits
returns c =
    let message = rw c.target_message.ensures.value at c.message_name-message.ensures in
    let group = rw c.target_group.ensures.value at c.group_name-group.ensures in
    simp (sym message, sym group, sym c.in_ok-latency.ensures, sym c.saturating_sub-issue.ensures) c.format.ensures.ok
