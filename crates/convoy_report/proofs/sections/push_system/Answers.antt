use Rattle.convoy_report.specs.Pages.{system_text}
use Rattle.convoy_report.proofs.sections.push_system.Goals as goal

pub returns : goal.returns
unfolding system_text
returns c = rw (c.as_bytes.ensures.value, c.as_bytes-2.ensures.value, c.as_bytes-3.ensures.value) at c.push_pieces.ensures
