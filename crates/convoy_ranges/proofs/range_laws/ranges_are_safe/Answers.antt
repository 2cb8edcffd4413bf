use Rattle.convoy_ranges.proofs.TimesRead.{told_safely}
use Rattle.convoy_ranges.proofs.range_laws.ranges_are_safe.Goals as goal

pub returns : goal.returns
returns c = told_safely
