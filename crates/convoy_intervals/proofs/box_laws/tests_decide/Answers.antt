use Rattle.convoy_intervals.proofs.BoxTests.{Decides-can_split, Decides-is_point}
use Rattle.convoy_intervals.proofs.box_laws.tests_decide.Goals as goal

pub returns : goal.returns
returns c ranges packet at = (Decides-can_split ranges packet at, Decides-is_point ranges)
