use Rattle.convoy_intervals.proofs.Enclosing.{Encloses-members}
use Rattle.convoy_intervals.proofs.box_laws.members_are_enclosed.Goals as goal

pub returns : goal.returns
returns c plan ranges schedule member = Encloses-members plan ranges schedule member
