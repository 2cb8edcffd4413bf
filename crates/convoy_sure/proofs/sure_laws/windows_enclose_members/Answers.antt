use Rattle.convoy_sure.proofs.WindowLaws.{windows_enclose_members}
use Rattle.convoy_sure.proofs.sure_laws.windows_enclose_members.Goals as goal

pub returns : goal.returns
returns c scenario ranges schedule well member = windows_enclose_members c.members_are_enclosed.ensures scenario ranges schedule well member
