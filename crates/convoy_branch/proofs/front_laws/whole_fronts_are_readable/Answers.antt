use Rattle.convoy_branch.proofs.Readable.{AreReadable-whole}
use Rattle.convoy_branch.proofs.front_laws.whole_fronts_are_readable.Goals as goal

pub returns : goal.returns
returns c bounds scenario best nodes none fronts few = AreReadable-whole bounds scenario best nodes none fronts few
