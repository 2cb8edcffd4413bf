use Rattle.convoy_regions.proofs.KnownHolds.{known_holds}
use Rattle.convoy_regions.proofs.region_laws.known_holds.Goals as goal

pub returns : goal.returns
returns c scenario schedule before a b known kept stage is =
    known_holds c.arrives_before_commit.ensures scenario schedule before a b known kept stage is
