use Rattle.std.proofs.Common.{arith}
use Rattle.convoy_regions.proofs.region_laws.root_holds_all.Goals as goal

pub returns : goal.returns
returns c scenario schedule =
    let law = c.root_holds_all.ensures scenario schedule in (
      λ is. let parts = law.0 is in ((parts.0, λ k d below. absurd (omega arith)), parts.1),
      λ is. law.1 (is.0.0, is.1),
    )
