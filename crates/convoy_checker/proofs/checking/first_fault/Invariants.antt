use Rattle.std.proofs.Common.{◌≡◌, [], ◌∷◌, drop}
use Rattle.std.specs.List.{All}
use Rattle.convoy_regions.specs.Regions.{IsRegion, root_region}
use Rattle.convoy_checker.proofs.StepLimits.{seen}
use Rattle.convoy_checker.proofs.checking.first_fault.Given as goal

abbrev pub invariant-loop-number : goal.invariant-loop-number
invariant-loop-number l = record {
  so_far : seen l.claim.origin l.claim.latency l.number l.walk (drop l.number l.nodes) l.left
      ≡ seen l.claim.origin l.claim.latency 0 (root_region l.claim.origin ∷ []) l.nodes l.fn.limit;
  regions : All (IsRegion l.claim.origin) l.walk;
}
