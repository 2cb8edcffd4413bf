use Rattle.std.proofs.Common.{◌≡◌, map, take}
use Rattle.convoy_plan_certificate.specs.declared.branch.Witness.{Witness}
use Rattle.convoy_plan_checker.specs.Lateness.{target_at}
use Rattle.convoy_plan_checker.proofs.lateness.witness_groups.Given as goal

-- the groups of the witnesses so far
abbrev pub invariant-loop-witness : goal.invariant-loop-witness
invariant-loop-witness l = l.groups.items ≡ map (λ (witness : Witness). (target_at l.targets witness.target).group) (take l.witness-index l.witnesses)
