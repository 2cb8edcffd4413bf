use Rattle.std.proofs.Common.{◌≡◌, [], ◌∷◌, drop}
use Rattle.convoy_plan_checker.specs.Sites.{no_sites}
use Rattle.convoy_plan_checker.specs.Trees.{first_fault}
use Rattle.convoy_plan_checker.proofs.walking.first_fault.Given as goal

-- the first fault of the nodes to come, over the sites that are left, is that of all
abbrev pub invariant-loop-number : goal.invariant-loop-number
invariant-loop-number l =
    first_fault l.plan l.claim l.number l.left (drop l.number l.nodes) ≡ first_fault l.plan l.claim 0 (no_sites l.plan ∷ []) l.nodes
