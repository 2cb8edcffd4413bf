use Rattle.std.proofs.Common.{◌≡◌, ◌++◌, take}
use Rattle.std.specs.List.{flat_map}
use Rattle.convoy_plan_certificate.specs.PlanTexts.{branch_text}
use Rattle.convoy_plan_certificate.proofs.writing.push_branches.Given as goal

abbrev pub invariant-loop-node : goal.invariant-loop-node
invariant-loop-node l = l.text.items ≡ l.fn.text.items ++ flat_map branch_text (take l.node-index l.nodes)
