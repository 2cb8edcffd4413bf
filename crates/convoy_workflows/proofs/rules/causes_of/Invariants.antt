use Rattle.std.proofs.Common.{◌≡◌, map, take}
use Rattle.convoy_workflows.specs.Rules.{cause_of}
use Rattle.convoy_workflows.proofs.rules.causes_of.Given as goal

abbrev pub invariant-loop-cause : goal.invariant-loop-cause
invariant-loop-cause l = l.numbered.items ≡ map cause_of (take l.cause-index l.causes)
