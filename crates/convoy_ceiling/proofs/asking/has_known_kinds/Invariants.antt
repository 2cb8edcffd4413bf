use Rattle.std.proofs.Common.{◌<◌, ℕ}
use Rattle.convoy_scenario.specs.Scenario.{message_at}
use Rattle.convoy_ceiling.specs.Ceiling.{IsOfSomeKind}
use Rattle.convoy_ceiling.proofs.asking.has_known_kinds.Given as goal

abbrev pub invariant-loop-message : goal.invariant-loop-message
invariant-loop-message l = (k : ℕ) → k < l.message → IsOfSomeKind l.scenario (message_at l.traffic k)
