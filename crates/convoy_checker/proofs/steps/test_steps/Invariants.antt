use Rattle.std.proofs.Common.{◌≡◌, ◌≤◌, ◌*◌, take}
use Rattle.std.specs.List.{sum_by}
use Rattle.convoy_sure.specs.Windows.{tables_by}
use Rattle.convoy_checker.specs.Steps.{pair_steps}
use Rattle.convoy_checker.specs.declared.steps.TheConstants.{MOST_PAIR_STEPS}
use Rattle.convoy_checker.proofs.steps.test_steps.Given as goal

abbrev pub invariant-loop-pair : goal.invariant-loop-pair
invariant-loop-pair l = record {
  summed : l.steps ≡ sum_by (pair_steps l.scenario (tables_by l.windows).times) (take l.pair-index l.pairs);
  within : l.steps ≤ l.pair-index * MOST_PAIR_STEPS;
}
