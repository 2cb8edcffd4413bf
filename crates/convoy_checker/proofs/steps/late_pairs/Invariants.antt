use Rattle.std.proofs.Common.{◌≡◌, ◌≤◌, length, take}
use Rattle.std.specs.List.{filter}
use Rattle.convoy_sure.specs.Windows.{tables_by}
use Rattle.convoy_checker.specs.Steps.{is_late}
use Rattle.convoy_checker.proofs.steps.late_pairs.Given as goal

abbrev pub invariant-loop-pair : goal.invariant-loop-pair
invariant-loop-pair l = record {
  counted : l.late ≡ length (filter (is_late l.scenario (tables_by l.windows).times l.latency) (take l.pair-index l.pairs));
  few : l.late ≤ l.pair-index;
}
