use Rattle.std.proofs.Common.{◌≡◌, ◌-◌, ◌≤◌, min, fold, map, take}
use Rattle.convoy_draft.specs.declared.limits.TheConstants.{GREATEST_UNTIL}
use Rattle.convoy_sure.specs.Windows.{tables_by}
use Rattle.convoy_causes.specs.CauseWindows.{least_way}
use Rattle.convoy_causes.proofs.cutting.Cutting.latest_issue.Given as goal

abbrev pub invariant-loop-to : goal.invariant-loop-to
invariant-loop-to l = record {
  value : l.last ≡ fold min GREATEST_UNTIL (map (λ g. (tables_by l.windows).times.greatest_arrival l.message g - least_way l.self.instance.now l.message g) (take l.to-index l.to-items));
  fits : l.last ≤ GREATEST_UNTIL;
}
