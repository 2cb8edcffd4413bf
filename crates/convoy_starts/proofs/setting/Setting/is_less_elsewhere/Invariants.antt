use Rattle.std.proofs.Common.{◌≡◌, ◌==◌, ◌||◌, drop}
use Rattle.std.specs.List.{list_all}
use Rattle.convoy_sure.specs.Windows.{tables_by}
use Rattle.convoy_starts.specs.Starts.{is_surely_less}
use Rattle.convoy_starts.proofs.setting.Setting.is_less_elsewhere.Given as goal

abbrev pub invariant-loop-group : goal.invariant-loop-group
invariant-loop-group l =
    list_all (λ h. (h == l.self.scenario.now.target_group) || is_surely_less l.self.scenario.now (tables_by l.self.windows.now).times l.self.sure.now l.starts h) (drop l.group-index l.group-items)
    ≡ list_all (λ h. (h == l.self.scenario.now.target_group) || is_surely_less l.self.scenario.now (tables_by l.self.windows.now).times l.self.sure.now l.starts h) l.group-items
