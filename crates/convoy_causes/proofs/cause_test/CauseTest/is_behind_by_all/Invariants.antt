use Rattle.std.proofs.Common.{◌≡◌, ◌-◌, drop}
use Rattle.std.specs.List.{list_all}
use Rattle.convoy_sure.specs.Windows.{tables_by}
use Rattle.convoy_leads.specs.Closing.{is_behind_after}
use Rattle.convoy_causes.proofs.cause_test.CauseTest.is_behind_by_all.Given as goal

abbrev pub invariant-loop-group : goal.invariant-loop-group
invariant-loop-group l =
    let scenario = l.self.instance.now in
    let windows = l.self.leads.windows in
    list_all (λ k. is_behind_after scenario windows l.message k (l.tick - (tables_by windows).greatest_proposal l.message k scenario.target_group)) (drop l.group-index l.group-items)
    ≡ list_all (λ k. is_behind_after scenario windows l.message k (l.tick - (tables_by windows).greatest_proposal l.message k scenario.target_group)) l.group-items
