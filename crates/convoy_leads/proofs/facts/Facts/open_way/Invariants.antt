use Rattle.std.proofs.Common.{◌≡◌, ◌-◌, drop}
use Rattle.std.specs.List.{list_all}
use Rattle.convoy_sure.specs.Windows.{tables_by}
use Rattle.convoy_leads.specs.Closing.{is_behind_after}
use Rattle.convoy_leads.proofs.facts.Facts.open_way.Given as goal

abbrev pub invariant-loop-k : goal.invariant-loop-k
invariant-loop-k l =
    list_all (λ k. is_behind_after l.self.scenario.now l.windows l.n k (l.tick - (tables_by l.windows).greatest_proposal l.n k l.self.scenario.now.target_group)) (drop l.k-index l.k-items)
    ≡ list_all (λ k. is_behind_after l.self.scenario.now l.windows l.n k (l.tick - (tables_by l.windows).greatest_proposal l.n k l.self.scenario.now.target_group)) l.k-items
