use Rattle.std.proofs.Common.{◌≡◌, drop}
use Rattle.std.specs.List.{list_all}
use Rattle.convoy_leads.specs.Closing.{is_behind_late}
use Rattle.convoy_leads.proofs.facts.Facts.first_open.Given as goal

abbrev pub invariant-loop-n : goal.invariant-loop-n
invariant-loop-n l =
    list_all (is_behind_late l.self.scenario.now l.windows l.tick) (drop l.n-index l.n-items) ≡ list_all (is_behind_late l.self.scenario.now l.windows l.tick) l.n-items
