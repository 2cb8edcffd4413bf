use Rattle.std.proofs.Common.{◌≡◌, drop}
use Rattle.std.specs.List.{list_all}
use Rattle.convoy_leads.specs.Closing.{is_behind_target}
use Rattle.convoy_leads.proofs.facts.Facts.open_target.Given as goal

abbrev pub invariant-loop-f : goal.invariant-loop-f
invariant-loop-f l =
    list_all (is_behind_target l.self.scenario.now l.windows l.n) (drop l.f-index l.f-items) ≡ list_all (is_behind_target l.self.scenario.now l.windows l.n) l.f-items
