use Rattle.std.proofs.Common.{◌≡◌, drop}
use Rattle.std.specs.List.{list_all}
use Rattle.convoy_finishes.specs.FinishClosing.{is_behind_by_way}
use Rattle.convoy_finishes.proofs.finish_test.FinishTest.is_behind_by_all.Given as goal

abbrev pub invariant-loop-group : goal.invariant-loop-group
invariant-loop-group l =
    let test = is_behind_by_way l.self.instance.now l.self.leads.windows l.self.ways.now l.tick l.message in
    list_all test (drop l.group-index l.group-items) ≡ list_all test l.group-items
