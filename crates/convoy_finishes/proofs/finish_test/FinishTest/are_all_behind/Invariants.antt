use Rattle.std.proofs.Common.{◌≡◌, drop}
use Rattle.std.specs.List.{list_all}
use Rattle.convoy_finishes.specs.FinishClosing.{is_behind_finishing}
use Rattle.convoy_finishes.proofs.finish_test.FinishTest.are_all_behind.Given as goal

abbrev pub invariant-loop-rival : goal.invariant-loop-rival
invariant-loop-rival l =
    let test = is_behind_finishing l.self.instance.now l.self.leads.windows l.self.ways.now l.tick in
    list_all test (drop l.rival-index l.rival-items) ≡ list_all test l.rival-items
