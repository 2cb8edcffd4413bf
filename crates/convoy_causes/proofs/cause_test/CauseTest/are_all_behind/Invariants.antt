use Rattle.std.proofs.Common.{◌≡◌, drop}
use Rattle.std.specs.List.{list_all}
use Rattle.convoy_leads.specs.Closing.{is_behind_late}
use Rattle.convoy_causes.proofs.cause_test.CauseTest.are_all_behind.Given as goal

abbrev pub invariant-loop-rival : goal.invariant-loop-rival
invariant-loop-rival l =
    let test = is_behind_late l.self.instance.now l.self.leads.windows l.tick in
    list_all test (drop l.rival-index l.rival-items) ≡ list_all test l.rival-items
