use Rattle.std.proofs.Common.{◌≡◌, ◌∷◌, map, take}
use Rattle.convoy_sim.specs.Times.{greatest}
use Rattle.convoy_sure.specs.Windows.{tables_by}
use Rattle.convoy_causes.proofs.cause_test.CauseTest.plain_time.Given as goal

abbrev pub invariant-loop-rival : goal.invariant-loop-rival
invariant-loop-rival l =
    let scenario = l.self.instance.now in
    l.last ≡ greatest (map (λ n. (tables_by l.self.leads.windows).times.greatest_settling n scenario.target_group) (scenario.target_message ∷ take l.rival-index l.rival-items))
