use Rattle.std.proofs.Common.{◌≡◌, true, sym, ◌∙◌, arith}
use Rattle.convoy_sure.specs.Windows.{tables_by}
use Rattle.convoy_starts.specs.Starts.{may_commit}
use Rattle.convoy_starts.proofs.SteadyStarts.{covered_again}
use Rattle.convoy_starts.proofs.setting.Setting.next_uncovered.Goals as goal

pub returns-clause-covered : goal.returns-clause-covered
returns-clause-covered c covered later late soon =
    let scenario = c.args.self.now.scenario.now in
    let tables = tables_by c.args.self.now.windows.now in
    let may : may_commit scenario tables.times c.args.tick c.args.pair ≡ true = sym c.may_commit.ensures ∙ c.if-not-may_commit.false in
    covered_again scenario tables c.args.self.now.sure.now c.args.pair c.args.self.now.barring c.args.starts.now c.args.tick later may
    (c.next_change.ensures.same (omega (arith, c.if-tick-eq0.false)) later late soon) covered
