use Rattle.std.proofs.Common.{ℕ, IsTrue, sym, subst}
use Rattle.convoy_finishes.specs.FinishClosing.{closes_finishing_over}
use Rattle.convoy_finishes.proofs.ClosedFinishes.{closes_at_plain_over}
use Rattle.convoy_finishes.proofs.finish_test.FinishTest.least_after.Goals as goal

pub loop-low-init : goal.loop-low-init
loop-low-init c =
    let plan = c.args.self.now.instance.now in
    let windows = c.args.self.now.leads.windows in
    let ways = c.args.self.now.ways.now in
    subst (λ (latency : ℕ). IsTrue (closes_finishing_over plan windows ways latency)) (sym c.plain_bound-high.ensures) (closes_at_plain_over plan windows ways)
