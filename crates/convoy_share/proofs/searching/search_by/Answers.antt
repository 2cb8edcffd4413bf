use Rattle.std.proofs.Common.{◌≡◌, ℕ, ◌-◌, ◌+◌, IfOk, arith, subst, sym}
use Rattle.convoy_scenario.specs.Scenario.{Scenario}
use Rattle.convoy_branch.specs.Limits.{IsOutcomeWithin}
use Rattle.convoy_share.specs.Ended.{IsClosed}
use Rattle.convoy_share.proofs.searching.search_by.Goals as goal

pub returns-clause-value : goal.returns-clause-value
returns-clause-value g c =
    let all : c.args.workers - 1 + 1 ≡ c.args.workers = omega (arith, c.requires.workers.0) in
    let IsClosedOf : Scenario → ℕ → Type 0 = λ plan workers. IsClosed c.args.bounds plan workers c.args.limit c.in_ok-closed.closed in
    let closed = c.in_ok-closed.ensures.closed (c.args.workers - 1) _ c.in_ok-brought.ensures in
    let of_origin = subst (λ (plan : Scenario). IsClosedOf plan c.args.workers) (sym c.in_ok-origin.ensures) (subst (IsClosedOf c.args.instance.now) all closed) in
    subst (λ (plan : Scenario). IfOk c.into_outcome.result (IsOutcomeWithin c.args.bounds plan c.args.workers c.args.limit)) c.in_ok-origin.ensures (c.into_outcome.ensures.value c.args.workers c.args.limit of_origin)
