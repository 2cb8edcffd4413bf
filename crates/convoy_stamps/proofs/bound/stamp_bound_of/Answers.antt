use Rattle.std.proofs.Common.{◌≡◌, ap, ◌∙◌, arith}
use Rattle.convoy_scenario.specs.Scenario.{message_at}
use Rattle.convoy_stamps.specs.StampBounds.{stamp_bound}
use Rattle.convoy_stamps.proofs.LastCommits.{stamp_bound_is}
use Rattle.convoy_stamps.proofs.bound.stamp_bound_of.Goals as goal
use Rattle.convoy_stamps.proofs.bound.stamp_bound_of.Goals.{After-saturating_sub}

value_is : (c : After-saturating_sub) → c.saturating_sub.result ≡ stamp_bound c.args.instance.now c.args.tracked.now.delay_box
value_is c =
    c.saturating_sub.ensures
    ∙ stamp_bound_is c.of-spans.result c.args.instance.now c.args.tracked.now.delay_box c.in_ok-highest.highest c.last_commit.result c.issue_tick-issued.result
    c.of-spans.ensures c.in_ok-highest.ensures c.last_commit.ensures
    (c.issue_tick-issued.ensures.value ∙ ap (λ m. (message_at c.args.instance.now m).at) c.target_message.ensures.value)

pub returns-clause-value : goal.returns-clause-value
returns-clause-value c = value_is (goal.at.returns-clause-value c).After-saturating_sub

pub returns-clause-holds : goal.returns-clause-holds
returns-clause-holds c schedule member =
    let value = value_is (goal.at.returns-clause-holds c).After-saturating_sub in
    omega (arith, value, c.stamp_bound_holds.ensures c.args.instance.now c.args.tracked.now.delay_box schedule c.issue_tick-issued.ensures.lawful member)
