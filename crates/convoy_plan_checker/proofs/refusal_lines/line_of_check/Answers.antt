use Rattle.std.specs.Fmt.{digits}
use Rattle.convoy_commands.specs.Refusals.{refused_line}
use Rattle.convoy_plan_checker.proofs.refusal_lines.line_of_check.Goals as goal

pub returns-in-Placement : goal.returns-in-Placement
unfolding refused_line digits
returns-in-Placement c = rw c.in-Placement.is c.from_str.ensures.ok

pub returns-in-Unmade : goal.returns-in-Unmade
unfolding refused_line digits
returns-in-Unmade c = rw c.in-Unmade.is c.from_str-in-Unmade.ensures.ok

pub returns-in-Order : goal.returns-in-Order
unfolding refused_line digits
returns-in-Order c = rw c.in-Order.is c.from_str-in-Order.ensures.ok

pub returns-in-Count : goal.returns-in-Count
unfolding refused_line digits
returns-in-Count c = rw c.in-Count.is c.from_str-in-Count.ensures.ok

pub returns-in-Scenario : goal.returns-in-Scenario
unfolding refused_line digits
returns-in-Scenario c = rw c.in-Scenario.is c.format.ensures.ok

pub returns-in-Certificate : goal.returns-in-Certificate
unfolding refused_line digits
returns-in-Certificate c = rw c.in-Certificate.is c.format-in-Certificate.ensures.ok

pub returns-in-Split : goal.returns-in-Split
unfolding refused_line digits
returns-in-Split c = rw c.in-Split.is c.format-in-Split.ensures.ok

pub returns-in-Apart : goal.returns-in-Apart
unfolding refused_line digits
returns-in-Apart c = rw c.in-Apart.is c.format-in-Apart.ensures.ok

pub returns-in-Commit : goal.returns-in-Commit
unfolding refused_line digits
returns-in-Commit c = rw c.in-Commit.is c.format-in-Commit.ensures.ok

pub returns-in-NoScenario : goal.returns-in-NoScenario
unfolding refused_line digits
returns-in-NoScenario c = rw c.in-NoScenario.is c.format-in-NoScenario.ensures.ok

pub returns-in-Late : goal.returns-in-Late
unfolding refused_line digits
returns-in-Late c = rw c.in-Late.is c.format-in-Late.ensures.ok

pub returns-in-TreeCount : goal.returns-in-TreeCount
unfolding refused_line digits
returns-in-TreeCount c = rw c.in-TreeCount.is c.from_str-in-TreeCount.ensures.ok

pub returns-in-Memory : goal.returns-in-Memory
unfolding refused_line digits
returns-in-Memory c = rw c.in-Memory.is c.from_str-in-Memory.ensures.ok
