-- what a reader has to know of the crates below
pub use Rattle.convoy_scenario.specs.Scenario
pub use Rattle.convoy_plans.specs.Plans
pub use Rattle.convoy_plans.specs.Placements
pub use Rattle.convoy_ceiling.specs.Ceiling
pub use Rattle.convoy_branch.specs.Options
pub use Rattle.convoy_commands.specs.Faults
pub use Rattle.convoy_commands.specs.Replies
pub use Rattle.convoy_best_order.specs.Answers as OrderAnswers
pub use Rattle.convoy_best_order.specs.Cells as OrderCells
pub use Rattle.convoy_best_order.specs.Best
pub use Rattle.convoy_best_order.specs.Excesses
pub use Rattle.convoy_best_order.specs.OrderLaws
pub use Rattle.convoy_best_order.specs.Orders
pub use Rattle.convoy_best_order.specs.Targets
-- what a reader has to believe: what counts of two choices that are as late, what no choice is below, and which choice is told, and how
pub mod Totals
pub mod Floors
pub mod BestPlans
pub mod PlanTexts
pub mod Answers
-- how the search stands, and what excludes a placement
pub mod Witnesses
pub mod Leaves
pub mod ChoiceLaws
pub mod Standings
