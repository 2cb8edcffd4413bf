-- what a reader has to know of the crates below
pub use Rattle.convoy_scenario.specs.Scenario
pub use Rattle.convoy_sim.specs.Greatest
pub use Rattle.convoy_certificate.specs.Certificate
pub use Rattle.convoy_checker.specs.Validity
pub use Rattle.convoy_plans.specs.Plans
pub use Rattle.convoy_plans.specs.Placements
pub use Rattle.convoy_best_order.specs.Excesses
pub use Rattle.convoy_best_order.specs.Orders
pub use Rattle.convoy_best_order.specs.OrderLaws
pub use Rattle.convoy_best_order.specs.Targets
pub use Rattle.convoy_best_plan.specs.BestPlans
pub use Rattle.convoy_best_plan.specs.Floors
pub use Rattle.convoy_best_plan.specs.Leaves
pub use Rattle.convoy_best_plan.specs.Totals
pub use Rattle.convoy_commands.specs.Refusals
pub use Rattle.convoy_plan_certificate.specs.PlanTexts
pub use Rattle.convoy_plan_certificate.specs.Schedules
-- what a reader has to believe: what a certificate of a plan has to meet, and what is proved of it
pub mod Sites
pub mod Lateness
pub mod Trees
pub mod PlanValidity
pub mod PlanCheckLaws
pub mod RefusalLines
pub mod PlanCheckAnswers
