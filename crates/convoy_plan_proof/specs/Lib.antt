-- what a reader has to know of the crates below
pub use Rattle.convoy_plans.specs.Placements
pub use Rattle.convoy_plans.specs.Plans
pub use Rattle.convoy_commands.specs.Replies
pub use Rattle.convoy_best_plan.specs.BestPlans
pub use Rattle.convoy_best_plan.specs.Answers as PlanAnswers
pub use Rattle.convoy_plan_certificate.specs.PlanTexts
pub use Rattle.convoy_plan_checker.specs.PlanCheckLaws
pub use Rattle.convoy_plan_checker.specs.PlanValidity
-- what a reader has to believe: what is made of a plan
pub mod PlanProofs
