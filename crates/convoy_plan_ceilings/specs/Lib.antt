-- what a reader has to know of the crates below
pub use Rattle.convoy_scenario.specs.Scenario
pub use Rattle.convoy_plans.specs.Plans
pub use Rattle.convoy_plans.specs.Placements
pub use Rattle.convoy_ceiling.specs.Ceiling
pub use Rattle.convoy_commands.specs.Faults
pub use Rattle.convoy_commands.specs.Replies
pub use Rattle.convoy_best_order.specs.Excesses
pub use Rattle.convoy_best_order.specs.Targets
pub use Rattle.convoy_best_plan.specs.BestPlans
pub use Rattle.convoy_best_plan.specs.Floors
pub use Rattle.convoy_best_plan.specs.PlanTexts
pub use Rattle.convoy_best_plan.specs.Totals
-- what a reader has to believe: which placement is told, and how
pub mod LeastCeilings
pub mod CeilingTexts
pub mod Answers
pub mod CeilingChoiceLaws
-- how the search stands, and what excludes placements
pub mod Leasts
pub mod Bounds
pub mod Standings
