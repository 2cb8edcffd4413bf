pub use Rattle.convoy_draft.specs.Draft
pub use Rattle.convoy_scenario.specs.Numbering
pub use Rattle.convoy_scenario.specs.Scenario
pub use Rattle.convoy_scenario.specs.Targets
pub use Rattle.convoy_scenario.specs.WellFormed
pub use Rattle.convoy_packets.specs.Assignment
pub use Rattle.convoy_sim.specs.Delivery
pub use Rattle.convoy_sim.specs.Greatest
pub use Rattle.convoy_ceiling.specs.Ceiling
-- The greatest latency of any message at any of its groups.
pub mod GreatestAt
-- Two scenarios whose groups are listed in two orders.
pub mod Renumbered
pub mod ListedOrder
pub mod AllOrders
-- The same said of drafts.
pub mod Relisted
pub mod RelistedOrders
-- One scenario, and one draft, with narrower ranges.
pub mod NarrowerRanges
pub mod NarrowerDrafts
