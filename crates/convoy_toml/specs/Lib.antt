-- what a reader has to know of the crates below
pub use Rattle.convoy_lines.specs.Results
pub use Rattle.convoy_draft.specs.Draft
pub use Rattle.convoy_draft.specs.Durations
pub use Rattle.convoy_draft.specs.Keys
pub use Rattle.convoy_scenario.specs.Memory
pub use Rattle.convoy_scenario.specs.Numbering
pub use Rattle.convoy_scenario.specs.Scenario
pub use Rattle.convoy_scenario.specs.WellFormed
pub use Rattle.convoy_around.specs.Around as AroundTargets
-- what a reader has to believe: what a share is, what stands in a table, which shares and which links it writes, which ways have none, what the replicas of groups need to agree, from where slow messages are sent, what its times are in ticks, what its deadlines are, which scenario is asked about, which text gives which scenario, which cases a text has, how long a reply takes, and what is proved of texts
pub mod Shares
pub mod Shape
pub mod Outside
pub mod Links
pub mod Ways
pub mod Agreements
pub mod Slow
pub mod Times
pub mod Deadlines
pub mod Around
pub mod Reading
pub mod Cases
pub mod Replies
pub mod TextLaws
