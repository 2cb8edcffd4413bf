-- what a reader has to know of the crates below
pub use Rattle.convoy_scenario.specs.Scenario
pub use Rattle.convoy_scenario.specs.WellFormed
pub use Rattle.convoy_scenario.specs.Naming
pub use Rattle.convoy_scenario_lines.specs.ScenarioLines
pub use Rattle.convoy_toml.specs.Reading
pub use Rattle.convoy_toml.specs.Deadlines
pub use Rattle.convoy_outside.specs.Percents
pub use Rattle.convoy_outside.specs.Sums
pub use Rattle.convoy_draft.specs.Keys
pub use Rattle.convoy_times.specs.Measures
pub use Rattle.convoy_toml.specs.Shape
pub use Rattle.convoy_ranges.specs.Answers as RangeAnswers
pub use Rattle.convoy_plans.specs.Shape as PlanShape
pub use Rattle.convoy_kinds.specs.Shape as KindsShape
pub use Rattle.convoy_scenario.specs.Memory
pub use Rattle.convoy_streams.specs.Devices
pub use Rattle.convoy_streams.specs.Reads
pub use Rattle.convoy_streams.specs.Writes
pub use Rattle.convoy_streams.specs.Streams
pub use Rattle.convoy_packets.specs.Assignment
pub use Rattle.convoy_packets.specs.Given
pub use Rattle.convoy_packets.specs.Table
pub use Rattle.convoy_sim.specs.Delivery
pub use Rattle.convoy_sim.specs.Scheduled
pub use Rattle.convoy_sim.specs.Greatest
pub use Rattle.convoy_sim.specs.Record
pub use Rattle.convoy_ceiling.specs.Ceiling
pub use Rattle.convoy_ceiling.specs.Targets
pub use Rattle.convoy_ceiling.specs.Finding
pub use Rattle.convoy_outages.specs.Outages
pub use Rattle.convoy_outages.specs.OutageCeiling
pub use Rattle.convoy_outages.specs.Spans as OutageSpans
pub use Rattle.convoy_toml_writer.specs.Text as ScenarioText
pub use Rattle.convoy_timeline.specs.Timeline
pub use Rattle.convoy_timeline.specs.Causes
pub use Rattle.convoy_timeline.specs.Explanations
pub use Rattle.convoy_timeline.specs.PacketLists
pub use Rattle.convoy_picture.specs.Pictures
pub use Rattle.convoy_picture.specs.Words as PictureWords
pub use Rattle.convoy_draw.specs.Drawings
pub use Rattle.convoy_certificate.specs.Certificate
pub use Rattle.convoy_certificate.specs.Reading as CertificateReading
pub use Rattle.convoy_certificate.specs.Text as CertificateText
pub use Rattle.convoy_certificate.specs.TextForms
pub use Rattle.convoy_checker.specs.Checks as CertificateChecks
pub use Rattle.convoy_checker.specs.Steps as CertificateSteps
pub use Rattle.convoy_checker.specs.Validity
pub use Rattle.convoy_branch.specs.SearchBounds
pub use Rattle.convoy_branch.specs.Fronts
pub use Rattle.convoy_branch.specs.Outcomes
pub use Rattle.convoy_branch.specs.Limits
pub use Rattle.convoy_branch.specs.BothWays
pub use Rattle.convoy_branch.specs.Options
-- what a reader has to believe: which answers each command may give
pub mod Measured
pub mod ReplyLines
pub mod Verdicts
pub mod Outsides
pub mod Faults
pub mod Refusals
pub mod Replies
pub mod Schedules
pub mod First
pub mod Ranging
pub mod Checks
pub mod Inputs
pub mod Tells
pub mod Explains
pub mod Draws
pub mod Asks
pub mod Withins
pub mod Searches
pub mod Ceilings
pub mod WithCeilings
pub mod Ends
pub mod CommandLaws
