-- what a reader has to know of the crates below
pub use Rattle.convoy_scenario.specs.Scenario
pub use Rattle.convoy_sim.specs.Greatest
pub use Rattle.convoy_toml.specs.Cases as TextCases
pub use Rattle.convoy_toml.specs.Replies
pub use Rattle.convoy_outages.specs.Spans as OutageSpans
pub use Rattle.convoy_outage_runs.specs.OutageRuns
pub use Rattle.convoy_outage_answers.specs.Latencies
pub use Rattle.convoy_replicas.specs.Replicas
pub use Rattle.convoy_finish_answers.specs.AcceptedLatencies
pub use Rattle.convoy_outside.specs.Sums
pub use Rattle.convoy_branch.specs.Options
pub use Rattle.convoy_branch.specs.Outcomes
pub use Rattle.convoy_times.specs.Measures
pub use Rattle.convoy_commands.specs.ReplyLines
pub use Rattle.convoy_commands.specs.Verdicts
pub use Rattle.convoy_commands.specs.Outsides
pub use Rattle.convoy_commands.specs.Searches
-- what a reader has to believe: which cases there are, what is found of each, what is told of all, and what is answered
pub mod Cases
pub mod Founds
pub mod Told
pub mod CaseAnswers
