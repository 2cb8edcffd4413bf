-- what a reader has to know of the crates below
pub use Rattle.convoy_times.specs.Measures
pub use Rattle.convoy_timeline.specs.Explanations
pub use Rattle.convoy_timeline.specs.PacketLists
pub use Rattle.convoy_traces.specs.Traces
pub use Rattle.convoy_fits.specs.Answers
-- what a reader has to believe: how times of a trace are told, in which words a verdict is, and what is answered
pub mod Scales
pub mod Words
pub mod Told
