pub mod Failures
pub mod ReferenceReads
pub mod TaskFaults
pub mod TextRuns
