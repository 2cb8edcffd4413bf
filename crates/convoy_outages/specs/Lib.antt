-- Outages: ticks at which groups may be silent, and a number that no latency exceeds through them.
pub mod Outages
pub mod OutageCeiling
pub mod Spans
pub mod OutageLaws
