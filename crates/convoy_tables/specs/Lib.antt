-- what a reader has to believe: what a table is, and how it is written
pub mod Tables
pub mod Formats
pub mod TableLaws
-- for private clauses
pub mod Records
