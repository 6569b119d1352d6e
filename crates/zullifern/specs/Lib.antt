-- The door of the library. Assumes nothing.
pub mod Answers
pub mod Reports
pub mod Demand2
pub mod Demand3
