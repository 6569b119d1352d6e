-- Demand 3, and that the functions meet their contracts. Assumes nothing.
pub mod Reports
pub mod Demand2
pub mod Demand3
