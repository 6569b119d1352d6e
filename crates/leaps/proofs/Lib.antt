-- Where leaps lead, and the functions meet their contracts. Assumes nothing.
pub mod Phases
