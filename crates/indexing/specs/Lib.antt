-- Indexing a bundle. Assumes nothing.
pub mod Answers
pub mod Meaning
pub mod Index
pub mod Claims
pub mod Samples
