-- Facts about the files of specs/. Assumes nothing.
pub mod Scans
pub mod Entries
pub mod Turns
pub mod Whole
pub mod Steps
pub mod Meaning
pub mod Claims
pub mod Samples
pub mod Walks
