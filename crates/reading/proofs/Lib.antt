-- Facts about the files of specs/, under the same names. Assumes nothing.
pub mod Data
pub mod Tallies
pub mod Places
pub mod Checks
pub mod Judgements
pub mod Whole
pub mod Parts
pub mod Meaning
pub mod Results
pub mod Claims
pub mod Scans
pub mod Ends
pub mod Samples
