-- Facts about the files of specs/, under the same names. Assumes nothing.
pub mod Runs
pub mod Marks
pub mod LineEnds
pub mod Styles
pub mod Grammars
pub mod Message
pub mod Counts
pub mod Families
pub mod Bundle
pub mod Samples
pub mod FamilySamples
pub mod Claims
