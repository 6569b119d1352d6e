-- The grammars of RFC 7468 text, in the order of the requirements. Assumes nothing.
pub mod Marks
pub mod LineEnds
pub mod Grammars
pub mod Message
pub mod Families
pub mod Bundle
pub mod Starts
pub mod Claims
pub mod Samples
pub mod FamilySamples
