-- Writing one message. Assumes nothing.
pub mod Limits
pub mod Answers
pub mod Text
pub mod Meaning
pub mod Write
pub mod Claims
pub mod Samples
