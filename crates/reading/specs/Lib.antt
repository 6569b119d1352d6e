-- Reading one message. Assumes nothing.
pub mod Limits
pub mod Answers
pub mod Parts
pub mod Meaning
pub mod Data
pub mod Ends
pub mod Scan
pub mod Layouts
pub mod Read
pub mod Label
pub mod Claims
pub mod Rows
pub mod Samples
