-- Facts about the files of specs/, and a lent output on its way to the text. Assumes nothing.
pub mod Lines
pub mod Text
pub mod Meaning
pub mod Claims
pub mod Samples
pub mod Placed
pub mod Progress
