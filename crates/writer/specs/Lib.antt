-- The table of the writer, and the values of data on their way to characters. None of this has to be believed. Assumes nothing.
pub mod Spread
pub mod Values
pub mod Steps
