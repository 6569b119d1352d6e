-- What stands in a text from a place on. None of this has to be believed. Assumes nothing.
pub mod Runs
