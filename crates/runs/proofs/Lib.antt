-- Facts about runs, and the functions meet their contracts. Assumes nothing.
pub mod Runs
pub mod Alphabet
pub mod Lined
pub mod Standing
