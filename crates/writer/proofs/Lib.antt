-- Facts about the files of specs/, under the same names, and the functions meet their contracts. Assumes nothing.
pub mod Spread
pub mod Values
pub mod Steps
