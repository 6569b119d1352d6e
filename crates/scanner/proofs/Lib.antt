-- Facts about scans that advance, and the functions meet their contracts. Assumes nothing.
pub mod Advances
pub mod Walks
pub mod Boundaries
