-- What is on its way to zeros, calls that are lent an output, the bytes of numbers, and that the functions meet their contracts. Assumes nothing.
pub mod Zeros
pub mod Calls
pub mod Numbers
