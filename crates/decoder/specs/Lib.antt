-- The table of the decoder, the group that is open, and what stands in an output on its way. None of this has to be believed. Assumes nothing.
pub mod Tables
pub mod Feeding
pub mod Decoding
